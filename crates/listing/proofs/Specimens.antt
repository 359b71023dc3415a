-- The worked example of a listing, the shortest listing and the listing of what is too long. Assumes nothing.
use mathlib.Core.Path.{◌≡◌, refl}
use mathlib.Core.List.{List, [], ◌∷◌, ◌++◌}
use Prim.Native.Nat.{ℕ, ◌<◌}
use lib.ListN.{length}
use Rattle.wire.specs.Bytes.{value}
use Rattle.wire.specs.Walk.{walk, fill}
use Rattle.common_header.specs.Shown.{type_of, kind_of}
use Rattle.common_header.specs.Fields.{read_fields}
use Rattle.initiation_message.specs.Read.{step}
use Rattle.decimal.specs.Decimal.{digits_in}
use Rattle.message_answer.specs.Answer.{answer_of}
use Rattle.listing.specs.Text.{ascii}
use Rattle.listing.specs.Listing.{longest, text}
use Rattle.listing.proofs.Whole.{text_too_long}

-- an Initiation message with one TLV, 03 0000000b 04 0002000141, and then one of an unknown type, 03 00000006 07
abbrev stream : List ℕ
stream = 3 ∷ 0 ∷ 0 ∷ 0 ∷ 11 ∷ 4 ∷ 0 ∷ 2 ∷ 0 ∷ 1 ∷ 65 ∷ 3 ∷ 0 ∷ 0 ∷ 0 ∷ 6 ∷ 7 ∷ []

pub example : text stream
    ≡ ascii "place type length answer\n"
    ++ (ascii "0 4 11 0\n"
    ++ (ascii "11 7 6 skip\n"
    ++ ascii "end 17\n"))
unfolding value walk fill type_of kind_of read_fields step digits_in answer_of text
example = refl

-- a stream without a byte
pub nothing : text [] ≡ ascii "place type length answer\n" ++ ascii "end 0\n"
unfolding value walk digits_in text
nothing = refl

-- any stream that is too long
pub too_long : (s : List ℕ) → longest < length s → text s ≡ ascii "place type length answer\n" ++ (ascii "0 - - 1\n" ++ ascii "end 0\n")
unfolding digits_in
too_long s h = text_too_long s h
