-- Streams and what the splitter answers to each, from the rules in docs/RULES.md. Assumes nothing.
use Prim.Native.Nat.{ℕ}
use mathlib.Core.List.{List, [], ◌∷◌, map}
use mathlib.Core.Path.{◌≡◌, refl}
use mathlib.Core.Bool.{Bool, true, false}
use Rattle.wire.specs.Bytes.{value}
use Rattle.std.specs.declared.result.Result.TheVariants.{Ok, Err}
use Rattle.wire.specs.Number as Number
use Rattle.wire.specs.Refusal.{refusal, no_refusal, lacking}
use Rattle.wire.specs.declared.Refusal.{Refusal}
use Rattle.common_header.specs.Shown.{type_of, kind_of}
use Rattle.common_header.specs.Fields.{read_fields}
use Rattle.splitter.specs.Shown.{SplitAnswer, refusal_of, stop_of, fields_in}
use Rattle.splitter.specs.Read.{split_of}
use Rattle.splitter.specs.declared.Split.{Split}

-- refusal, stop, type, and whether the message is skipped
pub record Told : Type 0 where
  pub refusal : Refusal
  pub stop : ℕ
  pub kind : ℕ
  pub skipped : Bool

abbrev is_skipped : SplitAnswer → Bool
is_skipped (Ok (Split.Message h v)) = false
is_skipped (Ok (Split.Skipped f v)) = true
is_skipped (Err r) = false

abbrev told : List ℕ → Told
told s =
    let a = split_of s in
    record { refusal = refusal_of a; stop = stop_of a; kind = (fields_in a).kind; skipped = is_skipped a }

abbrev streams : List (List ℕ)
streams =
    []
    -- two messages, of which the first is whole: 03 0000000b 04 0002000141, then 03 00000006 07
    ∷ (3 ∷ 0 ∷ 0 ∷ 0 ∷ 11 ∷ 4 ∷ 0 ∷ 2 ∷ 0 ∷ 1 ∷ 65 ∷ 3 ∷ 0 ∷ 0 ∷ 0 ∷ 6 ∷ 7 ∷ [])
    ∷ (3 ∷ 0 ∷ 0 ∷ 0 ∷ 5 ∷ 6 ∷ [])
    ∷ (3 ∷ 0 ∷ 0 ∷ 0 ∷ 9 ∷ 4 ∷ [])
    ∷ (3 ∷ 0 ∷ 16 ∷ 0 ∷ 1 ∷ 4 ∷ [])
    -- of an unknown type: whole, too short for a header, not all there, and with three bytes that nobody reads
    ∷ (3 ∷ 0 ∷ 0 ∷ 0 ∷ 6 ∷ 7 ∷ [])
    ∷ (3 ∷ 0 ∷ 0 ∷ 0 ∷ 5 ∷ 7 ∷ [])
    ∷ (3 ∷ 0 ∷ 0 ∷ 0 ∷ 9 ∷ 7 ∷ [])
    ∷ (3 ∷ 0 ∷ 0 ∷ 0 ∷ 9 ∷ 7 ∷ 255 ∷ 255 ∷ 255 ∷ [])
    ∷ []

abbrev answers : List Told
answers =
    record { refusal = lacking 0 1; stop = 0; kind = 0; skipped = false }
    ∷ record { refusal = no_refusal; stop = 11; kind = 4; skipped = false }
    ∷ record { refusal = refusal Number.BadMessageLength 1; stop = 0; kind = 0; skipped = false }
    ∷ record { refusal = lacking 6 3; stop = 0; kind = 0; skipped = false }
    ∷ record { refusal = refusal Number.TooLong 1; stop = 0; kind = 0; skipped = false }
    ∷ record { refusal = no_refusal; stop = 6; kind = 7; skipped = true }
    ∷ record { refusal = refusal Number.BadMessageLength 1; stop = 0; kind = 0; skipped = false }
    ∷ record { refusal = lacking 6 3; stop = 0; kind = 0; skipped = false }
    ∷ record { refusal = no_refusal; stop = 9; kind = 7; skipped = true }
    ∷ []

pub streams_answered : map told streams ≡ answers
unfolding value read_fields type_of kind_of
streams_answered = refl
