-- A body that conforms to RFC 7854 is read, and shown TLV by TLV. Assumes nothing.
use mathlib.Core.Path.{◌≡◌, refl, sym, ◌∙◌, subst}
use mathlib.Core.List.{List, [], ◌∷◌, ◌++◌, map, append-nil}
use mathlib.Core.Logic.{◌⊎◌, inl, inr}
use Prim.Native.Nat.{ℕ, ◌≤◌, ◌<◌}
use native.Mathlib.Omega.{arith}
use lib.ListN.{length, length-map}
use Rattle.wire.specs.Number as Number
use Rattle.wire.specs.Bytes.{be, none}
use Rattle.wire.specs.Tlv.{short, GoodTail}
use Rattle.wire.specs.Rfc.{Each, Last}
use Rattle.wire.specs.Exactly.{Shows}
use Rattle.wire.proofs.Rfc.{information_good, join_together, each_but_last, together_last, each_last, some_of, information-bytes}
use Rattle.wire.proofs.Tlv.{put_tlv_long}
use Rattle.wire.proofs.Exactly.{shows_good}
use Rattle.termination_message.specs.Grammar.{put, ReadTlv, Good, places}
use Rattle.termination_message.specs.Read.{reader}
use Rattle.termination_message.specs.Rfc.{Item, string, reason, bytes, item_bytes, ItemFits, Conforms, NotEmpty, as_tlv, reading, reading_but_last}
use Rattle.termination_message.proofs.Promises.{complete}

item_put : (t : Item) (r : List ℕ) → ItemFits t → put (as_tlv t) r ≡ item_bytes t ++ r
unfolding be
item_put (string text) r f = refl
item_put (reason code) r f = refl

-- a Reason has a value, so only a String asks for one or for something that follows it
read_in_front : (t : Item) (r : List ℕ) → ItemFits t → NotEmpty t ⊎ (0 < length r) → ReadTlv (as_tlv t) r
read_in_front (string text) r f e =
    let long = put_tlv_long (record { kind = 0; size = length text; value = text }) r in
    record { well_formed = information_good _ f; more_than_four = omega (arith, long, some_of e) }
read_in_front (reason code) r f e = record { size_fits = omega arith; size_within = omega arith; code_known = f }

some_bytes : (t : Item) → 0 < length (item_bytes t)
unfolding be
some_bytes t = omega arith

-- in front of a tail of at most 4 bytes
shown_before : (l : List Item) (z : List ℕ) → Each ItemFits l → Last NotEmpty l ⊎ (0 < length z) → GoodTail (short z) → length l ≤ places
    → (s : List ℕ) → bytes l ++ z ≡ s → length s ≤ Number.limit → Shows reader s (record { tlvs = map as_tlv l; tail = short z })
shown_before l z fits ends few room s whole limit =
    let good : Good (record { tlvs = map as_tlv l; tail = short z }) =
    record {
      each = each_but_last ItemFits put as_tlv item_bytes item_put NotEmpty ReadTlv some_bytes read_in_front l z fits ends;
      tail_good = record { well_formed = few; type-known = tt };
    } in
    shows_good reader complete _ good (subst (λ (n : ℕ). n ≤ places) (sym (length-map l as_tlv)) room) s
    (join_together ItemFits put as_tlv item_bytes item_put l z fits ∙ whole) limit

-- A conforming body whose last TLV is no empty String is shown TLV by TLV, with nothing left.
pub conforming_shown : (l : List Item) → Conforms l → Last NotEmpty l → length l ≤ places → length (bytes l) ≤ Number.limit
    → Shows reader (bytes l) (reading l)
conforming_shown l c ends room limit =
    shown_before l [] c.each_fits (inl ends) (omega arith, none) room (bytes l) (append-nil (bytes l)) limit

-- An empty String at the very end is taken for a tail.
pub conforming_but_last : (l : List Item) → Conforms (l ++ (string [] ∷ [])) → length l ≤ places → length (bytes (l ++ (string [] ∷ []))) ≤ Number.limit
    → Shows reader (bytes (l ++ (string [] ∷ []))) (reading_but_last l)
unfolding be
conforming_but_last l c room limit =
    let fits = each_last ItemFits l (string []) c.each_fits in
    shown_before l (item_bytes (string [])) fits.0 (inr (omega arith)) (omega arith, information-bytes _ fits.1) room
    (bytes (l ++ (string [] ∷ []))) (sym (together_last item_bytes l (string []))) limit
