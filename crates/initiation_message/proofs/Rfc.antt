-- A body that conforms to RFC 7854 is read, and shown TLV by TLV. Assumes nothing.
use mathlib.Core.Path.{◌≡◌, sym, ◌∙◌, subst}
use mathlib.Core.List.{List, [], ◌∷◌, ◌++◌, map, append-nil}
use mathlib.Core.Logic.{◌⊎◌, inl, inr}
use Prim.Native.Nat.{ℕ, ◌≤◌, ◌<◌}
use native.Mathlib.Omega.{arith}
use lib.ListN.{length, length-map}
use Rattle.wire.specs.Number as Number
use Rattle.wire.specs.Bytes.{be, none}
use Rattle.wire.specs.Tlv.{short, put_tlv, GoodTail}
use Rattle.wire.specs.Rfc.{Each, Last, Information, information_bytes, InformationFits, as_tlv}
use Rattle.wire.specs.Exactly.{Shows}
use Rattle.wire.proofs.Rfc.{information_put, information_good, join_together, each_but_last, together_last, each_last, some_of, information-bytes}
use Rattle.wire.proofs.Tlv.{put_tlv_long}
use Rattle.wire.proofs.Exactly.{shows_good}
use Rattle.initiation_message.specs.Grammar.{ReadTlv, Good, places}
use Rattle.initiation_message.specs.Read.{reader}
use Rattle.initiation_message.specs.Rfc.{Conforms, bytes, NotEmpty, reading, reading_but_last}
use Rattle.initiation_message.proofs.Promises.{complete}

read_in_front : (t : Information) (r : List ℕ) → InformationFits t → NotEmpty t ⊎ (0 < length r) → ReadTlv (as_tlv t) r
read_in_front t r f e = record { well_formed = information_good t f; more_than_four = omega (arith, put_tlv_long (as_tlv t) r, some_of e) }

some_bytes : (t : Information) → 0 < length (information_bytes t)
unfolding be
some_bytes t = omega arith

-- in front of a tail of at most 4 bytes
shown_before : (l : List Information) (z : List ℕ) → Each InformationFits l → Last NotEmpty l ⊎ (0 < length z) → GoodTail (short z) → length l ≤ places
    → (s : List ℕ) → bytes l ++ z ≡ s → length s ≤ Number.limit → Shows reader s (record { tlvs = map as_tlv l; tail = short z })
shown_before l z fits ends few room s whole limit =
    let good : Good (record { tlvs = map as_tlv l; tail = short z }) =
    record {
      each = each_but_last InformationFits put_tlv as_tlv information_bytes information_put NotEmpty ReadTlv some_bytes read_in_front l z fits ends;
      tail_good = few;
    } in
    shows_good reader complete _ good (subst (λ (n : ℕ). n ≤ places) (sym (length-map l as_tlv)) room) s
    (join_together InformationFits put_tlv as_tlv information_bytes information_put l z fits ∙ whole) limit

-- A conforming body whose last TLV is not empty is shown TLV by TLV, with nothing left.
pub conforming_shown : (l : List Information) → Conforms l → Last NotEmpty l → length l ≤ places → length (bytes l) ≤ Number.limit
    → Shows reader (bytes l) (reading l)
conforming_shown l c ends room limit =
    shown_before l [] c.each_fits (inl ends) (omega arith, none) room (bytes l) (append-nil (bytes l)) limit

-- An empty TLV at the very end is taken for a tail.
pub conforming_but_last : (l : List Information) (last : Information) → Conforms (l ++ (last ∷ [])) → length last.value ≡ 0
    → length l ≤ places → length (bytes (l ++ (last ∷ []))) ≤ Number.limit
    → Shows reader (bytes (l ++ (last ∷ []))) (reading_but_last l last)
unfolding be
conforming_but_last l last c empty room limit =
    let fits = each_last InformationFits l last c.each_fits in
    shown_before l (information_bytes last) fits.0 (inr (omega arith)) (omega arith, information-bytes last fits.1) room
    (bytes (l ++ (last ∷ []))) (sym (together_last information_bytes l last)) limit
