-- The tests of `writable` are those of the list. Assumes nothing.
use mathlib.Core.Path.{◌≡◌, refl}
use mathlib.Core.Bool.{Bool, true, false}
use mathlib.Core.Logic.{◌⊎◌, inl, inr}
use Prim.Native.Nat.{ℕ, ◌%◌, ◌≤◌, ◌<◌}
use native.Mathlib.Omega.{arith}
use borrow.Author.Tests.{ltb-true, ltb-false, eqb-true, eqb-false}
use lib.Dec.{ltb, eqb, lit<}
use lib.ListN.{get_or}
use Rattle.wire.specs.Bytes.{pick}
use Rattle.writing.specs.Unwritable.{AboveLast, ViewOutside, LastAndEmpty, LengthNotTwo, TlvTyped}
use Rattle.writing.proofs.Unwritable.{FalseWhere, restated, writable_unless, within, the_one, not_equal, not_up_to, either_picked, past_limit, SomeEntry, entries_unwritable}
use Rattle.tlv_table.specs.Tlvs.{entry_writable_before}
use Rattle.tlv_table.specs.declared.TlvValue.TheVariants.{Part, Number}
use Rattle.tlv_table.proofs.Unwritable.{walked_unwritable}
use Rattle.termination_message.specs.Shown.{text_of, zero_tlv}
use Rattle.termination_message_writer.specs.Write.{reason_writable, tlv_writable, writer, writable}
use Rattle.termination_message_writer.specs.Unwritable.{TlvUnwritable, unknown_type, view_outside, last_and_empty, reason_not_two, unknown_reason, Unwritable, too_many, some_tlv, Typed}
use Rattle.termination_message.specs.declared.TerminationTlv.{TerminationTlv}
use Rattle.termination_message.specs.declared.TerminationMessage.{TerminationMessage}

-- ---- a TLV that is no String
abbrev ReasonItems : TerminationTlv → Type 0
ReasonItems t = AboveLast 1 t.kind ⊎ (LengthNotTwo t.info_len ⊎ AboveLast 4 t.number)

reason_unwritable : (t : TerminationTlv) → FalseWhere (reason_writable t) (ReasonItems t)
reason_unwritable t = past_limit 1 t.kind (λ low. either_picked (not_equal t.info_len 2) (not_up_to t.number 4))

-- what it is where it is writable
pub reason-writable : (t : TerminationTlv) → reason_writable t ≡ true → (t.kind ≤ 1) × (t.info_len ≡ 2) × (t.number ≤ 4)
reason-writable t e =
    let none = writable_unless (reason_unwritable t) e in
    (within 1 t.kind (λ x. none (inl x)), the_one t.info_len 2 (λ x. none (inr (inl x))), within 4 t.number (λ x. none (inr (inr x))))

module _ (room after : ℕ) (t : TerminationTlv) where
  abbrev StringItems : Type 0
  StringItems = ViewOutside t.number t.info_len room ⊎ LastAndEmpty t.info_len after

  string_forth : t.kind ≡ 0 → StringItems → TlvUnwritable t after room
  string_forth is (inl x) = view_outside is x
  string_forth is (inr x) = last_and_empty x

  string_back : t.kind ≡ 0 → TlvUnwritable t after room → StringItems
  string_back is (unknown_type x) = absurd (omega (arith, is, x))
  string_back is (view_outside k x) = inl x
  string_back is (last_and_empty x) = inr x
  string_back is (reason_not_two k x) = absurd (omega (arith, is, k))
  string_back is (unknown_reason k x) = absurd (omega (arith, is, k))

  reason_forth : (t.kind ≡ 0 → ⊥) → ReasonItems t → TlvUnwritable t after room
  reason_forth other x = go (ltb 1 t.kind) refl x
    where
      go : (c : Bool) → ltb 1 t.kind ≡ c → ReasonItems t → TlvUnwritable t after room
      go true h y = unknown_type (omega (arith, ltb-true 1 t.kind h))
      go false h (inl y) = unknown_type (omega (arith, y))
      go false h (inr (inl y)) = reason_not_two (omega (arith, other, ltb-false 1 t.kind h)) y
      go false h (inr (inr y)) = unknown_reason (omega (arith, other, ltb-false 1 t.kind h)) (omega (arith, y))

  reason_back : (t.kind ≡ 0 → ⊥) → TlvUnwritable t after room → ReasonItems t
  reason_back other (unknown_type x) = inl (omega (arith, x))
  reason_back other (view_outside k x) = absurd (other k)
  reason_back other (last_and_empty x) = inr (inl (λ two. absurd (omega (arith, two, x.0))))
  reason_back other (reason_not_two k x) = inr (inl x)
  reason_back other (unknown_reason k x) = inr (inr (omega (arith, x)))

  tlv_listed : TlvTyped t.kind t.info_len → FalseWhere (tlv_writable room after t) (TlvUnwritable t after room)
  unfolding tlv_writable
  tlv_listed y = go (eqb t.kind 0) refl
    where
      go : (c : Bool) → eqb t.kind 0 ≡ c
          → FalseWhere (pick c (entry_writable_before room after (record { kind = pick c 0 1; size = t.info_len; value = pick c (Part (text_of t)) (Number (t.number % 65536)) })) (reason_writable t))
          (TlvUnwritable t after room)
      go true h =
          let is = eqb-true t.kind 0 h in
          restated (string_forth is) (string_back is)
          (walked_unwritable 0 t.number t.info_len room (record { kind_fits = lit< tt; length_fits = y.length_fits }) after)
      go false h =
          let other = eqb-false t.kind 0 h in
          restated (reason_forth other) (reason_back other) (reason_unwritable t)

module _ (m : TerminationMessage) (room : ℕ) where
  abbrev Items : Type 0
  Items = (32 < m.count) ⊎ SomeEntry (λ after t. TlvUnwritable t after room) m.count m.tlvs zero_tlv

  forth : Items → Unwritable m room
  forth (inl x) = too_many x
  forth (inr x) = some_tlv x.at x.below x.holds

  back : Unwritable m room → Items
  back (too_many x) = inl x
  back (some_tlv i below x) = inr (record { at = i; below = below; holds = x })

  pub listed : Typed m → FalseWhere (writable m room) (Unwritable m room)
  listed y =
      restated forth back
      (past_limit 32 m.count
      (λ few. entries_unwritable writer room zero_tlv (λ after t. TlvUnwritable t after room) m.count m.tlvs (omega (arith, few, y.table_long))
      (λ i below after. tlv_listed room after (get_or m.tlvs i zero_tlv) (y.each_typed i (omega (arith, below, few))))))
