-- The tests of `writable` are those of the list. Assumes nothing.
use mathlib.Core.Logic.{◌⊎◌, inl, inr}
use Prim.Native.Nat.{ℕ, ◌<◌}
use native.Mathlib.Omega.{arith}
use lib.ListN.{get_or}
use Rattle.writing.specs.Unwritable.{ViewOutside, LastAndEmpty, TlvTyped}
use Rattle.writing.proofs.Unwritable.{FalseWhere, restated, past_limit, SomeEntry, entries_unwritable}
use Rattle.tlv_table.proofs.Unwritable.{walked_unwritable}
use Rattle.initiation_message.specs.Shown.{zero_tlv}
use Rattle.initiation_message_writer.specs.Write.{tlv_writable, writer, writable}
use Rattle.initiation_message_writer.specs.Unwritable.{TlvUnwritable, view_outside, last_and_empty, Unwritable, too_many, some_tlv, Typed}
use Rattle.initiation_message.specs.declared.InitiationTlv.{InitiationTlv}
use Rattle.initiation_message.specs.declared.InitiationMessage.{InitiationMessage}

tlv_listed : (room after : ℕ) (t : InitiationTlv) → TlvTyped t.kind t.info_len → FalseWhere (tlv_writable room after t) (TlvUnwritable t after room)
tlv_listed room after t y = restated forth back (walked_unwritable t.kind t.place t.info_len room y after)
  where
    forth : ViewOutside t.place t.info_len room ⊎ LastAndEmpty t.info_len after → TlvUnwritable t after room
    forth (inl x) = view_outside x
    forth (inr x) = last_and_empty x

    back : TlvUnwritable t after room → ViewOutside t.place t.info_len room ⊎ LastAndEmpty t.info_len after
    back (view_outside x) = inl x
    back (last_and_empty x) = inr x

module _ (m : InitiationMessage) (room : ℕ) where
  abbrev Items : Type 0
  Items = (32 < m.count) ⊎ SomeEntry (λ after t. TlvUnwritable t after room) m.count m.tlvs zero_tlv

  forth : Items → Unwritable m room
  forth (inl x) = too_many x
  forth (inr x) = some_tlv x.at x.below x.holds

  back : Unwritable m room → Items
  back (too_many x) = inl x
  back (some_tlv i below x) = inr (record { at = i; below = below; holds = x })

  pub listed : Typed m → FalseWhere (writable m room) (Unwritable m room)
  listed y =
      restated forth back
      (past_limit 32 m.count
      (λ few. entries_unwritable writer room zero_tlv (λ after t. TlvUnwritable t after room) m.count m.tlvs (omega (arith, few, y.table_long))
      (λ i below after. tlv_listed room after (get_or m.tlvs i zero_tlv) (y.each_typed i (omega (arith, below, few))))))
