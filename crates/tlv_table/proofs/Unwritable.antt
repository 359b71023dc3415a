-- A TLV whose value is a part, of which the entry keeps the place and the length, is not writable for its view alone; before a walk
-- that goes on while more than 4 bytes are left, also where it is the last and empty. Assumes nothing.
use mathlib.Core.Path.{◌≡◌, refl}
use mathlib.Core.Bool.{Bool, true, false}
use mathlib.Core.Logic.{◌⊎◌, inl, inr}
use Prim.Native.Nat.{ℕ}
use native.Mathlib.Omega.{arith}
use borrow.Author.Tests.{ltb-true, ltb-false}
use lib.Dec.{ltb}
use Rattle.wire.specs.Bytes.{pick}
use Rattle.wire.specs.View.{view}
use Rattle.writing.specs.Unwritable.{ViewOutside, LengthNotKept, LastAndEmpty, TlvTyped}
use Rattle.writing.proofs.Unwritable.{FalseWhere, restated, not_below, never, either_picked, tlv_unwritable}
use Rattle.tlv_table.specs.Tlvs.{entry_writable, entry_writable_before}
use Rattle.tlv_table.specs.declared.TlvValue.TheVariants.{Part}
use Rattle.tlv_table.specs.declared.TlvEntry.{TlvEntry}

last_unwritable : (size after : ℕ) → FalseWhere (pick (ltb 0 size) true (ltb 0 after)) (LastAndEmpty size after)
last_unwritable size after = go (ltb 0 size) refl
  where
    go : (c : Bool) → ltb 0 size ≡ c → FalseWhere (pick c true (ltb 0 after)) (LastAndEmpty size after)
    go true h = restated (λ x. absurd x) (λ u. absurd (omega (arith, ltb-true 0 size h, u.0))) (never refl)
    go false h = restated (λ none. (omega (arith, ltb-false 0 size h), omega (arith, none))) (λ u. omega (arith, u.1)) (not_below 0 after)

module _ (kind place size room : ℕ) (t : TlvTyped kind size) where
  abbrev part : TlvEntry
  part = record { kind = kind; size = size; value = Part (view place size) }

  pub part_unwritable : FalseWhere (entry_writable room part) (ViewOutside place size room)
  unfolding entry_writable
  part_unwritable = restated forth inr (tlv_unwritable kind size (view place size) room t.kind_fits t.length_fits)
    where
      forth : LengthNotKept size size ⊎ ViewOutside place size room → ViewOutside place size room
      forth (inl x) = absurd (x refl)
      forth (inr x) = x

  pub walked_unwritable : (after : ℕ) → FalseWhere (entry_writable_before room after part) (ViewOutside place size room ⊎ LastAndEmpty size after)
  unfolding entry_writable_before
  walked_unwritable after = either_picked part_unwritable (last_unwritable size after)
