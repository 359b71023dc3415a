-- The tests of `data_writable` are those of the list. Assumes nothing.
use mathlib.Core.Path.{◌≡◌}
use mathlib.Core.Logic.{◌⊎◌, inl, inr}
use Prim.Native.Nat.{ℕ, ◌^◌}
use borrow.Author.Tests.{lt-ltb}
use Rattle.wire.specs.declared.View.{View}
use Rattle.writing.specs.Unwritable.{ViewOutside, LengthNotKept}
use Rattle.writing.proofs.Unwritable.{FalseWhere, restated, not_equal, refused_number, tlv_unwritable}
use Rattle.stats_data_writer.specs.Write.{data_writable}
use Rattle.stats_data_writer.specs.Unwritable.{KindNotLength, RawNotKept, RawOutside, Unwritable, kind_not_length, raw_not_kept, raw_outside, Typed}
use Rattle.stats_data.specs.declared.StatsData.{StatsData}
use Rattle.stats_data.specs.declared.StatsData.TheVariants.{Counter, Gauge, AfiSafiGauge, Unknown}

module _ (room kind size : ℕ) where
  -- only a raw value has a view
  no-view : {d : StatsData} → (RawNotKept size d → ⊥) → (RawOutside d room → ⊥) → Unwritable d size room → KindNotLength size d
  no-view kept inside (kind_not_length x) = x
  no-view kept inside (raw_not_kept x) = absurd (kept x)
  no-view kept inside (raw_outside x) = absurd (inside x)

  -- the items of a raw value, in the order of its tests
  abbrev RawItems : View → Type 0
  RawItems v = (size ≡ 4) ⊎ ((size ≡ 8) ⊎ ((size ≡ 11) ⊎ (LengthNotKept v.length size ⊎ ViewOutside v.place v.length room)))

  raw_forth : {v : View} → RawItems v → Unwritable (Unknown v) size room
  raw_forth (inl x) = kind_not_length (inl x)
  raw_forth (inr (inl x)) = kind_not_length (inr (inl x))
  raw_forth (inr (inr (inl x))) = kind_not_length (inr (inr (inl x)))
  raw_forth (inr (inr (inr (inl x)))) = raw_not_kept x
  raw_forth (inr (inr (inr (inr x)))) = raw_outside x

  raw_back : {v : View} → Unwritable (Unknown v) size room → RawItems v
  raw_back (kind_not_length (inl x)) = inl x
  raw_back (kind_not_length (inr (inl x))) = inr (inl x)
  raw_back (kind_not_length (inr (inr (inl x)))) = inr (inr (inl x))
  raw_back (kind_not_length (inr (inr (inr x)))) = absurd x
  raw_back (raw_not_kept x) = inr (inr (inr (inl x)))
  raw_back (raw_outside x) = inr (inr (inr (inr x)))

  pub listed : (d : StatsData) → Typed kind size d → FalseWhere (data_writable room kind size d) (Unwritable d size room)
  unfolding data_writable
  listed (Counter n) t =
      rw (lt-ltb kind (256 ^ 2) t.kind_fits, lt-ltb n (256 ^ 4) t.numbers_fit)
      (restated kind_not_length (no-view (λ x. x) (λ x. x)) (not_equal size 4))
  listed (Gauge n) t =
      rw (lt-ltb kind (256 ^ 2) t.kind_fits, lt-ltb n (256 ^ 8) t.numbers_fit)
      (restated kind_not_length (no-view (λ x. x) (λ x. x)) (not_equal size 8))
  listed (AfiSafiGauge afi safi n) t =
      rw (
        lt-ltb kind (256 ^ 2) t.kind_fits,
        lt-ltb afi (256 ^ 2) t.numbers_fit.0,
        lt-ltb safi (256 ^ 1) t.numbers_fit.1,
        lt-ltb n (256 ^ 8) t.numbers_fit.2,
      )
      (restated kind_not_length (no-view (λ x. x) (λ x. x)) (not_equal size 11))
  listed (Unknown v) t =
      restated raw_forth raw_back
      (refused_number size 4 (refused_number size 8 (refused_number size 11 (tlv_unwritable kind size v room t.kind_fits t.size_fits))))
