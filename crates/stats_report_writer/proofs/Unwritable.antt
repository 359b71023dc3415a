-- The tests of `writable` are those of the list. Assumes nothing.
use mathlib.Core.Path.{◌≡◌, refl}
use mathlib.Core.Bool.{Bool, true, false}
use mathlib.Core.List.{[], ◌∷◌}
use mathlib.Core.Logic.{◌⊎◌, inl, inr}
use Prim.Native.Nat.{ℕ, ◌%◌, ◌^◌, ◌≤◌, ◌<◌}
use native.Mathlib.Omega.{arith}
use borrow.Author.Tests.{eqb-true, eqb-false}
use lib.Dec.{eqb}
use lib.ListN.{get_or}
use Rattle.wire.specs.Bytes.{pick}
use Rattle.wire.specs.Refuses.{OneOf}
use Rattle.wire.specs.View.{view}
use Rattle.writing.proofs.Unwritable.{FalseWhere, restated, not_equal, not_below, never, either_picked, past_limit, by_equal, SomeEntry, entries_unwritable}
use Rattle.stats_data.specs.Shown.{data_of}
use Rattle.stats_data.specs.declared.StatsData.{StatsData}
use Rattle.stats_data.specs.declared.StatsData.TheVariants.{Counter, Gauge, AfiSafiGauge, Unknown}
use Rattle.stats_data_writer.specs.Write.{data_writable}
use Rattle.stats_data_writer.specs.Unwritable as Data
use Rattle.stats_data_writer.proofs.Unwritable as Law
use Rattle.stats_report.specs.Shown.{zero_counter}
use Rattle.stats_report_writer.specs.Write.{plain, counter_writable, writer, writable}
use Rattle.stats_report_writer.specs.Unwritable.{CountNotTheirs, RawOutside, CounterUnwritable, counter_too_large, safi_too_large, afi_unused, safi_unused, raw_outside, Unwritable, too_many, count_not_theirs, some_counter, CounterTyped, Typed}
use Rattle.stats_report.specs.declared.StatCounter.{StatCounter}
use Rattle.stats_report.specs.declared.StatsReport.{StatsReport}

-- ---- data of the kind that the length says is refused for its view alone
module _ (room kind size afi safi value : ℕ) (kind_fits : kind < 256 ^ 2) (size_fits : size < 256 ^ 2) (afi_fits : afi < 256 ^ 2) (value_fits : value < 256 ^ 8) where
  listed-data : (d : StatsData) → Data.NumbersFit d → FalseWhere (data_writable room kind size d) (Data.Unwritable d size room)
  listed-data d fit = Law.listed room kind size d (record { kind_fits = kind_fits; size_fits = size_fits; numbers_fit = fit })

  numbered : (d : StatsData) → Data.NumbersFit d → (Data.Unwritable d size room → ⊥) → OneOf (4 ∷ 8 ∷ 11 ∷ []) size
      → FalseWhere (data_writable room kind size d) (RawOutside value size room)
  numbered d fit fine one = restated (λ u. absurd (fine u)) (λ r. absurd (r.0 one)) (listed-data d fit)

  raw : (OneOf (4 ∷ 8 ∷ 11 ∷ []) size → ⊥) → FalseWhere (data_writable room kind size (Unknown (view value size))) (RawOutside value size room)
  raw none = restated forth (λ r. Data.raw_outside r.1) (listed-data (Unknown (view value size)) tt)
    where
      forth : Data.Unwritable (Unknown (view value size)) size room → RawOutside value size room
      forth (Data.kind_not_length x) = absurd (none x)
      forth (Data.raw_not_kept x) = absurd (x refl)
      forth (Data.raw_outside x) = (none, x)

  of_its_length : FalseWhere (data_writable room kind size (data_of size afi safi value)) (RawOutside value size room)
  unfolding data_of
  of_its_length = go (eqb size 4) refl (eqb size 8) refl (eqb size 11) refl
    where
      go : (a : Bool) → eqb size 4 ≡ a → (b : Bool) → eqb size 8 ≡ b → (c : Bool) → eqb size 11 ≡ c
          → FalseWhere (data_writable room kind size (pick a (Counter (value % 2 ^ 32)) (pick b (Gauge value) (pick c (AfiSafiGauge afi (safi % 2 ^ 8) value) (Unknown (view value size))))))
          (RawOutside value size room)
      go true h b j c k = numbered (Counter (value % 2 ^ 32)) (omega arith) fine (inl (eqb-true size 4 h))
        where
          fine : Data.Unwritable (Counter (value % 2 ^ 32)) size room → ⊥
          fine (Data.kind_not_length x) = x (eqb-true size 4 h)
          fine (Data.raw_not_kept x) = x
          fine (Data.raw_outside x) = x
      go false h true j c k = numbered (Gauge value) value_fits fine (inr (inl (eqb-true size 8 j)))
        where
          fine : Data.Unwritable (Gauge value) size room → ⊥
          fine (Data.kind_not_length x) = x (eqb-true size 8 j)
          fine (Data.raw_not_kept x) = x
          fine (Data.raw_outside x) = x
      go false h false j true k = numbered (AfiSafiGauge afi (safi % 2 ^ 8) value) (afi_fits, omega arith, value_fits) fine (inr (inr (inl (eqb-true size 11 k))))
        where
          fine : Data.Unwritable (AfiSafiGauge afi (safi % 2 ^ 8) value) size room → ⊥
          fine (Data.kind_not_length x) = x (eqb-true size 11 k)
          fine (Data.raw_not_kept x) = x
          fine (Data.raw_outside x) = x
      go false h false j false k = raw none
        where
          none : OneOf (4 ∷ 8 ∷ 11 ∷ []) size → ⊥
          none (inl x) = eqb-false size 4 h x
          none (inr (inl x)) = eqb-false size 8 j x
          none (inr (inr (inl x))) = eqb-false size 11 k x
          none (inr (inr (inr x))) = x

-- ---- a counter
module _ (room : ℕ) (t : StatCounter) where
  -- what the tests of its numbers ask, in their order
  abbrev Asked : Type 0
  Asked =
      ((t.stat_len ≡ 11) × (2 ^ 8 ≤ t.safi))
      ⊎ ((t.stat_len ≡ 11 → ⊥)
      × ((t.afi ≡ 0 → ⊥)
      ⊎ ((t.safi ≡ 0 → ⊥) ⊎ (((t.stat_len ≡ 4) × (2 ^ 32 ≤ t.value)) ⊎ ((t.stat_len ≡ 4 → ⊥) × ⊥)))))

  asked : FalseWhere (plain t) Asked
  unfolding plain
  asked =
      by_equal t.stat_len 11 (not_below t.safi (2 ^ 8))
      (either_picked (not_equal t.afi 0)
      (either_picked (not_equal t.safi 0) (by_equal t.stat_len 4 (not_below t.value (2 ^ 32)) (never refl))))

  forth : Asked ⊎ RawOutside t.value t.stat_len room → CounterUnwritable t room
  forth (inl (inl (is, large))) = safi_too_large (is, omega (arith, large))
  forth (inl (inr (other, inl some))) = afi_unused (other, omega (arith, some))
  forth (inl (inr (other, inr (inl some)))) = safi_unused (other, omega (arith, some))
  forth (inl (inr (other, inr (inr (inl (is, large)))))) = counter_too_large (is, omega (arith, large))
  forth (inl (inr (other, inr (inr (inr x))))) = absurd x.1
  forth (inr far) = raw_outside far

  back : CounterUnwritable t room → Asked ⊎ RawOutside t.value t.stat_len room
  back (safi_too_large (is, large)) = inl (inl (is, omega (arith, large)))
  back (afi_unused (other, some)) = inl (inr (other, inl (λ z. absurd (omega (arith, some)))))
  back (safi_unused (other, some)) = inl (inr (other, inr (inl (λ z. absurd (omega (arith, some))))))
  back (counter_too_large (is, large)) = inl (inr ((λ z. absurd (omega (arith, is))), inr (inr (inl (is, omega (arith, large))))))
  back (raw_outside far) = inr far

  counter_listed : CounterTyped t → FalseWhere (counter_writable room t) (CounterUnwritable t room)
  counter_listed y =
      restated forth back
      (either_picked asked
      (of_its_length room t.kind t.stat_len t.afi t.safi t.value y.kind_fits y.length_fits y.afi_fits y.value_fits))

-- ---- the whole record
module _ (m : StatsReport) (room : ℕ) where
  abbrev Items : Type 0
  Items = (64 < m.count) ⊎ (CountNotTheirs m.stats_count m.count ⊎ SomeEntry (λ after t. CounterUnwritable t room) m.count m.counters zero_counter)

  whole_forth : Items → Unwritable m room
  whole_forth (inl x) = too_many x
  whole_forth (inr (inl x)) = count_not_theirs x
  whole_forth (inr (inr x)) = some_counter x.at x.below x.holds

  whole_back : Unwritable m room → Items
  whole_back (too_many x) = inl x
  whole_back (count_not_theirs x) = inr (inl x)
  whole_back (some_counter i below x) = inr (inr (record { at = i; below = below; holds = x }))

  pub listed : Typed m → FalseWhere (writable m room) (Unwritable m room)
  listed y =
      restated whole_forth whole_back
      (past_limit 64 m.count
      (λ few. either_picked (not_equal m.stats_count m.count)
      (entries_unwritable writer room zero_counter (λ after t. CounterUnwritable t room) m.count m.counters (omega (arith, few, y.table_long))
      (λ i below after. counter_listed room (get_or m.counters i zero_counter) (y.each_typed i (omega (arith, below, few)))))))
