-- What a user of the crate relies on. Assumes nothing.
use mathlib.Core.Bool.{Bool, true, false}
use mathlib.Core.Path.{◌≡◌, refl, ap, ◌∙◌}
use lib.Dec.{eqb}
use Rattle.wire.proofs.Determined.{determined}
use Rattle.stats_data.specs.Shown.{data_of}
use Rattle.stats_report.specs.Shown.{data_in}
use Rattle.stats_report.specs.declared.StatCounter.{StatCounter}
use Rattle.stats_report.specs.declared.StatsReport.{StatsReport}
use Rattle.stats_type.specs.Shown.{type_of}
use Rattle.stats_type.specs.declared.StatType.{StatType}
use Rattle.kept_report.specs.Kept.{counter_of, kept_counter, kept_report, kept_data, without_view, no_report}
use Rattle.kept_report.specs.declared.KeptCounter.{KeptCounter}
use Rattle.kept_report.specs.declared.KeptData.{KeptData}
use Rattle.kept_report.specs.declared.KeptReport.{KeptReport}

-- What is kept of a counter says what the counter said, but for the bytes of a raw value.
pub says_the_same : (c : StatCounter) → kept_data (kept_counter c) ≡ without_view (data_in c)
unfolding data_of
says_the_same c = by (eqb c.stat_len 4) refl (eqb c.stat_len 8) refl (eqb c.stat_len 11) refl
  where
    by : (a : Bool) → eqb c.stat_len 4 ≡ a → (b : Bool) → eqb c.stat_len 8 ≡ b → (d : Bool) → eqb c.stat_len 11 ≡ d
        → kept_data (kept_counter c) ≡ without_view (data_in c)
    by true ha b hb d hd = let w : kept_counter c ≡ counter_of c.kind c.stat_len c.afi c.safi c.value = rw ha in ap kept_data w
    by false ha true hb d hd = let w : kept_counter c ≡ counter_of c.kind c.stat_len c.afi c.safi c.value = rw (ha, hb) in ap kept_data w
    by false ha false hb true hd = let w : kept_counter c ≡ counter_of c.kind c.stat_len c.afi c.safi c.value = rw (ha, hb, hd) in ap kept_data w
    by false ha false hb false hd =
        let w : kept_counter c ≡ counter_of c.kind c.stat_len 0 0 0 = rw (ha, hb, hd) in
        ap kept_data w ∙ rw (ha, hb, hd)

-- ---- any two answers that the contracts allow are equal
pub keep_determined : (report : StatsReport) (r q : KeptReport) → r ≡ kept_report report → q ≡ kept_report report → r ≡ q
keep_determined report r q = determined

pub no_report_determined : (r q : KeptReport) → r ≡ no_report → q ≡ no_report → r ≡ q
no_report_determined r q = determined

module _ (c : KeptCounter) where
  pub stat_type_determined : (r q : StatType) → r ≡ type_of c.kind → q ≡ type_of c.kind → r ≡ q
  stat_type_determined r q = determined

  pub stat_data_determined : (r q : KeptData) → r ≡ kept_data c → q ≡ kept_data c → r ≡ q
  stat_data_determined r q = determined
