-- The reading that an answer tells: its count, the records of its table below the count of entries, and the tail; a refusal tells none of them.
use Rattle.std.specs.Prelude.{ℕ, List, [], Ok, Err}
use Rattle.wire.specs.Parts.{items_in}
use Rattle.wire.specs.Exactly.{Nothing}
use Rattle.wire.specs.declared.View.{View}
use Rattle.stats_data.specs.Shown.{told_value}
use Rattle.stats_report.specs.Grammar.{Stat, Reading}
use Rattle.stats_report.specs.Shown.{data_in, ReadStats}
use Rattle.stats_report.specs.declared.StatCounter.{StatCounter}

abbrev pub told_stat : (View → List ℕ) → StatCounter → Stat
told_stat look c = record { kind = c.kind; size = c.stat_len; value = told_value look (data_in c) }

abbrev pub told : (View → List ℕ) → ReadStats → Nothing → List ℕ → Reading
told look (Ok a) x tail =
    record { count = a.report.stats_count; stats = items_in (told_stat look) a.report.count a.report.counters; tail = tail }
told look (Err r) x tail = record { count = 0; stats = []; tail = tail }
