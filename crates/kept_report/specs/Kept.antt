-- What is kept of a Statistics Report.
use Rattle.std.specs.Prelude.{ℕ, ◌-◌, Bool, true, false, List, ◌++◌, map, min, length, replicate, take}
use Rattle.wire.specs.Bytes.{pick}
use Rattle.stats_data.specs.Shown.{data_of}
use Rattle.stats_data.specs.declared.StatsData.{StatsData}
use Rattle.stats_data.specs.declared.StatsData.TheVariants.{Counter, Gauge, AfiSafiGauge, Unknown}
use Rattle.stats_report.specs.Grammar.{places}
use Rattle.stats_report.specs.Shown.{data_in}
use Rattle.stats_report.specs.declared.StatCounter.{StatCounter}
use Rattle.stats_report.specs.declared.StatsReport.{StatsReport}
use Rattle.kept_report.specs.declared.KeptCounter.{KeptCounter}
use Rattle.kept_report.specs.declared.KeptData.{KeptData}
use Rattle.kept_report.specs.declared.KeptReport.{KeptReport}

-- an entry by its five numbers
abbrev pub counter_of : ℕ → ℕ → ℕ → ℕ → ℕ → KeptCounter
counter_of kind size afi safi value = record { kind = kind; stat_len = size; afi = afi; safi = safi; value = value }

abbrev pub no_counter : KeptCounter
no_counter = counter_of 0 0 0 0 0

-- whether the length says that the value is raw (docs/RULES.md, "Statistics")
abbrev pub is_raw : StatsData → Bool
is_raw (Counter n) = false
is_raw (Gauge n) = false
is_raw (AfiSafiGauge afi safi n) = false
is_raw (Unknown v) = true

-- of a raw value type and length alone
abbrev pub kept_counter : StatCounter → KeptCounter
kept_counter c =
    pick (is_raw (data_in c)) (counter_of c.kind c.stat_len 0 0 0)
    (counter_of c.kind c.stat_len c.afi c.safi c.value)

-- the kept ones in order, and the entries past them zero
unfoldable pub table : List StatCounter → List KeptCounter
table counters = map kept_counter counters ++ replicate (places - length counters) no_counter

abbrev pub table_count : ℕ → ℕ
table_count count = min count places

-- the first count counters of the report's table
unfoldable pub kept_report : StatsReport → KeptReport
kept_report r = record { counters = table (take (table_count r.count) r.counters); count = table_count r.count }

unfoldable pub no_report : KeptReport
no_report = record { counters = replicate places no_counter; count = 0 }

-- the data of a report's counter, where the bytes of a raw value are gone
abbrev pub without_view : StatsData → KeptData
without_view (Counter n) = KeptData.Counter n
without_view (Gauge n) = KeptData.Gauge n
without_view (AfiSafiGauge afi safi n) = KeptData.AfiSafiGauge afi safi n
without_view (Unknown v) = KeptData.Raw

abbrev pub kept_data : KeptCounter → KeptData
kept_data c = without_view (data_of c.stat_len c.afi c.safi c.value)
