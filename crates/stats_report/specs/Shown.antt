-- How a reading is shown in the answer. Nothing here takes an input apart.
use Rattle.std.specs.Prelude.{ℕ, ◌+◌, ◌-◌, List, ◌++◌, length, replicate, Result, Ok, Err}
use Rattle.wire.specs.Refusal.{no_refusal}
use Rattle.wire.specs.Parts.{shown_from, end_from}
use Rattle.wire.specs.declared.Refusal.{Refusal}
use Rattle.stats_data.specs.Shown.{afi_of, safi_of, number_of, data_of}
use Rattle.stats_data.specs.declared.StatsData.{StatsData}
use Rattle.stats_report.specs.Grammar.{Stat, Reading, size_of, places}
use Rattle.stats_report.specs.declared.StatCounter.{StatCounter}
use Rattle.stats_report.specs.declared.StatsAnswer.{StatsAnswer}

-- an entry of the table by its five numbers
abbrev pub counter_of : ℕ → ℕ → ℕ → ℕ → ℕ → StatCounter
counter_of kind size afi safi value = record { kind = kind; stat_len = size; afi = afi; safi = safi; value = value }

abbrev pub zero_counter : StatCounter
zero_counter = counter_of 0 0 0 0 0

-- a record as the table shows it, where it starts at a place
abbrev pub entry : ℕ → Stat → StatCounter
entry at t = counter_of t.kind t.size (afi_of t.value) (safi_of t.value) (number_of (at + 4) t.value)

-- the data of an entry
abbrev pub data_in : StatCounter → StatsData
data_in c = data_of c.stat_len c.afi c.safi c.value

-- what the reader answers
abbrev pub ReadStats : Type 0
ReadStats = Result StatsAnswer Refusal

abbrev pub good_answer : ℕ → ℕ → ℕ → List StatCounter → ReadStats
good_answer total count end table = Ok (record { stop = end; report = record { counters = table; count = count; stats_count = total } })

abbrev pub refused_answer : Refusal → ReadStats
refused_answer r = Err r

-- what an answer says of its refusal and of where the tail starts, zero where it refuses
abbrev pub refusal_of : ReadStats → Refusal
refusal_of (Ok a) = no_refusal
refusal_of (Err r) = r

abbrev pub stop_of : ReadStats → ℕ
stop_of (Ok a) = a.stop
stop_of (Err r) = 0

-- the good answer: the records in order, entries past the count zero, the stop where the last record ends
abbrev pub shown : Reading → ReadStats
shown r =
    good_answer r.count (length r.stats) (end_from size_of 4 r.stats)
    (shown_from size_of entry 4 r.stats ++ replicate (places - length r.stats) zero_counter)
