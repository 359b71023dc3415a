-- What the reader answers, for every input.
use Rattle.std.specs.Prelude.{ℕ, ◌-◌, List, [], ◌∷◌, length, drop, ltb, Result, Ok, Err}
use Rattle.wire.specs.Number as Number
use Rattle.wire.specs.Bytes.{pick, has, num_at}
use Rattle.wire.specs.Refusal.{refusal, cut_at}
use Rattle.cursor.specs.Read.{cursor}
use Rattle.wire.specs.Tlv.{Tlv}
use Rattle.wire.specs.TlvAt.{tlv_of, tlv_widths}
use Rattle.wire.specs.Walk as Walk
use Rattle.wire.specs.Walk.{bad, item, Kit, Out, good, refused, read_from}
use Rattle.layout.specs.Layout.{cut_in}
use Rattle.wire.specs.Exactly.{Reader}
use Rattle.wire.specs.declared.Refusal.{Refusal}
use Rattle.cursor.specs.declared.Cursor.{Cursor}
use Rattle.walk.specs.Walk.{kit_of}
use Rattle.walk.specs.Lent.{step_of}
use Rattle.walk.specs.declared.lent.Step.{Step}
use Rattle.stats_data.specs.Read.{value_of}
use Rattle.stats_report.specs.Grammar.{Stat, places, size_of, grammar}
use Rattle.stats_report.specs.Told as Told
use Rattle.stats_report.specs.Shown.{ReadStats, entry, zero_counter, good_answer, refused_answer, refusal_of, stop_of, shown}
use Rattle.stats_report.specs.declared.StatCounter.{StatCounter}

abbrev pub as_stat : Tlv → Stat
as_stat t = record { kind = t.kind; size = t.size; value = value_of t.size t.value }

-- type, length and value, each Cut at its own place
unfoldable pub step : List ℕ → Walk.Step Stat
step s =
    pick (ltb (length s) 2) (bad (cut_at (length s) 0 2))
    (pick (ltb (length s) 4) (bad (cut_at (length s) 2 2))
    (pick (ltb (length s - 4) (num_at 2 s 2)) (bad (cut_at (length s) 4 (num_at 2 s 2)))
    (item (as_stat (tlv_of s)))))

-- the widths of the parts of the record at the front
abbrev pub widths_in : List ℕ → List ℕ
widths_in s = tlv_widths (num_at 2 s 2)

abbrev pub kit : Kit
kit = kit_of Stat StatCounter step size_of entry zero_counter places

-- the Cut of a head that is not all there: its type's, or its length's
abbrev pub head_cut : List ℕ → ℕ → Refusal
head_cut s at = cut_in (2 ∷ 2 ∷ []) at (length s)

-- where a walk stops, behind its last record: the step never stops by itself
abbrev pub stop_at : ℕ → List ℕ → ℕ
stop_at at s = at

-- one step at a place, as the code answers it, and the entry that it leaves
abbrev pub Stepped : Type 0
Stepped = Result Step Refusal × StatCounter

abbrev pub step_at : List ℕ → ℕ → StatCounter → Stepped
step_at s at e = step_of entry size_of stop_at at (drop at s) e (step (drop at s))

abbrev pub answer : ℕ → Out StatCounter → ReadStats
answer total (good n at table z) = good_answer total n at table
answer total (refused r) = refused_answer r

-- the count in front of the records and the cursor behind it
abbrev pub Count : Type 0
Count = Result (ℕ × Cursor) Refusal

abbrev pub count_of : List ℕ → Count
count_of s =
    pick (ltb Number.limit (length s)) (Err (refusal Number.TooLong 0))
    (pick (has 4 s 0) (Ok (num_at 4 s 0, cursor 4)) (Err (cut_at (length s) 0 4)))

-- the count, and then as many records as it says
abbrev pub read_stats : List ℕ → ReadStats
read_stats s =
    pick (ltb Number.limit (length s)) (refused_answer (refusal Number.TooLong 0))
    (pick (has 4 s 0) (answer (num_at 4 s 0) (read_from kit (num_at 4 s 0) 4 s)) (refused_answer (cut_at (length s) 0 4)))

-- the numbers that it refuses with
abbrev pub numbers : List ℕ
numbers = Number.TooLong ∷ Number.Cut ∷ Number.TooMany ∷ []

-- the reader, and the grammar that it is held against
abbrev pub reader : Reader
reader =
    record {
      grammar = grammar;
      Answer = ReadStats;
      read = read_stats;
      shown = shown;
      tail_at = stop_of;
      told = Told.told;
      refused = refused_answer;
      refusal_of = refusal_of;
      numbers = numbers;
    }
