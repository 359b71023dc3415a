-- What the writer writes: the reading of a record, by the grammar's own parts; which records are writable; when two are the same.
use Rattle.std.specs.Prelude.{ℕ, ◌+◌, ◌^◌, ◌<◌, ◌≡◌, Bool, true, false, List, [], ◌∷◌, take, get_or, ltb, eqb, Ok, Err}
use Rattle.wire.specs.Bytes.{pick}
use Rattle.wire.specs.Refuses.{OneOf}
use Rattle.writing.specs.Write.{tlv_bytes}
use Rattle.writing.specs.Table.{Writer, parts, all_ok}
use Rattle.stats_data.specs.Shown.{value_in}
use Rattle.stats_data_writer.specs.Write.{data_bytes, data_writable}
use Rattle.stats_report.specs.Grammar.{Stat, put_stat, Reading, join, places}
use Rattle.stats_report.specs.Shown.{ReadStats, zero_counter, data_in}
use Rattle.stats_report.specs.declared.StatCounter.{StatCounter}
use Rattle.stats_report.specs.declared.StatsReport.{StatsReport}

-- ---- the reading of a record whose views point into a buffer
abbrev pub part_of : List ℕ → StatCounter → Stat
part_of b t = record { kind = t.kind; size = t.stat_len; value = value_in b (data_in t) }

-- the numbers of a counter are such as the reader shows: a part that the form does not use is zero, a SAFI has one byte and a
-- counter four
unfoldable pub plain : StatCounter → Bool
plain t =
    pick (eqb t.stat_len 11) (ltb t.safi (2 ^ 8))
    (pick (eqb t.afi 0) (pick (eqb t.safi 0) (pick (eqb t.stat_len 4) (ltb t.value (2 ^ 32)) true) false) false)

-- a counter is writable, by the buffer's length, where its numbers are plain and its data is writable with its type and length
abbrev pub counter_writable : ℕ → StatCounter → Bool
counter_writable buffer_length t = pick (plain t) (data_writable buffer_length t.kind t.stat_len (data_in t)) false

abbrev pub writer : Writer
writer =
    record {
      Entry = StatCounter;
      Item = Stat;
      part = part_of;
      put = put_stat;
      ok = λ buffer_length after t. counter_writable buffer_length t;
      size = λ t. 4 + t.stat_len;
    }

-- the bytes of one counter alone
abbrev pub one_counter : List ℕ → StatCounter → List ℕ
one_counter b t = tlv_bytes t.kind t.stat_len (data_bytes b (data_in t))

-- ---- the whole record: its count, its entries below the number of entries, and no tail
abbrev pub kept : StatsReport → List StatCounter
kept m = take m.count m.counters

abbrev pub reading_of : StatsReport → List ℕ → Reading
reading_of m b = record { count = m.stats_count; stats = parts writer b (kept m); tail = [] }

abbrev pub bytes_of : StatsReport → List ℕ → List ℕ
bytes_of m b = join (reading_of m b)

-- no more than the table holds, the count is theirs, and each is writable
abbrev pub writable : StatsReport → ℕ → Bool
writable m buffer_length = pick (ltb places m.count) false (pick (eqb m.stats_count m.count) (all_ok writer buffer_length (kept m)) false)

-- ---- two records are the same: their numbers below the number of entries, and the bytes that their views show, each in its own buffer
-- the lengths whose form has a number
abbrev pub numbered : List ℕ
numbered = 4 ∷ 8 ∷ 11 ∷ []

pub record SameCounter (t : StatCounter) (b : List ℕ) (u : StatCounter) (s : List ℕ) : Type 0 where
  pub kind_same : t.kind ≡ u.kind
  pub len_same : t.stat_len ≡ u.stat_len
  pub afi_same : t.afi ≡ u.afi
  pub safi_same : t.safi ≡ u.safi
  pub number_same : OneOf numbered t.stat_len → t.value ≡ u.value
  pub data_same : value_in b (data_in t) ≡ value_in s (data_in u)

pub record Same (m : StatsReport) (b : List ℕ) (n : StatsReport) (s : List ℕ) : Type 0 where
  pub stats_count_same : m.stats_count ≡ n.stats_count
  pub count_same : m.count ≡ n.count
  pub counter_same : (i : ℕ) → i < m.count → SameCounter (get_or m.counters i zero_counter) b (get_or n.counters i zero_counter) s

-- what a reader answers shows the same record
abbrev pub SameRead : StatsReport → List ℕ → ReadStats → List ℕ → Type 0
SameRead m b (Ok a) s = Same m b a.report s
SameRead m b (Err r) s = ⊥
