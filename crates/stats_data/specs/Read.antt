-- What the reader of a value answers, for every input.
use Rattle.std.specs.Prelude.{ℕ, ◌+◌, List, length, take, drop, eqb, Ok, Err}
use Rattle.wire.specs.Bytes.{pick, has, num_at}
use Rattle.wire.specs.Refusal.{cut_at}
use Rattle.cursor.specs.Read.{cursor}
use Rattle.stats_data.specs.Grammar.{Value, counter, gauge, afi_safi_gauge, raw}
use Rattle.stats_data.specs.Shown.{afi_of, safi_of, number_of, ReadData}

-- what the bytes of a value say: its length alone decides on the form
unfoldable pub value_of : ℕ → List ℕ → Value
value_of size b =
    pick (eqb size 4) (counter (num_at 4 b 0))
    (pick (eqb size 8) (gauge (num_at 8 b 0))
    (pick (eqb size 11) (afi_safi_gauge (num_at 2 b 0) (num_at 1 b 2) (num_at 8 b 3))
    (raw b)))

-- a value of size bytes at a place, as the code answers it: its numbers and the cursor past it, or Cut at that place,
-- with what is missing of the whole value
abbrev pub whole_data : ℕ → List ℕ → ℕ → Value → ReadData
whole_data size s at v = pick (has size s at) (Ok (afi_of v, safi_of v, number_of at v, cursor (at + size))) (Err (cut_at (length s) at size))

abbrev pub read_data : ℕ → List ℕ → ℕ → ReadData
read_data size s at = whole_data size s at (value_of size (take size (drop at s)))
