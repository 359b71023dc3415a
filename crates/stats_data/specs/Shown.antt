-- How a value is shown. Nothing here takes an input apart.
use Rattle.std.specs.Prelude.{ℕ, ◌%◌, ◌^◌, List, eqb, Result, Ok, Err}
use Rattle.wire.specs.Bytes.{pick}
use Rattle.wire.specs.View.{view, viewed}
use Rattle.wire.specs.declared.View.{View}
use Rattle.wire.specs.declared.Refusal.{Refusal}
use Rattle.wire.specs.Refusal.{no_refusal}
use Rattle.stats_data.specs.Grammar.{Value, counter, gauge, afi_safi_gauge, raw}
use Rattle.stats_data.specs.declared.StatsData.{StatsData}
use Rattle.stats_data.specs.declared.StatsData.TheVariants.{Counter, Gauge, AfiSafiGauge, Unknown}
use Rattle.cursor.specs.Read.{cursor}
use Rattle.cursor.specs.declared.Cursor.{Cursor}

-- a value of size bytes, where it starts at a place
abbrev pub data_at : ℕ → ℕ → Value → StatsData
data_at place size (counter n) = Counter n
data_at place size (gauge n) = Gauge n
data_at place size (afi_safi_gauge afi safi n) = AfiSafiGauge afi safi n
data_at place size (raw b) = Unknown (view place size)

-- the numbers of a value, where it starts at a place: its AFI, its SAFI and its number, zero where the form has none; that of a raw
-- value is the place
abbrev pub afi_of : Value → ℕ
afi_of (counter n) = 0
afi_of (gauge n) = 0
afi_of (afi_safi_gauge afi safi n) = afi
afi_of (raw b) = 0

abbrev pub safi_of : Value → ℕ
safi_of (counter n) = 0
safi_of (gauge n) = 0
safi_of (afi_safi_gauge afi safi n) = safi
safi_of (raw b) = 0

abbrev pub number_of : ℕ → Value → ℕ
number_of place (counter n) = n
number_of place (gauge n) = n
number_of place (afi_safi_gauge afi safi n) = n
number_of place (raw b) = place

-- the data that numbers say, by the length of the value
unfoldable pub data_of : (size afi safi number : ℕ) → StatsData
data_of size afi safi number =
    pick (eqb size 4) (Counter (number % 2 ^ 32))
    (pick (eqb size 8) (Gauge number)
    (pick (eqb size 11) (AfiSafiGauge afi (safi % 2 ^ 8) number)
    (Unknown (view number size))))

-- the value that data tells, by the bytes that its view shows
abbrev pub told_value : (View → List ℕ) → StatsData → Value
told_value look (Counter n) = counter n
told_value look (Gauge n) = gauge n
told_value look (AfiSafiGauge afi safi n) = afi_safi_gauge afi safi n
told_value look (Unknown v) = raw (look v)

-- the value of data whose view points into a buffer
abbrev pub value_in : List ℕ → StatsData → Value
value_in b d = told_value (viewed b) d

-- what the reader of a value answers: its numbers and the cursor past it, or that it is cut
abbrev pub ReadData : Type 0
ReadData = Result (ℕ × ℕ × ℕ × Cursor) Refusal

-- what an answer says of a value of size bytes: its refusal, the data, and the cursor past it, all zero where it is Cut
abbrev pub refusal_of : ReadData → Refusal
refusal_of (Ok x) = no_refusal
refusal_of (Err r) = r

abbrev pub data_read : ℕ → ReadData → StatsData
data_read size (Ok x) = data_of size x.0 x.1 x.2
data_read size (Err r) = Counter 0

abbrev pub next_of : ReadData → Cursor
next_of (Ok x) = x.3
next_of (Err r) = cursor 0
