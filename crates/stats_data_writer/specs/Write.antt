-- What the writer of a value writes, and which data is writable.
use Rattle.std.specs.Prelude.{ℕ, ◌^◌, Bool, false, List, ltb, eqb}
use Rattle.wire.specs.Bytes.{pick}
use Rattle.writing.specs.Write.{tlv_fits}
use Rattle.stats_data.specs.Grammar.{value_bytes}
use Rattle.stats_data.specs.Shown.{value_in}
use Rattle.stats_data.specs.declared.StatsData.{StatsData}
use Rattle.stats_data.specs.declared.StatsData.TheVariants.{Counter, Gauge, AfiSafiGauge, Unknown}

-- the bytes of data whose view points into a buffer
abbrev pub data_bytes : List ℕ → StatsData → List ℕ
data_bytes b d = value_bytes (value_in b d)

-- data is writable with a type and a length, by the buffer's length: its numbers fit, the length is that of its form, and a raw
-- value has the length of no other form and can be written from its view
unfoldable pub data_writable : ℕ → ℕ → ℕ → StatsData → Bool
data_writable buffer_length kind size (Counter n) = pick (ltb kind (256 ^ 2)) (pick (ltb n (256 ^ 4)) (eqb size 4) false) false
data_writable buffer_length kind size (Gauge n) = pick (ltb kind (256 ^ 2)) (pick (ltb n (256 ^ 8)) (eqb size 8) false) false
data_writable buffer_length kind size (AfiSafiGauge afi safi n) =
    pick (ltb kind (256 ^ 2))
    (pick (ltb afi (256 ^ 2)) (pick (ltb safi (256 ^ 1)) (pick (ltb n (256 ^ 8)) (eqb size 11) false) false) false)
    false
data_writable buffer_length kind size (Unknown v) =
    pick (eqb size 4) false (pick (eqb size 8) false (pick (eqb size 11) false (tlv_fits kind size v buffer_length)))
