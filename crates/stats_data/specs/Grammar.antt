-- The value of a statistics record (RFC 7854, section 4.8). Its length alone says which form it has:
--
--     length 4          counter   4 bytes
--     length 8          gauge     8 bytes
--     length 11         AFI       2 bytes
--                       SAFI      1 byte
--                       gauge     8 bytes
--     any other length            that many bytes, as they are
use Rattle.std.specs.Prelude.{ℕ, ◌^◌, ◌<◌, ◌≡◌, List, ◌++◌, length}
use Rattle.wire.specs.Bytes.{be}

pub data Value : Type 0 where
  counter : (n : ℕ) → Value
  gauge : (n : ℕ) → Value
  afi_safi_gauge : (afi safi n : ℕ) → Value
  raw : List ℕ → Value

abbrev pub value_bytes : Value → List ℕ
value_bytes (counter n) = be 4 n
value_bytes (gauge n) = be 8 n
value_bytes (afi_safi_gauge afi safi n) = be 2 afi ++ (be 1 safi ++ be 8 n)
value_bytes (raw b) = b

-- a raw value has the length of no other form
pub record GoodRaw (b : List ℕ) : Type 0 where
  pub not_4 : length b ≡ 4 → ⊥
  pub not_8 : length b ≡ 8 → ⊥
  pub not_11 : length b ≡ 11 → ⊥

abbrev pub GoodValue : Value → Type 0
GoodValue (counter n) = n < 256 ^ 4
GoodValue (gauge n) = n < 256 ^ 8
GoodValue (afi_safi_gauge afi safi n) = (afi < 256 ^ 2) × (safi < 256 ^ 1) × (n < 256 ^ 8)
GoodValue (raw b) = GoodRaw b
