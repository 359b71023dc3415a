-- The body of a Statistics Report (RFC 7854, section 4.8): a count, that many records, and a tail.
--
--     count      4 bytes   how many records follow
--     record               laid out as an information TLV (section 4.4)
--       type     2 bytes   what is counted (14 to 17: RFC 8671, section 6.2); any number is good, and it has no say in the value
--       length   2 bytes   of the value
--       value              length 4: a counter, 4 bytes
--                          length 8: a gauge, 8 bytes
--                          length 11: AFI 2 bytes, SAFI 1 byte, a gauge of 8 bytes
--                          any other length: that many bytes, as they are
--     tail                 any bytes
use Rattle.std.specs.Prelude.{ℕ, ◌^◌, ◌<◌, ◌≤◌, ◌+◌, ◌≡◌, List, ◌++◌, length}
use Rattle.wire.specs.Bytes.{be, Bytes}
use Rattle.wire.specs.Parts.{join_all, EachGood}
use Rattle.wire.specs.Tlv.{Tlv, put_tlv, GoodTlv}
use Rattle.wire.specs.Exactly.{Grammar, Nothing, skips_nothing}
use Rattle.stats_data.specs.Grammar.{Value, value_bytes, GoodValue}

pub record Stat : Type 0 where
  pub kind : ℕ
  pub size : ℕ
  pub value : Value

abbrev pub as_tlv : Stat → Tlv
as_tlv t = record { kind = t.kind; size = t.size; value = value_bytes t.value }

-- its bytes, and then the rest
abbrev pub put_stat : Stat → List ℕ → List ℕ
put_stat t r = put_tlv (as_tlv t) r

-- what follows a record has no say in it
pub record GoodStat (t : Stat) (r : List ℕ) : Type 0 where
  pub well_formed : GoodTlv (as_tlv t)
  pub value_good : GoodValue t.value

pub record Reading : Type 0 where
  pub count : ℕ
  pub stats : List Stat
  pub tail : List ℕ

abbrev pub join : Reading → List ℕ
join r = be 4 r.count ++ join_all put_stat r.stats r.tail

pub record Good (r : Reading) : Type 0 where
  pub count_fits : r.count < 256 ^ 4
  pub count_is : r.count ≡ length r.stats
  pub each : EachGood put_stat GoodStat r.stats r.tail
  pub tail_bytes : Bytes r.tail

-- how many bytes a record takes
abbrev pub size_of : Stat → ℕ
size_of t = 4 + t.size

-- the table has 64 entries
abbrev pub places : ℕ
places = 64

-- a reading fits the table
abbrev pub Fits : Reading → Type 0
Fits r = length r.stats ≤ places

-- the grammar, with what fits the table
abbrev pub grammar : Grammar
grammar =
    record {
      Reading = Reading;
      join = join;
      Good = Good;
      Fits = Fits;
      Skipped = Nothing;
      skipped = skips_nothing;
      tail = λ r. r.tail;
    }
