-- The body of an Initiation message (RFC 7854, section 4.3): information TLVs (section 4.4), and a tail.
--
--     TLV    type     2 bytes   0 String, 1 sys_descr, 2 sys_name; any number is good
--            length   2 bytes   of the value
--            value              as many bytes as the length says
--     tail                      at most 4 bytes, or type and length of a TLV whose value is not all there
--
-- A TLV is read while more than 4 bytes are left: one of length 0 at the very end is no TLV, but a tail of 4 bytes.
use Rattle.std.specs.Prelude.{ℕ, ◌≤◌, ◌<◌, List, length}
use Rattle.wire.specs.Parts.{join_all, EachGood}
use Rattle.wire.specs.Tlv.{Tlv, put_tlv, GoodTlv, Tail, put_tail, GoodTail}
use Rattle.wire.specs.Exactly.{Grammar, Nothing, skips_nothing}

pub record Reading : Type 0 where
  pub tlvs : List Tlv
  pub tail : Tail

abbrev pub join : Reading → List ℕ
join r = join_all put_tlv r.tlvs (put_tail r.tail)

-- a TLV that is read where the bytes r follow it
pub record ReadTlv (t : Tlv) (r : List ℕ) : Type 0 where
  pub well_formed : GoodTlv t
  pub more_than_four : 4 < length (put_tlv t r)

pub record Good (r : Reading) : Type 0 where
  pub each : EachGood put_tlv ReadTlv r.tlvs (put_tail r.tail)
  pub tail_good : GoodTail r.tail

-- the table has 32 entries
abbrev pub places : ℕ
places = 32

-- a reading fits the table
abbrev pub Fits : Reading → Type 0
Fits r = length r.tlvs ≤ places

-- the grammar, with what fits the table
abbrev pub grammar : Grammar
grammar =
    record {
      Reading = Reading;
      join = join;
      Good = Good;
      Fits = Fits;
      Skipped = Nothing;
      skipped = skips_nothing;
      tail = λ r. put_tail r.tail;
    }
