-- The body of a Route Mirroring message, behind the per-peer header (RFC 7854, section 4.7): TLVs, and a tail.
--
--     BGP message    type      2 bytes   0
--                    length    2 bytes   of the value, at least 19: a BGP header (RFC 4271, section 4.1)
--                    value               as many bytes as the length says
--     information    type      2 bytes   1
--                    length    2 bytes   any number; RFC 7854 has 2
--                    value     2 bytes   0 errored PDU, 1 messages lost
--     tail                               at most 4 bytes
--
-- A TLV is read while more than 4 bytes are left. Each TLV has more than 4 itself, so it asks nothing of what follows it.
use Rattle.std.specs.Prelude.{ℕ, ◌^◌, ◌≤◌, ◌<◌, ◌+◌, List, ◌++◌, length}
use Rattle.wire.specs.Bytes.{be, Bytes}
use Rattle.wire.specs.Parts.{join_all, EachGood}
use Rattle.wire.specs.Tlv.{GoodTlv}
use Rattle.wire.specs.Exactly.{Grammar, Nothing, skips_nothing}

-- a BGP message with its length and its bytes, or information with its length and its code
pub data Tlv : Type 0 where
  bgp_message : (size : ℕ) → List ℕ → Tlv
  information : (size code : ℕ) → Tlv

-- its bytes, and then the rest
abbrev pub put : Tlv → List ℕ → List ℕ
put (bgp_message size value) r = be 2 0 ++ (be 2 size ++ (value ++ r))
put (information size code) r = be 2 1 ++ (be 2 size ++ (be 2 code ++ r))

pub record Reading : Type 0 where
  pub tlvs : List Tlv
  pub tail : List ℕ

abbrev pub join : Reading → List ℕ
join r = join_all put r.tlvs r.tail

pub record GoodMessage (size : ℕ) (value : List ℕ) : Type 0 where
  pub well_formed : GoodTlv (record { kind = 0; size = size; value = value })
  pub has-header : 19 ≤ size

pub record GoodInformation (size code : ℕ) : Type 0 where
  pub size_fits : size < 256 ^ 2
  pub known : code ≤ 1

-- a TLV that is read, whatever bytes r follow it
abbrev pub ReadTlv : Tlv → List ℕ → Type 0
ReadTlv (bgp_message size value) r = GoodMessage size value
ReadTlv (information size code) r = GoodInformation size code

abbrev pub GoodTail : List ℕ → Type 0
GoodTail z = (length z ≤ 4) × Bytes z

pub record Good (r : Reading) : Type 0 where
  pub each : EachGood put ReadTlv r.tlvs r.tail
  pub tail_good : GoodTail r.tail

-- how many bytes a TLV takes: information always 6
abbrev pub size_of : Tlv → ℕ
size_of (bgp_message size value) = 4 + size
size_of (information size code) = 6

-- the table has 32 entries
abbrev pub places : ℕ
places = 32

-- a reading fits the table
abbrev pub Fits : Reading → Type 0
Fits r = length r.tlvs ≤ places

-- the grammar, with what fits the table
abbrev pub grammar : Grammar
grammar =
    record {
      Reading = Reading;
      join = join;
      Good = Good;
      Fits = Fits;
      Skipped = Nothing;
      skipped = skips_nothing;
      tail = λ r. r.tail;
    }
