-- The body of a Termination message (RFC 7854, section 4.5): information TLVs (section 4.4), and a tail.
--
--     String   type     2 bytes   0
--              length   2 bytes   of the value
--              value              as many bytes as the length says
--     Reason   type     2 bytes   1
--              length   2 bytes   at most the bytes that follow it in the message; nothing else is asked of it (the RFC's is 2)
--              reason   2 bytes   0 administratively closed, 1 unspecified, 2 out of resources, 3 redundant connection,
--                                 4 permanently administratively closed
--     tail                        at most 4 bytes, or type (0 or 1) and length of a TLV whose length says more than follows it
--
-- A TLV is read while more than 4 bytes are left: a String of length 0 at the very end is no TLV, but a tail of 4 bytes.
use Rattle.std.specs.Prelude.{ℕ, ◌+◌, ◌^◌, ◌≤◌, ◌<◌, List, length}
use Rattle.wire.specs.Bytes.{be}
use Rattle.wire.specs.Parts.{join_all, EachGood}
use Rattle.wire.specs.Tlv.{put_tlv, GoodTlv, Tail, short, oversized, put_tail, GoodTail}
use Rattle.wire.specs.Exactly.{Grammar, Nothing, skips_nothing}

pub data Tlv : Type 0 where
  string : (size : ℕ) → (value : List ℕ) → Tlv
  reason : (size code : ℕ) → Tlv

-- its bytes, and then the rest
abbrev pub put : Tlv → List ℕ → List ℕ
put (string size value) r = put_tlv (record { kind = 0; size = size; value = value }) r
put (reason size code) r = put_tlv (record { kind = 1; size = size; value = be 2 code }) r

-- how many bytes it takes: a Reason's length has no say in it
abbrev pub size_of : Tlv → ℕ
size_of (string size value) = 4 + size
size_of (reason size code) = 6

pub record Reading : Type 0 where
  pub tlvs : List Tlv
  pub tail : Tail

abbrev pub join : Reading → List ℕ
join r = join_all put r.tlvs (put_tail r.tail)

-- a TLV that is read where the bytes r follow it
pub record ReadString (size : ℕ) (value r : List ℕ) : Type 0 where
  pub well_formed : GoodTlv (record { kind = 0; size = size; value = value })
  pub more_than_four : 4 < length (put (string size value) r)

pub record ReadReason (size code : ℕ) (r : List ℕ) : Type 0 where
  pub size_fits : size < 256 ^ 2
  pub size_within : size ≤ 2 + length r
  pub code_known : code ≤ 4

abbrev pub ReadTlv : Tlv → List ℕ → Type 0
ReadTlv (string size value) r = ReadString size value r
ReadTlv (reason size code) r = ReadReason size code r

-- the type of an oversized TLV is known too: it is judged before the length
abbrev pub TypeKnown : Tail → Type 0
TypeKnown (short z) = Unit {0}
TypeKnown (oversized kind size z) = kind ≤ 1

pub record ReadTail (t : Tail) : Type 0 where
  pub well_formed : GoodTail t
  pub type-known : TypeKnown t

pub record Good (r : Reading) : Type 0 where
  pub each : EachGood put ReadTlv r.tlvs (put_tail r.tail)
  pub tail_good : ReadTail r.tail

-- the table has 32 entries
abbrev pub places : ℕ
places = 32

-- a reading fits the table
abbrev pub Fits : Reading → Type 0
Fits r = length r.tlvs ≤ places

-- the grammar, with what fits the table
abbrev pub grammar : Grammar
grammar =
    record {
      Reading = Reading;
      join = join;
      Good = Good;
      Fits = Fits;
      Skipped = Nothing;
      skipped = skips_nothing;
      tail = λ r. put_tail r.tail;
    }
