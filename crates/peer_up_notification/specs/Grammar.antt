-- The body of a Peer Up notification, behind the per-peer header (RFC 7854, section 4.10):
--
--     local address    16 bytes   IPv4: 12 bytes skipped, and then the 4 of the address
--                                 IPv6: the 16 of the address
--     local port        2 bytes
--     remote port       2 bytes
--     sent OPEN                   a whole BGP message (RFC 4271, section 4.1):
--       marker         16 bytes   any
--       length          2 bytes   of the message, at least 19
--       rest                      as many bytes as the length says beyond these 18
--     received OPEN               the same
--     TLV                         any number of them (section 4.4):
--       type            2 bytes   0 String, 3 VRF/Table Name, 4 Admin Label (RFC 9736); any number is good
--       length          2 bytes   of the value
--       value                     as many bytes as the length says
--     tail                        at most 3 bytes
--
-- A TLV is read while at least 4 bytes are left: one of length 0 at the very end is a TLV here. Which family the address is of does
-- not stand in the body: the per-peer header tells it. Skipped bytes may be anything, and so may a marker, which RFC 4271 has all ones:
-- the reader does not look at it.
use Rattle.std.specs.Prelude.{ℕ, ◌+◌, ◌^◌, ◌≤◌, ◌<◌, ◌≡◌, List, [], ◌∷◌, ◌++◌, length}
use Rattle.wire.specs.Bytes.{be, Bytes, Octets}
use Rattle.wire.specs.Parts.{join_all, EachGood}
use Rattle.wire.specs.Tlv.{Tlv, put_tlv, GoodTlv}
use Rattle.wire.specs.Exactly.{Grammar}
use Rattle.models.specs.declared.Afi.{Afi}
use Rattle.models.specs.declared.Afi.TheVariants.{Ipv4, Ipv6}

-- ---- a BGP message
pub record Message : Type 0 where
  pub marker : List ℕ
  pub size : ℕ
  pub rest : List ℕ

abbrev pub message_bytes : Message → List ℕ
message_bytes m = m.marker ++ (be 2 m.size ++ m.rest)

pub record GoodMessage (m : Message) : Type 0 where
  pub marker_fits : Octets 16 m.marker
  pub size_fits : m.size < 256 ^ 2
  pub has-header : 19 ≤ m.size
  pub size_is : 18 + length m.rest ≡ m.size
  pub rest-bytes : Bytes m.rest

-- ---- the body
pub record Reading : Type 0 where
  pub skipped : List ℕ
  pub address : List ℕ
  pub local_port : ℕ
  pub remote_port : ℕ
  pub sent_open : Message
  pub received_open : Message
  pub tlvs : List Tlv
  pub tail : List ℕ

-- the TLVs and the tail, and what stands before them
abbrev pub join_tlvs : Reading → List ℕ
join_tlvs r = join_all put_tlv r.tlvs r.tail

abbrev pub join_messages : Reading → List ℕ
join_messages r = message_bytes r.sent_open ++ (message_bytes r.received_open ++ join_tlvs r)

abbrev pub join : Reading → List ℕ
join r = r.skipped ++ (r.address ++ (be 2 r.local_port ++ (be 2 r.remote_port ++ join_messages r)))

-- the parts before the messages, and how many bytes each has: an address with what is skipped is one part
abbrev pub front_parts : Reading → List (List ℕ)
front_parts r = (r.skipped ++ r.address) ∷ be 2 r.local_port ∷ be 2 r.remote_port ∷ []

abbrev pub widths : List ℕ
widths = 16 ∷ 2 ∷ 2 ∷ []

-- how many bytes are skipped before an address of a family, and how many the address has
abbrev pub skipped_for : Afi → ℕ
skipped_for Ipv4 = 12
skipped_for Ipv6 = 0

abbrev pub address_for : Afi → ℕ
address_for Ipv4 = 4
address_for Ipv6 = 16

-- a TLV that is read, whatever bytes r follow it
abbrev pub ReadTlv : Tlv → List ℕ → Type 0
ReadTlv t r = GoodTlv t

abbrev pub GoodTail : List ℕ → Type 0
GoodTail z = (length z ≤ 3) × Bytes z

pub record Good (afi : Afi) (r : Reading) : Type 0 where
  pub skipped_fits : Octets (skipped_for afi) r.skipped
  pub address-fits : Octets (address_for afi) r.address
  pub local_port_fits : r.local_port < 256 ^ 2
  pub remote_port_fits : r.remote_port < 256 ^ 2
  pub sent_good : GoodMessage r.sent_open
  pub received_good : GoodMessage r.received_open
  pub each : EachGood put_tlv ReadTlv r.tlvs r.tail
  pub tail_good : GoodTail r.tail

-- the table has 32 entries
abbrev pub places : ℕ
places = 32

-- a reading fits the table
abbrev pub Fits : Reading → Type 0
Fits r = length r.tlvs ≤ places

-- the grammar for a family of the address, with what fits the table, and the bytes that are skipped before the address
abbrev pub grammar : Afi → Grammar
grammar afi =
    record {
      Reading = Reading;
      join = join;
      Good = Good afi;
      Fits = Fits;
      Skipped = List ℕ;
      skipped = λ r. r.skipped;
      tail = λ r. r.tail;
    }
