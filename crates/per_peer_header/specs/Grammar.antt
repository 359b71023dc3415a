-- The per-peer header of a BMP message (RFC 7854, section 4.2; type 3: RFC 9069, sections 4 and 5), and then whatever follows it:
--
--     offset  width  part
--        0      1    type            0 Global Instance Peer, 1 RD Instance Peer, 2 Local Instance Peer, 3 Loc-RIB Instance Peer
--        1      1    flags           types 0 to 2: V 0x80 IPv6, L 0x40 post-policy, A 0x20 2-byte AS_PATHs, O 0x10 Adj-RIB-Out (RFC 8671);
--                                    type 3: F 0x80 filtered; any byte is good
--        2      8    distinguisher
--       10     16    address         V clear: 12 bytes skipped, and then the 4 of an IPv4 address
--                                    V set: the 16 bytes of an IPv6 address
--                                    type 3, whatever its flags hold: 16 bytes skipped
--       26      4    AS              A clear, and type 3 whatever its flags hold: a number of 4, as RFC 7854 always has it
--                                    A set: 2 bytes skipped, and then a number of 2, as the Rust reads it
--       30      4    BGP ID
--       34      4    seconds
--       38      4    microseconds    any number is good, a million and more too
--       42           tail            what follows the header
--
-- Below, `be w n` are the w bytes of the number n, the most significant first, and skipped bytes may be anything.
use Rattle.std.specs.Prelude.{ℕ, ◌^◌, ◌<◌, true, false, ◌≡◌, List, [], ◌∷◌, ◌++◌}
use Rattle.wire.specs.Bytes.{be, Bytes, Octets}
use Rattle.wire.specs.Parts.{join_all}
use Rattle.wire.specs.Exactly.{Grammar, no_table}
use Rattle.per_peer_type.specs.Peer.{flag_v, flag_a}

pub data AddressField : Type 0 where
  ipv4 : (skipped address : List ℕ) → AddressField
  ipv6 : (address : List ℕ) → AddressField
  unused : (skipped : List ℕ) → AddressField

pub data AsField : Type 0 where
  as16 : (skipped number : ℕ) → AsField
  as32 : (number : ℕ) → AsField

pub record Reading : Type 0 where
  pub kind : ℕ
  pub flags : ℕ
  pub distinguisher : ℕ
  pub address : AddressField
  pub asn : AsField
  pub id : ℕ
  pub seconds : ℕ
  pub microseconds : ℕ
  pub tail : List ℕ

-- ---- the bytes
abbrev pub address_bytes : AddressField → List ℕ
address_bytes (ipv4 skipped address) = skipped ++ address
address_bytes (ipv6 address) = address
address_bytes (unused skipped) = skipped

abbrev pub as_bytes : AsField → List ℕ
as_bytes (as16 skipped number) = be 2 skipped ++ be 2 number
as_bytes (as32 number) = be 4 number

-- the parts in order, how many bytes each has, and all of them joined: an address is one part, and so is an AS
abbrev pub parts : Reading → List (List ℕ)
parts r =
    be 1 r.kind ∷ be 1 r.flags ∷ be 8 r.distinguisher ∷ address_bytes r.address ∷ as_bytes r.asn
    ∷ be 4 r.id ∷ be 4 r.seconds ∷ be 4 r.microseconds ∷ []

abbrev pub widths : List ℕ
widths = 1 ∷ 1 ∷ 8 ∷ 16 ∷ 4 ∷ 4 ∷ 4 ∷ 4 ∷ []

abbrev pub join : Reading → List ℕ
join r = join_all ◌++◌ (parts r) r.tail

-- ---- what is skipped: bytes of the address, and of the AS the number of two bytes, 0 where there are none
abbrev pub address_skipped : AddressField → List ℕ
address_skipped (ipv4 skipped address) = skipped
address_skipped (ipv6 address) = []
address_skipped (unused skipped) = skipped

abbrev pub as_skipped : AsField → ℕ
as_skipped (as16 skipped number) = skipped
as_skipped (as32 number) = 0

pub record Skipped : Type 0 where
  pub address : List ℕ
  pub asn : ℕ

abbrev pub skipped : Reading → Skipped
skipped r = record { address = address_skipped r.address; asn = as_skipped r.asn }

-- ---- what makes a reading good: its parts fit their fields, and address and AS are laid out as type and flags say
abbrev pub AddressFits : AddressField → Type 0
AddressFits (ipv4 skipped address) = Octets 12 skipped × Octets 4 address
AddressFits (ipv6 address) = Octets 16 address
AddressFits (unused skipped) = Octets 16 skipped

abbrev pub AsFits : AsField → Type 0
AsFits (as16 skipped number) = (skipped < 256 ^ 2) × (number < 256 ^ 2)
AsFits (as32 number) = number < 256 ^ 4

-- The five layouts of address and AS; a type above 3 has none.
pub data Layout (kind flags : ℕ) : AddressField → AsField → Type 0 where
  ipv4_as16 : {s a : List ℕ} {m n : ℕ} → kind < 3 → flag_v flags ≡ false → flag_a flags ≡ true → Layout kind flags (ipv4 s a) (as16 m n)
  ipv4_as32 : {s a : List ℕ} {n : ℕ} → kind < 3 → flag_v flags ≡ false → flag_a flags ≡ false → Layout kind flags (ipv4 s a) (as32 n)
  ipv6_as16 : {a : List ℕ} {m n : ℕ} → kind < 3 → flag_v flags ≡ true → flag_a flags ≡ true → Layout kind flags (ipv6 a) (as16 m n)
  ipv6_as32 : {a : List ℕ} {n : ℕ} → kind < 3 → flag_v flags ≡ true → flag_a flags ≡ false → Layout kind flags (ipv6 a) (as32 n)
  loc_rib : {s : List ℕ} {n : ℕ} → kind ≡ 3 → Layout kind flags (unused s) (as32 n)

pub record Good (r : Reading) : Type 0 where
  pub flags_fit : r.flags < 256 ^ 1
  pub distinguisher_fits : r.distinguisher < 256 ^ 8
  pub layout : Layout r.kind r.flags r.address r.asn
  pub address-fits : AddressFits r.address
  pub asn_fits : AsFits r.asn
  pub id_fits : r.id < 256 ^ 4
  pub seconds_fit : r.seconds < 256 ^ 4
  pub microseconds_fit : r.microseconds < 256 ^ 4
  pub tail_bytes : Bytes r.tail

-- the grammar; there is no table
abbrev pub grammar : Grammar
grammar =
    record {
      Reading = Reading;
      join = join;
      Good = Good;
      Fits = no_table;
      Skipped = Skipped;
      skipped = skipped;
      tail = λ r. r.tail;
    }
