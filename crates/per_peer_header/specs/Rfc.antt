-- RFC 7854, section 4.2, with the flag of RFC 8671, section 4: the per-peer header of a peer.
--
--     Peer Type             1 byte    0 Global Instance Peer, 1 RD Instance Peer, 2 Local Instance Peer
--     Peer Flags            1 byte    V 0x80 the address is IPv6, L 0x40 post-policy, A 0x20 the messages inside have 2-byte AS_PATHs,
--                                     O 0x10 Adj-RIB-Out; the others are zero
--     Peer Distinguisher    8 bytes   zero for type 0
--     Peer Address         16 bytes   an IPv4 address is the last 4, and the first 12 are zero
--     Peer AS               4 bytes   a number of 4 bytes, whatever the flags say: a 16-bit AS has zeros before it
--     Peer BGP ID           4 bytes
--     Timestamp             8 bytes   seconds and microseconds since 1970, the latter below 1,000,000; both zero where the time is not known
--
-- RFC 9069, sections 4 and 5: that of a Loc-RIB differs in this.
--
--     Peer Type             1 byte    3 Loc-RIB Instance Peer
--     Peer Flags            1 byte    F 0x80 the Loc-RIB is filtered; the others are zero
--     Peer Distinguisher    8 bytes   zero, or the one of its table
--     Peer Address         16 bytes   zero
--     Peer AS               4 bytes   the router's own
--     Peer BGP ID           4 bytes   the router's own, which is not zero
use Rattle.std.specs.Prelude.{ℕ, ◌+◌, ◌%◌, ◌^◌, ◌≤◌, ◌<◌, ◌≡◌, Bool, true, false, List, ◌++◌, replicate}
use Rattle.wire.specs.Bytes.{pick, be}
use Rattle.models.specs.Rfc.{Address, ipv4, ipv6, field_of, family_of, AddressFits}
use Rattle.models.specs.Address.{unspecified}
use Rattle.times.specs.Time.{time_of}
use Rattle.per_peer_type.specs.Peer.{type_of}
use Rattle.per_peer_type.specs.declared.BmpPeerType.TheVariants.{LocalRib}
use Rattle.per_peer_record.specs.declared.BmpPerPeerHeader.{BmpPerPeerHeader}

-- a flag by its weight
abbrev pub bit : ℕ → Bool → ℕ
bit weight set = pick set weight 0

abbrev pub is_ipv6 : Address → Bool
is_ipv6 (ipv4 address) = false
is_ipv6 (ipv6 address) = true

-- ---- of a peer
pub record Peer : Type 0 where
  pub peer_type : ℕ
  pub post_policy : Bool
  pub legacy_as_path : Bool
  pub adj_rib_out : Bool
  pub distinguisher : ℕ
  pub address : Address
  pub asn : ℕ
  pub bgp_id : ℕ
  pub seconds : ℕ
  pub microseconds : ℕ

abbrev pub flags_of : Peer → ℕ
flags_of p = bit 0x80 (is_ipv6 p.address) + (bit 0x40 p.post_policy + (bit 0x20 p.legacy_as_path + bit 0x10 p.adj_rib_out))

abbrev pub peer_bytes : Peer → List ℕ
peer_bytes p =
    be 1 p.peer_type ++ (be 1 (flags_of p) ++ (be 8 p.distinguisher ++ (field_of p.address ++ (be 4 p.asn ++
    (be 4 p.bgp_id ++ (be 4 p.seconds ++ be 4 p.microseconds))))))

pub record PeerConforms (p : Peer) : Type 0 where
  pub type-known : p.peer_type ≤ 2
  pub distinguisher_fits : p.distinguisher < 2 ^ 64
  pub global_has_none : p.peer_type ≡ 0 → p.distinguisher ≡ 0
  pub address-fits : AddressFits p.address
  pub asn_fits : p.asn < 2 ^ 32
  pub id_fits : p.bgp_id < 2 ^ 32
  pub seconds_fit : p.seconds < 2 ^ 32
  pub microseconds_fit : p.microseconds < 1000000

-- ---- of a Loc-RIB
pub record LocRib : Type 0 where
  pub filtered : Bool
  pub distinguisher : ℕ
  pub asn : ℕ
  pub bgp_id : ℕ
  pub seconds : ℕ
  pub microseconds : ℕ

abbrev pub loc_rib_bytes : LocRib → List ℕ
loc_rib_bytes l =
    be 1 3 ++ (be 1 (bit 0x80 l.filtered) ++ (be 8 l.distinguisher ++ (replicate 16 0 ++ (be 4 l.asn ++
    (be 4 l.bgp_id ++ (be 4 l.seconds ++ be 4 l.microseconds))))))

pub record LocRibConforms (l : LocRib) : Type 0 where
  pub distinguisher_fits : l.distinguisher < 2 ^ 64
  pub asn_fits : l.asn < 2 ^ 32
  pub id_fits : l.bgp_id < 2 ^ 32
  pub id_is_there : 0 < l.bgp_id
  pub seconds_fit : l.seconds < 2 ^ 32
  pub microseconds_fit : l.microseconds < 1000000

-- ---- what the plain reading shows of them: what the RFC calls by that name, but for the AS of a peer with the A flag, of which it shows the
-- lower half
abbrev pub shown_as : Peer → ℕ
shown_as p = pick p.legacy_as_path (p.asn % 2 ^ 16) p.asn

abbrev pub peer_header : Peer → BmpPerPeerHeader
peer_header p =
    record {
      peer_type = type_of p.peer_type;
      peer_flags = record { 0 = flags_of p };
      peer_distinguisher = record { 0 = p.distinguisher };
      peer_ip = record { octets = field_of p.address; afi = family_of p.address };
      peer_asn = record { 0 = shown_as p };
      peer_bgp_id = record { 0 = p.bgp_id };
      timestamp = time_of p.seconds p.microseconds;
      seconds = p.seconds;
      microseconds = p.microseconds;
    }

abbrev pub loc_rib_header : LocRib → BmpPerPeerHeader
loc_rib_header l =
    record {
      peer_type = LocalRib;
      peer_flags = record { 0 = bit 0x80 l.filtered };
      peer_distinguisher = record { 0 = l.distinguisher };
      peer_ip = unspecified;
      peer_asn = record { 0 = l.asn };
      peer_bgp_id = record { 0 = l.bgp_id };
      timestamp = time_of l.seconds l.microseconds;
      seconds = l.seconds;
      microseconds = l.microseconds;
    }
