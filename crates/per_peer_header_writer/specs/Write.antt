-- What the writer writes: the reading of a header, by the grammar's own parts; and which headers are writable.
use Rattle.std.specs.Prelude.{ℕ, ◌^◌, ◌<◌, Bool, ◌&&◌, List, [], T, eqb, replicate}
use Rattle.std.specs.Float.{binary64}
use Rattle.std.specs.Float.Ieee.{fits}
use Rattle.wire.specs.Bytes.{Octets}
use Rattle.models.specs.Address.{same_address}
use Rattle.times.specs.Time.{is_timestamp}
use Rattle.per_peer_type.specs.Peer.{kind_of}
use Rattle.per_peer_header.specs.Grammar.{AddressField, ipv4, ipv6, unused, AsField, as16, as32, Reading, join}
use Rattle.per_peer_header.specs.Shown.{shown_address, shown_asn}
use Rattle.per_peer_header.specs.Read.{address_field, as_field}
use Rattle.per_peer_record.specs.declared.BmpPerPeerHeader.{BmpPerPeerHeader}

-- the fields of a header's own address and AS
abbrev pub address_of : BmpPerPeerHeader → AddressField
address_of h = address_field (kind_of h.peer_type) h.peer_flags.0 h.peer_ip.octets

abbrev pub as_of : BmpPerPeerHeader → AsField
as_of h = as_field (kind_of h.peer_type) h.peer_flags.0 h.peer_asn.0

-- skipped bytes are written zero
abbrev pub blank_address : AddressField → AddressField
blank_address (ipv4 skipped address) = ipv4 (replicate 12 0) address
blank_address (ipv6 address) = ipv6 address
blank_address (unused skipped) = unused (replicate 16 0)

abbrev pub blank_as : AsField → AsField
blank_as (as16 skipped number) = as16 0 number
blank_as (as32 number) = as32 number

abbrev pub reading_of : BmpPerPeerHeader → Reading
reading_of h =
    record {
      kind = kind_of h.peer_type;
      flags = h.peer_flags.0;
      distinguisher = h.peer_distinguisher.0;
      address = blank_address (address_of h);
      asn = blank_as (as_of h);
      id = h.peer_bgp_id.0;
      seconds = h.seconds;
      microseconds = h.microseconds;
      tail = [];
    }

abbrev pub bytes_of : BmpPerPeerHeader → List ℕ
bytes_of h = join (reading_of h)

-- The address is the one that its octets show: IPv6, IPv4 with zeros before its four octets, or IPv4 zero, as type and flags say.
abbrev pub address_fits : BmpPerPeerHeader → Bool
address_fits h = same_address (shown_address (address_of h)) h.peer_ip

-- The AS has room in its field: it is below 65,536 where type and flags say 16 bits.
abbrev pub as_fits : BmpPerPeerHeader → Bool
as_fits h = eqb (shown_asn (as_of h)) h.peer_asn.0

-- The time is the one that the words give, bit for bit.
abbrev pub time_fits : BmpPerPeerHeader → Bool
time_fits h = is_timestamp h.timestamp h.seconds h.microseconds

abbrev pub writable : BmpPerPeerHeader → Bool
writable h = address_fits h && (as_fits h && time_fits h)

-- what the types of its fields say of every header
pub record Typed (h : BmpPerPeerHeader) : Type 0 where
  pub flags_fit : h.peer_flags.0 < 256 ^ 1
  pub distinguisher_fits : h.peer_distinguisher.0 < 256 ^ 8
  pub octets : Octets 16 h.peer_ip.octets
  pub asn_fits : h.peer_asn.0 < 256 ^ 4
  pub id_fits : h.peer_bgp_id.0 < 256 ^ 4
  pub time-fits : T (fits binary64 h.timestamp)
  pub seconds_fit : h.seconds < 256 ^ 4
  pub microseconds_fit : h.microseconds < 256 ^ 4
