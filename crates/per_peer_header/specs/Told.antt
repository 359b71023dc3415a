-- The reading that an answer tells: its header, what is skipped of the address and of the AS, and the tail. The type, the family of the
-- address and the flags say which of the five layouts it has.
use Rattle.std.specs.Prelude.{ℕ, List, drop}
use Rattle.wire.specs.Bytes.{pick}
use Rattle.wire.specs.declared.View.{View}
use Rattle.models.specs.declared.Afi.{Afi}
use Rattle.models.specs.declared.Afi.TheVariants.{Ipv4, Ipv6}
use Rattle.models.specs.declared.IpAddr.{IpAddr}
use Rattle.per_peer_type.specs.Peer.{kind_of, is_loc_rib, flag_a}
use Rattle.per_peer_record.specs.declared.BmpPerPeerHeader.{BmpPerPeerHeader}
use Rattle.per_peer_header.specs.Grammar.{AddressField, ipv4, ipv6, unused, AsField, as16, as32, Reading, Skipped}
use Rattle.per_peer_header.specs.Shown.{PerPeerHeaderResult, header_of}

-- an IPv4 address is the last four octets that are shown; of a Loc-RIB nothing is shown
abbrev pub told_ip : Afi → List ℕ → List ℕ → AddressField
told_ip Ipv4 octets skipped = ipv4 skipped (drop 12 octets)
told_ip Ipv6 octets skipped = ipv6 octets

abbrev pub told_address : ℕ → IpAddr → List ℕ → AddressField
told_address kind ip skipped = pick (is_loc_rib kind) (unused skipped) (told_ip ip.afi ip.octets skipped)

abbrev pub told_as : ℕ → ℕ → ℕ → ℕ → AsField
told_as kind flags number skipped = pick (is_loc_rib kind) (as32 number) (pick (flag_a flags) (as16 skipped number) (as32 number))

abbrev pub told_header : BmpPerPeerHeader → Skipped → List ℕ → Reading
told_header h x tail =
    record {
      kind = kind_of h.peer_type;
      flags = h.peer_flags.0;
      distinguisher = h.peer_distinguisher.0;
      address = told_address (kind_of h.peer_type) h.peer_ip x.address;
      asn = told_as (kind_of h.peer_type) h.peer_flags.0 h.peer_asn.0 x.asn;
      id = h.peer_bgp_id.0;
      seconds = h.seconds;
      microseconds = h.microseconds;
      tail = tail;
    }

abbrev pub told : (View → List ℕ) → PerPeerHeaderResult → Skipped → List ℕ → Reading
told look a x tail = told_header (header_of a) x tail
