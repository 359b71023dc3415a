-- What is asked of a per-peer header.
use Rattle.std.specs.Prelude.{Bool, ◌&&◌, Option, Some, None, Float, eqb}
use Rattle.std.specs.Float.Ieee.{eq, of_bits}
use Rattle.std.specs.Float.{binary64}
use Rattle.wire.specs.Bytes.{pick}
use Rattle.models.specs.Address.{same_address}
use Rattle.models.specs.declared.Afi.{Afi}
use Rattle.models.specs.declared.AsnLength.{AsnLength}
use Rattle.models.specs.declared.AsnLength.TheVariants.{Bits32}
use Rattle.per_peer_type.specs.Peer.{kind_of, is_loc_rib, asn_length}
use Rattle.per_peer_record.specs.declared.BmpPerPeerHeader.{BmpPerPeerHeader}

abbrev pub afi_of : BmpPerPeerHeader → Afi
afi_of h = h.peer_ip.afi

-- a Loc-RIB has 4-byte AS numbers, whatever its flags hold (RFC 9069, section 5.4)
abbrev pub asn_length_of : BmpPerPeerHeader → AsnLength
asn_length_of h = pick (is_loc_rib (kind_of h.peer_type)) Bits32 (asn_length h.peer_flags.0)

-- a timestamp of zero means that the time is unavailable (RFC 7854, section 4.2)
abbrev pub peer_time : BmpPerPeerHeader → Option Float
peer_time h = pick (eqb h.seconds 0 && eqb h.microseconds 0) None (Some h.timestamp)

-- seven fields are compared, the time among them as a number; the two words are not
abbrev pub same_header : BmpPerPeerHeader → BmpPerPeerHeader → Bool
same_header a b =
    eqb (kind_of a.peer_type) (kind_of b.peer_type)
    && (eqb a.peer_flags.0 b.peer_flags.0
    && (eqb a.peer_distinguisher.0 b.peer_distinguisher.0
    && (same_address a.peer_ip b.peer_ip
    && (eqb a.peer_asn.0 b.peer_asn.0
    && (eqb a.peer_bgp_id.0 b.peer_bgp_id.0
    && eq a.timestamp b.timestamp)))))

-- the same header, with no time
abbrev pub stripped : BmpPerPeerHeader → BmpPerPeerHeader
stripped h =
    record {
      peer_type = h.peer_type;
      peer_flags = h.peer_flags;
      peer_distinguisher = h.peer_distinguisher;
      peer_ip = h.peer_ip;
      peer_asn = h.peer_asn;
      peer_bgp_id = h.peer_bgp_id;
      timestamp = of_bits binary64 0;
      seconds = 0;
      microseconds = 0;
    }
