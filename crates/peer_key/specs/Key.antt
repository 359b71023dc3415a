-- The key of a peer, and when two headers have one key.
use Rattle.std.specs.Prelude.{Bool, ◌&&◌, ◌≡◌, eqb}
use Rattle.models.specs.Address.{same_address}
use Rattle.models.specs.declared.IpAddr.{IpAddr}
use Rattle.per_peer_type.specs.Peer.{kind_of}
use Rattle.per_peer_record.specs.declared.BmpPerPeerHeader.{BmpPerPeerHeader}
use Rattle.peer_key.specs.declared.PeerKey.{PeerKey}

-- type, family, distinguisher, the sixteen octets that the header shows, and BGP identifier (RFC 7854, section 4.2)
abbrev pub key_of : BmpPerPeerHeader → PeerKey
key_of h =
    record {
      peer_distinguisher = h.peer_distinguisher;
      octets = h.peer_ip.octets;
      peer_bgp_id = h.peer_bgp_id;
      peer_type = h.peer_type;
      afi = h.peer_ip.afi;
    }

abbrev pub address_of : PeerKey → IpAddr
address_of k = record { octets = k.octets; afi = k.afi }

-- the test of all five
unfoldable pub same_key : PeerKey → PeerKey → Bool
same_key a b =
    eqb a.peer_distinguisher.0 b.peer_distinguisher.0
    && (eqb a.peer_bgp_id.0 b.peer_bgp_id.0
    && (eqb (kind_of a.peer_type) (kind_of b.peer_type)
    && same_address (address_of a) (address_of b)))

-- ---- the parts of a key, and whether two headers agree in one
pub data Part : Type 0 where
  peer-type : Part
  family : Part
  distinguisher : Part
  address : Part
  bgp-id : Part

abbrev pub Agree : Part → BmpPerPeerHeader → BmpPerPeerHeader → Type 0
Agree peer-type a b = a.peer_type ≡ b.peer_type
Agree family a b = a.peer_ip.afi ≡ b.peer_ip.afi
Agree distinguisher a b = a.peer_distinguisher.0 ≡ b.peer_distinguisher.0
Agree address a b = a.peer_ip.octets ≡ b.peer_ip.octets
Agree bgp-id a b = a.peer_bgp_id.0 ≡ b.peer_bgp_id.0
