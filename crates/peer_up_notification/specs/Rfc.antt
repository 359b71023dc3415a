-- RFC 7854, section 4.10: after the per-peer header a Peer Up notification has the local address in 16 bytes (as section 4.2 has an address), the
-- local and the remote port in 2 bytes each, the OPEN (BGP type 1) that was sent, the OPEN that was received, and then information TLVs
-- (section 4.4), which may be none:
--
--     type 0   String            any text
--     type 3   VRF/Table Name    of a Loc-RIB: UTF-8 of 1 to 255 bytes (RFC 9069, section 5.2.1)
--     type 4   Admin Label       RFC 8671, section 6.3.1
--
-- RFC 9069, section 5.2: that of a Loc-RIB has a local address and ports of zero, and the same OPEN twice; where its table has a name, that is
-- told.
use Rattle.std.specs.Prelude.{ℕ, ◌^◌, ◌≤◌, ◌<◌, ◌≡◌, List, [], ◌∷◌, ◌++◌, map, ◌⊎◌, length, replicate}
use Rattle.wire.specs.Bytes.{be}
use Rattle.wire.specs.Rfc.{together, Each, Information, information_bytes, InformationFits, as_tlv, BgpMessage, bgp_length, bgp_bytes, IsBgp}
use Rattle.models.specs.Rfc.{Address, ipv4, ipv6, field_of, AddressFits}
use Rattle.peer_up_notification.specs.Grammar.{Message, Reading}

pub record Body : Type 0 where
  pub local_address : Address
  pub local_port : ℕ
  pub remote_port : ℕ
  pub sent_open : BgpMessage
  pub received_open : BgpMessage
  pub informations : List Information

abbrev pub bytes : Body → List ℕ
bytes b =
    field_of b.local_address ++ (be 2 b.local_port ++ (be 2 b.remote_port
    ++ (bgp_bytes b.sent_open ++ (bgp_bytes b.received_open ++ together information_bytes b.informations))))

pub record Conforms (b : Body) : Type 0 where
  pub address-fits : AddressFits b.local_address
  pub local_port_fits : b.local_port < 2 ^ 16
  pub remote_port_fits : b.remote_port < 2 ^ 16
  pub sent-open : IsBgp 1 b.sent_open
  pub received-open : IsBgp 1 b.received_open
  pub each_fits : Each InformationFits b.informations

-- ---- of a Loc-RIB
abbrev pub table_name : ℕ
table_name = 3

-- each name has 1 to 255 bytes
abbrev pub NameFits : Information → Type 0
NameFits t = t.kind ≡ table_name → (1 ≤ length t.value) × (length t.value ≤ 255)

abbrev pub HasName : List Information → Type 0
HasName [] = ⊥
HasName (t ∷ l) = (t.kind ≡ table_name) ⊎ HasName l

pub record ConformsLocRib (b : Body) : Type 0 where
  pub conforms : Conforms b
  pub address_zero : b.local_address ≡ ipv4 (replicate 4 0)
  pub local_port_zero : b.local_port ≡ 0
  pub remote_port_zero : b.remote_port ≡ 0
  pub same_open : b.received_open ≡ b.sent_open
  pub names_fit : Each NameFits b.informations

-- ---- what the plain reading makes of it: all of its parts, with nothing left
abbrev pub skipped_of : Address → List ℕ
skipped_of (ipv4 address) = replicate 12 0
skipped_of (ipv6 address) = []

abbrev pub address_of : Address → List ℕ
address_of (ipv4 address) = address
address_of (ipv6 address) = address

abbrev pub as_message : BgpMessage → Message
as_message m = record { marker = replicate 16 0xFF; size = bgp_length m; rest = be 1 m.kind ++ m.contents }

abbrev pub reading : Body → Reading
reading b =
    record {
      skipped = skipped_of b.local_address;
      address = address_of b.local_address;
      local_port = b.local_port;
      remote_port = b.remote_port;
      sent_open = as_message b.sent_open;
      received_open = as_message b.received_open;
      tlvs = map as_tlv b.informations;
      tail = [];
    }
