-- Which headers are not writable, as a list. It goes by no reader; of a type counts its number.
use Rattle.std.specs.Prelude.{ℕ, ◌/◌, ◌%◌, ◌<◌, ◌≡◌, List, take}
use Rattle.models.specs.Address.{OneNotZero, UnusedNotZero}
use Rattle.models.specs.declared.Afi.{Afi}
use Rattle.models.specs.declared.Afi.TheVariants.{Ipv4, Ipv6}
use Rattle.times.specs.Time.{NotItsWords}
use Rattle.per_peer_type.specs.Peer.{kind_of}
use Rattle.per_peer_record.specs.declared.BmpPerPeerHeader.{BmpPerPeerHeader}

-- types 0 to 2: an address not fitting its flags, of which 0x80 says IPv6
abbrev pub FamilyNotTheFlags : ℕ → ℕ → Afi → Type 0
FamilyNotTheFlags type flags Ipv4 = (type < 3) × (flags / 0x80 % 2 ≡ 1)
FamilyNotTheFlags type flags Ipv6 = (type < 3) × (flags / 0x80 % 2 ≡ 0)

-- type 3: an address that is not IPv4 zero
abbrev pub LocRibAddress : ℕ → Afi → List ℕ → Type 0
LocRibAddress type Ipv4 octets = (type ≡ 3) × OneNotZero octets
LocRibAddress type Ipv6 octets = type ≡ 3

-- types 0 to 2: an AS too large, above 65,535 where flag 0x20 says 16 bits
abbrev pub AsTooLarge : ℕ → ℕ → ℕ → Type 0
AsTooLarge type flags asn = (type < 3) × (flags / 0x20 % 2 ≡ 1) × (65535 < asn)

pub data Unwritable (h : BmpPerPeerHeader) : Type 0 where
  family_not_the_flags : FamilyNotTheFlags (kind_of h.peer_type) h.peer_flags.0 h.peer_ip.afi → Unwritable h
  unused_not_zero : UnusedNotZero h.peer_ip.afi (take 12 h.peer_ip.octets) → Unwritable h
  loc_rib_address : LocRibAddress (kind_of h.peer_type) h.peer_ip.afi h.peer_ip.octets → Unwritable h
  as_too_large : AsTooLarge (kind_of h.peer_type) h.peer_flags.0 h.peer_asn.0 → Unwritable h
  not_its_words : NotItsWords h.timestamp h.seconds h.microseconds → Unwritable h
