-- Addresses: sixteen octets and a family, as the per-peer header carries them (RFC 7854, section 4.2).
use Rattle.std.specs.Prelude.{ℕ, ◌<◌, Bool, true, false, ◌&&◌, List, [], ◌∷◌, eqb, length, get_or, replicate}
use Rattle.models.specs.declared.Afi.{Afi}
use Rattle.models.specs.declared.Afi.TheVariants.{Ipv4, Ipv6}
use Rattle.models.specs.declared.IpAddr.{IpAddr}

abbrev pub same_afi : Afi → Afi → Bool
same_afi Ipv4 Ipv4 = true
same_afi Ipv4 Ipv6 = false
same_afi Ipv6 Ipv4 = false
same_afi Ipv6 Ipv6 = true

-- As many octets on both sides, and at each place the same.
abbrev pub same_octets : List ℕ → List ℕ → Bool
same_octets [] [] = true
same_octets [] (y ∷ b) = false
same_octets (x ∷ a) [] = false
same_octets (x ∷ a) (y ∷ b) = eqb x y && same_octets a b

-- The family counts: 0.0.0.0 and :: have the same octets, and are two addresses.
abbrev pub same_address : IpAddr → IpAddr → Bool
same_address a b = same_afi a.afi b.afi && same_octets a.octets b.octets

-- 0.0.0.0
abbrev pub unspecified : IpAddr
unspecified = record { octets = replicate 16 0; afi = Ipv4 }

-- What no writer writes: IPv4, and one of the octets that it does not use is not zero.
abbrev pub OneNotZero : List ℕ → Type 0
OneNotZero octets = (i : ℕ) × (i < length octets) × (0 < get_or octets i 0)

abbrev pub UnusedNotZero : Afi → List ℕ → Type 0
UnusedNotZero Ipv4 unused = OneNotZero unused
UnusedNotZero Ipv6 unused = ⊥
