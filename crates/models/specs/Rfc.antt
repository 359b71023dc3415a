-- RFC 7854, sections 4.2 and 4.10: an address stands in a field of 16 bytes. An IPv4 address is its last 4, and the first 12 are zero.
use Rattle.std.specs.Prelude.{ℕ, List, ◌++◌, replicate}
use Rattle.wire.specs.Bytes.{Octets}
use Rattle.models.specs.declared.Afi.{Afi}
use Rattle.models.specs.declared.Afi.TheVariants.{Ipv4, Ipv6}

pub data Address : Type 0 where
  ipv4 : (address : List ℕ) → Address
  ipv6 : (address : List ℕ) → Address

abbrev pub field_of : Address → List ℕ
field_of (ipv4 address) = replicate 12 0 ++ address
field_of (ipv6 address) = address

abbrev pub family_of : Address → Afi
family_of (ipv4 address) = Ipv4
family_of (ipv6 address) = Ipv6

abbrev pub AddressFits : Address → Type 0
AddressFits (ipv4 address) = Octets 4 address
AddressFits (ipv6 address) = Octets 16 address
