-- The address that `addresses` shows of sixteen octets is the one that the grammar's field shows. Assumes nothing.
use Prim.Native.Nat.{ℕ}
use mathlib.Core.List.{List}
use mathlib.Core.Path.{◌≡◌, refl}
use Rattle.addresses.specs.Address.{router_ip}
use Rattle.models.specs.declared.Afi.{Afi}
use Rattle.models.specs.declared.Afi.TheVariants.{Ipv4, Ipv6}
use Rattle.openbmp.specs.Shown.{shown_router_ip}
use Rattle.openbmp.specs.Read.{router_ip_of}

pub router_ip_shown : (afi : Afi) (octets : List ℕ) → router_ip afi octets ≡ shown_router_ip (router_ip_of afi octets)
router_ip_shown Ipv4 octets = refl
router_ip_shown Ipv6 octets = refl
