-- The address that `addresses` shows of sixteen octets is the one behind what the grammar skips. Assumes nothing.
use Prim.Native.Nat.{ℕ}
use mathlib.Core.List.{List}
use mathlib.Core.Path.{◌≡◌, refl}
use lib.ListN.{drop}
use Rattle.addresses.specs.Address.{shown_ip}
use Rattle.models.specs.declared.Afi.{Afi}
use Rattle.models.specs.declared.Afi.TheVariants.{Ipv4, Ipv6}
use Rattle.peer_up_notification.specs.Grammar.{skipped_for}
use Rattle.peer_up_notification.specs.Shown.{shown_address}

pub address_shown : (afi : Afi) (octets : List ℕ) → shown_ip afi octets ≡ shown_address afi (drop (skipped_for afi) octets)
address_shown Ipv4 octets = refl
address_shown Ipv6 octets = refl
