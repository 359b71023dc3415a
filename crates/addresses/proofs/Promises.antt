-- What a user of the crate relies on: any two answers that the contracts allow are equal. Assumes nothing.
use mathlib.Core.Path.{◌≡◌}
use mathlib.Core.List.{List}
use Prim.Native.Nat.{ℕ}
use Rattle.wire.proofs.Determined.{determined}
use Rattle.models.specs.declared.Afi.{Afi}
use Rattle.models.specs.declared.IpAddr.{IpAddr}
use Rattle.addresses.specs.Address.{sixteen_at, shown_ip, router_ip}

pub sixteen_at_determined : (s : List ℕ) (at : ℕ) (r q : List ℕ) → r ≡ sixteen_at s at → q ≡ sixteen_at s at → r ≡ q
sixteen_at_determined s at r q = determined

pub shown_ip_determined : (afi : Afi) (octets : List ℕ) (r q : IpAddr) → r ≡ shown_ip afi octets → q ≡ shown_ip afi octets → r ≡ q
shown_ip_determined afi octets r q = determined

pub router_ip_determined : (afi : Afi) (octets : List ℕ) (r q : IpAddr) → r ≡ router_ip afi octets → q ≡ router_ip afi octets → r ≡ q
router_ip_determined afi octets r q = determined
