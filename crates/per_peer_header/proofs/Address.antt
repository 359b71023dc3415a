-- The address that `addresses` shows of sixteen octets is the one that the grammar's field shows, but of a Loc-RIB. Assumes nothing.
use Prim.Native.Nat.{ℕ}
use mathlib.Core.Bool.{Bool, true, false}
use mathlib.Core.List.{List}
use mathlib.Core.Path.{◌≡◌, refl}
use borrow.Author.Tests.{ne_eqb}
use lib.ListN.{take, drop}
use Rattle.wire.specs.Bytes.{pick}
use Rattle.addresses.specs.Address.{shown_ip}
use Rattle.models.specs.declared.Afi.TheVariants.{Ipv4, Ipv6}
use Rattle.per_peer_type.specs.Peer.{flag_v, address_family}
use Rattle.per_peer_header.specs.Grammar.{ipv4, ipv6}
use Rattle.per_peer_header.specs.Shown.{shown_address}
use Rattle.per_peer_header.specs.Read.{address_field}

pub address_shown : (kind flags : ℕ) (octets : List ℕ) → (kind ≡ 3 → ⊥)
    → shown_ip (address_family flags) octets ≡ shown_address (address_field kind flags octets)
address_shown kind flags octets other = rw (ne_eqb kind 3 other) (go (flag_v flags))
  where
    go : (v : Bool) → shown_ip (pick v Ipv6 Ipv4) octets ≡ shown_address (pick v (ipv6 octets) (ipv4 (take 12 octets) (drop 12 octets)))
    go true = refl
    go false = refl
