-- The tests of an address's two parts are true of equal parts and of no others. Assumes nothing.
use Prim.Native.Nat.{ℕ}
use mathlib.Core.Bool.{true, and-eq-true_iff}
use mathlib.Core.List.{List, [], ◌∷◌}
use mathlib.Core.Path.{◌≡◌, refl, ap₂}
use borrow.Author.Tests.{eqb-true, eq-eqb}
use lib.Dec.{eqb}
use Rattle.models.specs.Address.{same_afi, same_octets}
use Rattle.models.specs.declared.Afi.{Afi}
use Rattle.models.specs.declared.Afi.TheVariants.{Ipv4, Ipv6}

pub afi_equal : (a b : Afi) → same_afi a b ≡ true → a ≡ b
afi_equal Ipv4 Ipv4 e = refl
afi_equal Ipv4 Ipv6 e = cc
afi_equal Ipv6 Ipv4 e = cc
afi_equal Ipv6 Ipv6 e = refl

pub afi_self : (a : Afi) → same_afi a a ≡ true
afi_self Ipv4 = refl
afi_self Ipv6 = refl

pub octets_equal : (a b : List ℕ) → same_octets a b ≡ true → a ≡ b
octets_equal [] [] e = refl
octets_equal [] (y ∷ b) e = cc
octets_equal (x ∷ a) [] e = cc
octets_equal (x ∷ a) (y ∷ b) e =
    let both = (and-eq-true_iff (eqb x y) (same_octets a b)).0 e in
    ap₂ ◌∷◌ (eqb-true x y both.0) (octets_equal a b both.1)

pub octets_self : (a : List ℕ) → same_octets a a ≡ true
octets_self [] = refl
octets_self (x ∷ a) = rw (eq-eqb x x refl) (octets_self a)
