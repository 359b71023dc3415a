-- What a user of the crate relies on. Assumes nothing.
use Prim.Native.Nat.{ℕ}
use mathlib.Core.Bool.{Bool, true, and-eq-true_iff}
use mathlib.Core.Logic.{◌↔◌}
use mathlib.Core.Path.{◌≡◌}
use Rattle.wire.proofs.Determined.{determined}
use Rattle.models.specs.Address.{same_afi, same_octets, same_address, unspecified}
use Rattle.models.specs.Warnings.{count_ones}
use Rattle.models.specs.declared.IpAddr.{IpAddr}
use Rattle.models.proofs.Equality.{afi_equal, afi_self, octets_equal, octets_self}

-- `equals` says true of two addresses exactly when they are one, whatever number of octets they have.
pub equals_is_equality : (a b : IpAddr) → (same_address a b ≡ true) ↔ (a ≡ b)
equals_is_equality a b = (equal, same) where
  equal : same_address a b ≡ true → a ≡ b
  equal e =
      let both = (and-eq-true_iff (same_afi a.afi b.afi) (same_octets a.octets b.octets)).0 e in
      λ i. record { octets = octets_equal a.octets b.octets both.1 i; afi = afi_equal a.afi b.afi both.0 i }

  same : a ≡ b → same_address a b ≡ true
  same e = rw (← e, afi_self, octets_self)

-- Of each public function, any two answers that its contract allows are equal.
pub equals_determined : (a b : IpAddr) (r q : Bool) → r ≡ same_address a b → q ≡ same_address a b → r ≡ q
equals_determined a b r q = determined

pub unspecified_determined : (r q : IpAddr) → r ≡ unspecified → q ≡ unspecified → r ≡ q
unspecified_determined r q = determined

pub warning_count_determined : (word a b : ℕ) → a ≡ count_ones 32 word → b ≡ count_ones 32 word → a ≡ b
warning_count_determined word a b = determined
