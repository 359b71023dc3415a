-- What a user of the names relies on. Assumes nothing.
use mathlib.Core.Path.{◌≡◌, refl}
use Prim.Native.Nat.{ℕ}
use Rattle.wire.proofs.Arms.{number_of_arm}
use Rattle.wire.proofs.Determined.{determined}
use Rattle.stats_type.specs.Shown.{names, type_of, kind_of}
use Rattle.stats_type.specs.declared.StatType.{StatType}
use Rattle.stats_type.specs.declared.StatType.TheVariants.{Other}

-- The name of a number stands for that number, so that no two numbers share a name.
pub kind_of_type : (n : ℕ) → kind_of (type_of n) ≡ n
unfolding type_of kind_of names
kind_of_type n = number_of_arm kind_of n (Other n) refl names refl

-- Two answers of type_of for the same number are equal.
pub type_of_determined : (n : ℕ) (r q : StatType) → r ≡ type_of n → q ≡ type_of n → r ≡ q
type_of_determined n r q = determined

-- Two answers of kind_of for the same name are equal.
pub kind_of_determined : (t : StatType) (r q : ℕ) → r ≡ kind_of t → q ≡ kind_of t → r ≡ q
kind_of_determined t r q = determined
