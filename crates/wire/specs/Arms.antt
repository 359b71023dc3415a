-- Numbers that have names: a list of arms, each a number and its name.
use Rattle.std.specs.Prelude.{ℕ, List, [], ◌∷◌, eqb}
use Rattle.wire.specs.Bytes.{pick}

-- the name of n, or d where no arm has that number
abbrev pub arm_of : {A : Type 0} → List (ℕ × A) → ℕ → A → A
arm_of [] n d = d
arm_of (x ∷ l) n d = pick (eqb n x.0) x.1 (arm_of l n d)
