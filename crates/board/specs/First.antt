-- The first element of a list that passes a test: its place, or the list's length where none does.
use Rattle.std.specs.Prelude.{ℕ, suc, Bool, List, [], ◌∷◌}
use Rattle.wire.specs.Bytes.{pick}

unfoldable pub first : {A : Type 0} → (A → Bool) → List A → ℕ
first passes [] = 0
first passes (x ∷ l) = pick (passes x) 0 (suc (first passes l))
