-- What it means that a reader refuses with its numbers and no other, and that a refusal shows nothing.
use Rattle.std.specs.Prelude.{ℕ, ◌<◌, ◌≡◌, List, [], ◌∷◌, ◌⊎◌}
use Rattle.wire.specs.Bytes.{Bytes}
use Rattle.wire.specs.Exactly.{Reader, number_of, Accepts}

-- n is one of these numbers
abbrev pub OneOf : List ℕ → ℕ → Type 0
OneOf [] n = ⊥
OneOf (m ∷ l) n = (n ≡ m) ⊎ OneOf l n

-- For every input: a number above 0 comes with nothing else in the answer, it is one of the reader's numbers, and each of these is given
-- for some input.
pub record Refuses (R : Reader) : Type 0 where
  pub shows_nothing : (s : List ℕ) → 0 < number_of R s → R.read s ≡ R.refused (R.refusal_of (R.read s))
  pub no_other : (s : List ℕ) → Accepts R s ⊎ OneOf R.numbers (number_of R s)
  pub each_given : (n : ℕ) → OneOf R.numbers n → (s : List ℕ) × Bytes s × (number_of R s ≡ n)
