-- A step of a walk that is lent the entry which it fills.
use Rattle.std.specs.Prelude.{ℕ, ◌+◌, List, Result, Ok, Err}
use Rattle.wire.specs.Walk as Wire
use Rattle.wire.specs.Walk.{stop, bad, item, from}
use Rattle.wire.specs.declared.Refusal.{Refusal}
use Rattle.cursor.specs.Read.{cursor}
use Rattle.walk.specs.declared.lent.Step.{Step}
use Rattle.walk.specs.declared.lent.Step.TheVariants.{Stop, Whole}

-- what stands at a place, as the code answers it: the place where the walk stops, which may lie behind the head of what is not whole; a fault; or
-- the cursor past the item there. Beside it what the entry holds that was lent: the item's, or what it held
abbrev pub step_of : {I E : Type 0} → (ℕ → I → E) → (I → ℕ) → (ℕ → List ℕ → ℕ) → ℕ → List ℕ → E → Wire.Step I → Result Step Refusal × E
step_of entry size stop_at at s e stop = (Ok (Stop (stop_at at s)), e)
step_of entry size stop_at at s e (bad r) = (Err (from at r), e)
step_of entry size stop_at at s e (item t) = (Ok (Whole (cursor (at + size t))), entry at t)
