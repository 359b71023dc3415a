-- What a user of this crate relies on: any two answers that a contract allows are equal. Assumes nothing.
use Rattle.std.proofs.Common.{◌≡◌, ℕ, List}
use Rattle.wire.specs.View.{view, viewed}
use Rattle.wire.proofs.Determined.{determined}
use Rattle.trial_input.specs.Input.{no_input}
use Rattle.trial_input.specs.declared.Input.{Input}

pub no_input_determined : (r q : Input) → r ≡ no_input → q ≡ no_input → r ≡ q
no_input_determined r q = determined

pub front_determined : (s : List ℕ) (n : ℕ) (r q : List ℕ) → r ≡ viewed s (view 0 n) → q ≡ viewed s (view 0 n) → r ≡ q
front_determined s n r q = determined
