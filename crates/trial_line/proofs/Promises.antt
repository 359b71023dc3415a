-- What a user of this crate relies on: any two answers, and any two buffers, that a contract allows are equal. Assumes nothing.
use mathlib.Core.Path.{◌≡◌}
use mathlib.Core.List.{List}
use Prim.Native.Nat.{ℕ, ◌/◌}
use lib.ListN.{length}
use Rattle.wire.proofs.Determined.{determined}
use Rattle.trial_line.specs.Line.{Asked, asked_of, asked_into}
use Rattle.trial_line.specs.Words.{word_in}

pub ask_determined : (l bytes : List ℕ) (r q : Asked) → r ≡ asked_of l (length bytes) → q ≡ asked_of l (length bytes) → r ≡ q
ask_determined l bytes r q = determined

pub ask_buffer_determined : (l bytes bytes' bytes'' : List ℕ) → bytes' ≡ asked_into l bytes → bytes'' ≡ asked_into l bytes → bytes' ≡ bytes''
ask_buffer_determined l bytes bytes' bytes'' = determined

pub place_among_determined : (words text : List ℕ) (r q : ℕ) → r ≡ word_in (length words / 14) words text → q ≡ word_in (length words / 14) words text → r ≡ q
place_among_determined words text r q = determined
