-- What a user of the crate relies on. Assumes nothing.
use Prim.Native.Nat.{ℕ}
use mathlib.Core.Bool.{Bool, true}
use mathlib.Core.Logic.{◌↔◌}
use mathlib.Core.Path.{◌≡◌, ap}
use borrow.Author.Tests.{eq-eqb}
use lib.Dec.{T}
use lib.Ieee.{Float, binary64, fits, to_bits}
use Rattle.wire.proofs.Determined.{determined}
use Rattle.times.specs.Time.{time_of, is_timestamp}
use Rattle.times.proofs.Times.{same_bits}

-- `is_timestamp` says true of an f64 exactly when it is the time of the words, in its sign too.
pub is_timestamp_is_equality : (t : Float) (seconds microseconds : ℕ) → T (fits binary64 t)
    → (is_timestamp t seconds microseconds ≡ true) ↔ (t ≡ time_of seconds microseconds)
is_timestamp_is_equality t seconds microseconds holds =
    (same_bits t seconds microseconds holds, λ e. eq-eqb (to_bits binary64 t) (to_bits binary64 (time_of seconds microseconds)) (ap (to_bits binary64) e))

-- Of each public function, any two answers that its contract allows are equal.
pub timestamp_determined : (seconds microseconds : ℕ) (r q : Float)
    → r ≡ time_of seconds microseconds → q ≡ time_of seconds microseconds → r ≡ q
timestamp_determined seconds microseconds r q = determined

pub is_timestamp_determined : (t : Float) (seconds microseconds : ℕ) (r q : Bool)
    → r ≡ is_timestamp t seconds microseconds → q ≡ is_timestamp t seconds microseconds → r ≡ q
is_timestamp_determined t seconds microseconds r q = determined
