-- The time of a per-peer header (RFC 7854, section 4.2) as one binary64 number.
use Rattle.std.specs.Prelude.{ℕ, pos, Bool, ◌≡◌, eqb, Float}
use Rattle.std.specs.Float.{binary64}
use Rattle.std.specs.Float.Ieee.{add, div, of_int, to_bits}

-- Seconds plus microseconds over a million: first the quotient is rounded, and then the sum.
abbrev pub time_of : ℕ → ℕ → Float
time_of seconds microseconds = add binary64 (number seconds) (div binary64 (number microseconds) (number 1000000)) where
  number : ℕ → Float
  number n = of_int binary64 (pos n)

-- A float is the time of the words where it has the very bits that they give, so -0.0 is the time of none.
abbrev pub is_timestamp : Float → ℕ → ℕ → Bool
is_timestamp t seconds microseconds = eqb (to_bits binary64 t) (to_bits binary64 (time_of seconds microseconds))

-- What no writer writes: a float that its words do not give.
abbrev pub NotItsWords : Float → ℕ → ℕ → Type 0
NotItsWords t seconds microseconds = t ≡ time_of seconds microseconds → ⊥
