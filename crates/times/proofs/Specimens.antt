-- `time_of` at words whose bits come from outside, from Python's `struct.pack('>d', seconds + microseconds / 1000000.0)`. Assumes nothing.
use Prim.Native.Nat.{ℕ}
use mathlib.Core.Bool.{true, false}
use mathlib.Core.List.{List, [], ◌∷◌, map}
use mathlib.Core.Path.{◌≡◌, refl}
use lib.Ieee.{Float, binary64, of_int, of_bits, to_bits, add, div}
use Rattle.times.specs.Time.{time_of, is_timestamp}

-- Seconds, microseconds, and the bits that they give.
abbrev specimens : List (ℕ × ℕ × ℕ)
specimens =
    (0, 0, 0x0000_0000_0000_0000)
    ∷ (0, 1, 0x3eb0_c6f7_a0b5_ed8d)
    ∷ (1, 0, 0x3ff0_0000_0000_0000)
    ∷ (1794708718, 123456, 0x41da_be45_3b87_e6b4)
    ∷ (4294967295, 999999, 0x41ef_ffff_ffff_fffe)
    ∷ (4294967295, 4294967295, 0x41f0_0001_0c5f_7a0a)
    ∷ (0, 1000000, 0x3ff0_0000_0000_0000)
    ∷ (0, 1003691, 0x3ff0_0f1e_4b44_a1f1)
    -- The quotient 1519502 / 1000000, rounded once, ends in 33.
    ∷ (1, 519502, 0x3ff8_4fe1_5443_4e34)
    ∷ []

abbrev timed : ℕ × ℕ × ℕ → Float
timed (seconds, microseconds, bits) = time_of seconds microseconds

abbrev expected : ℕ × ℕ × ℕ → Float
expected (seconds, microseconds, bits) = of_bits binary64 bits

pub times_have_their_bits : map timed specimens ≡ map expected specimens
unfolding of_int of_bits add div
times_have_their_bits = refl

-- 0.0 is the time of two zeros, and -0.0, which equals it, is not.
pub zero_is_the_time : is_timestamp (of_bits binary64 0x0000_0000_0000_0000) 0 0 ≡ true
unfolding of_int of_bits to_bits add div
zero_is_the_time = refl

pub negative_zero_is_not : is_timestamp (of_bits binary64 0x8000_0000_0000_0000) 0 0 ≡ false
unfolding of_int of_bits to_bits add div
negative_zero_is_not = refl
