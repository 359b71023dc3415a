-- The warnings of a word. Assumes nothing.
use Prim.Native.Nat.{ℕ, zero, suc, ◌+◌, ◌/◌, ◌%◌, ◌^◌, ◌<◌}
use mathlib.Core.Path.{◌≡◌, ap, ◌∙◌}
use native.Mathlib.Nat.{pow-suc, div-lt_iff_lt-mul}
use native.Mathlib.Omega.{arith}
use lib.Count.{ones, ones_step}
use Rattle.models.specs.Warnings.{count_ones}

-- the language's count of ones is the one bit by bit, in a word that has no more bits
pub ones_counted : (bits word : ℕ) → word < 2 ^ bits → ones word ≡ count_ones bits word
unfolding ones
ones_counted zero word h = let e : word ≡ 0 = omega arith in ap ones e
ones_counted (suc bits) word h =
    let half : word / 2 < 2 ^ bits = (div-lt_iff_lt-mul {k = 2} {x = word} {y = 2 ^ bits} (omega arith)).1 (rw (← pow-suc 2 bits) h) in
    ones_step word ∙ ap (λ (n : ℕ). word % 2 + n) (ones_counted bits (word / 2) half)
