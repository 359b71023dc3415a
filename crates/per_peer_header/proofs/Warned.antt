-- The zeros of an address. Assumes nothing.
use Prim.Native.Nat.{ℕ, zero, suc, ◌+◌, ◌*◌, ◌^◌, ◌≤◌, ◌<◌}
use mathlib.Core.Bool.{Bool, ◌&&◌}
use mathlib.Core.Path.{◌≡◌, refl, ap, ◌∙◌}
use mathlib.Core.List.{List, [], ◌∷◌}
use native.Mathlib.Nat.{one-le-pow}
use native.Mathlib.Omega.{arith}
use borrow.Author.Tests.{ne_eqb}
use lib.Dec.{eqb, lit<, lit≤}
use lib.ListN.{length, take, drop}
use Rattle.wire.specs.Bytes.{value, num_at, number_at}
use Rattle.wire.proofs.Bytes.{num_split}
use Rattle.per_peer_header.specs.Warnings.{zero_filled}
use Rattle.per_peer_header.proofs.Fields.{there}

-- a number of two parts is zero where both are
both_zero : (a p b : ℕ) → 0 < p → eqb (a * p + b) 0 ≡ eqb a 0 && eqb b 0
both_zero zero p b positive = let e : 0 * p + b ≡ b = omega arith in ap (λ (n : ℕ). eqb n 0) e
both_zero (suc a) p b positive = rw (ne_eqb (suc a) 0 (λ e. omega arith)) (ne_eqb (suc a * p + b) 0 (λ e. omega arith))

-- octets are zero where the number that they write is
zero_value : (l : List ℕ) → eqb (value l) 0 ≡ zero_filled l
unfolding value
zero_value [] = refl
zero_value (b ∷ l) =
    both_zero b (256 ^ length l) (value l) (one-le-pow (length l) 256 (lit< tt)) ∙ ap (λ (x : Bool). eqb b 0 && x) (zero_value l)

-- the address of a header, as two numbers of eight bytes
pub halves_zero : (s : List ℕ) → 42 ≤ length s → eqb (number_at 8 s 10) 0 && eqb (number_at 8 s 18) 0 ≡ zero_filled (take 16 (drop 10 s))
halves_zero s long =
    rw (
      there s long 8 10 (lit≤ tt),
      there s long 8 18 (lit≤ tt),
      ← both_zero (num_at 8 s 10) (256 ^ 8) (num_at 8 s 18) (lit< tt),
      ← num_split 8 8 s 10 (omega arith),
    )
    (zero_value (take 16 (drop 10 s)))
