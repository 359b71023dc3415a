-- The time of two words is a number, and bits tell the numbers of binary64 apart. Assumes nothing.
use Prim.Native.Nat.{ℕ, zero, suc, ◌*◌, ◌^◌, ◌+◌}
use mathlib.Core.Bool.{Bool, true, false, not, cond}
use mathlib.Core.Path.{◌≡◌, refl, sym, ap, ◌∙◌, subst}
use borrow.Author.Tests.{eqb-true, eq-eqb}
use lib.Dec.{T, ltb}
use lib.IntN.{ℤ, pos}
use lib.Ieee.{Float, nan, inf, fin, Format, binary64, low, emax, prec, up, down, odd, units, round, sum, add, div, of_int, eq, is_nan, fits, to_bits, of_bits}
use lib.Ieee.Bits.{of_bits-to_bits}
use lib.Ieee.Fits.{round_is, add-fits}
use Rattle.times.specs.Time.{time_of, is_timestamp}

-- ---- a number that is not negative, infinity among them: what the words count, their quotient and their sum
data Counts : Float → Type 0 where
  endless : Counts (inf false)
  finite : (m : ℕ) (e : ℤ) → Counts (fin false m e)

exact : (d q k l : ℕ) → Counts (odd d false q k l)
unfolding odd
exact d zero k l = finite zero (pos zero)
exact d (suc q) k l = finite _ _

scaled : (f : Format) (q k : ℕ) → Counts (units f false q k)
unfolding units
scaled f q k = go (ltb (q * 2 ^ k) (2 ^ (low f + suc (emax f))))
  where
    go : (b : Bool) → Counts (cond b (odd (suc (prec f)) false q k (low f)) (inf false))
    go true = exact (suc (prec f)) q k (low f)
    go false = endless

rounded : (f : Format) (num den : ℕ) → Counts (round f false num den)
rounded f num den = subst Counts (sym (round_is f false num den)) (scaled f _ _)

divided : (x : Float) → Counts x → Counts (div binary64 x (of_int binary64 (pos 1000000)))
unfolding div of_int
divided x endless = endless
divided x (finite m e) = rounded binary64 (m * up e * 1) (1000000 * down e)

added : (x y : Float) → Counts x → Counts y → Counts (add binary64 x y)
unfolding add sum
added x y endless endless = endless
added x y endless (finite n d) = endless
added x y (finite m e) endless = endless
added x y (finite m e) (finite n d) = rounded binary64 (m * up e * down d + n * up d * down e) (down e * down d)

time_counts : (seconds microseconds : ℕ) → Counts (time_of seconds microseconds)
unfolding of_int
time_counts seconds microseconds = added _ _ (rounded binary64 seconds 1) (divided _ (rounded binary64 microseconds 1))

-- ---- so it is no NaN, and equals itself
counts_number : (x : Float) → Counts x → T (not (is_nan x))
unfolding is_nan
counts_number x endless = tt
counts_number x (finite m e) = tt

pub time_number : (seconds microseconds : ℕ) → T (not (is_nan (time_of seconds microseconds)))
time_number seconds microseconds = counts_number _ (time_counts seconds microseconds)

counts_equal : (x : Float) → Counts x → eq x x ≡ true
unfolding eq
counts_equal x endless = refl
counts_equal x (finite m e) = rw (eq-eqb (m * up e * down e) (m * up e * down e) refl)

-- ---- what `==` finds equal is no NaN
pub equal_number : (x y : Float) → eq x y ≡ true → T (not (is_nan x))
unfolding eq is_nan
equal_number nan y e = subst T (sym e) tt
equal_number (inf s) y e = tt
equal_number (fin s m k) y e = tt

-- ---- a float of binary64 is the time of the words exactly where it has the bits that they give
module _ (t : Float) (seconds microseconds : ℕ) (holds : T (fits binary64 t)) where
  pub same_bits : is_timestamp t seconds microseconds ≡ true → t ≡ time_of seconds microseconds
  same_bits e =
      sym (of_bits-to_bits binary64 t holds)
      ∙ ap (of_bits binary64) (eqb-true (to_bits binary64 t) (to_bits binary64 (time_of seconds microseconds)) e)
      ∙ of_bits-to_bits binary64 (time_of seconds microseconds) (add-fits binary64 _ _)

  -- and it equals that time where it has them
  pub other_bits : eq t (time_of seconds microseconds) ≡ false → is_timestamp t seconds microseconds ≡ false
  other_bits e = go (is_timestamp t seconds microseconds) refl
    where
      go : (b : Bool) → is_timestamp t seconds microseconds ≡ b → b ≡ false
      go true same =
          let equal : eq t (time_of seconds microseconds) ≡ true =
          ap (λ (x : Float). eq x (time_of seconds microseconds)) (same_bits same) ∙ counts_equal _ (time_counts seconds microseconds) in
          cc
      go false same = refl
