-- What a user of this crate relies on: the digits of a number write that number, and no others do. Assumes nothing.
use mathlib.Core.Path.{◌≡◌, ap, ◌∙◌}
use mathlib.Core.List.{List}
use Prim.Native.Nat.{ℕ, suc, ◌/◌, ◌%◌, ◌^◌, ◌≤◌, ◌<◌}
use native.Mathlib.Omega.{arith}
use lib.ListN.{length}
use Rattle.wire.proofs.Determined.{determined}
use Rattle.writing.specs.Write.{put_at}
use Rattle.decimal.specs.Decimal.{digits, decimal, number_of, Digits, none, more, NoLeadingZero}
use Rattle.decimal.proofs.Laws.{by_digits, digits_one, digits_more, length_at_most, read_snoc, snoc_digits, snoc_leading, digits_of_read}

-- The digits of a number write that number.
pub number_back : (n : ℕ) → number_of (digits n) ≡ n
number_back =
    by_digits (λ n. number_of (digits n) ≡ n)
    (λ n h. rw (digits_one n h) (omega arith))
    (λ n h i. ap number_of (digits_more n h) ∙ read_snoc (digits (n / 10)) (n % 10) 0 ∙ omega (arith, i))

-- Each of them is below 10.
pub each_below_ten : (n : ℕ) → Digits (digits n)
each_below_ten =
    by_digits (λ n. Digits (digits n))
    (λ n h. rw (digits_one n h) (more h none))
    (λ n h i. rw (digits_more n h) (snoc_digits (n % 10) (omega arith) i))

-- There is at least one, and the first of several is not 0.
pub no_leading_zero : (n : ℕ) → NoLeadingZero (digits n)
no_leading_zero =
    by_digits (λ n. NoLeadingZero (digits n))
    (λ n h. rw (digits_one n h) tt)
    (λ n h i. rw (digits_more n h) (snoc_leading (digits (n / 10)) (n % 10) i (rw (number_back (n / 10)) (omega arith))))

-- No other digits without a leading zero write that number.
pub only_digits : (l : List ℕ) → Digits l → NoLeadingZero l → digits (number_of l) ≡ l
only_digits = digits_of_read

-- A number below a power of ten has at most as many digits as that power's exponent.
pub at_most : (k n : ℕ) → n < 10 ^ suc k → length (decimal n) ≤ suc k
at_most = length_at_most

-- ---- any two answers, and any two outputs, that a contract allows are equal
pub put_decimal_count_determined : (n r q : ℕ) → r ≡ length (decimal n) → q ≡ length (decimal n) → r ≡ q
put_decimal_count_determined n r q = determined

pub put_decimal_determined : (out : List ℕ) (at n : ℕ) (out' out'' : List ℕ) → out' ≡ put_at out at (decimal n) → out'' ≡ put_at out at (decimal n) → out' ≡ out''
put_decimal_determined out at n out' out'' = determined
