-- The laws of decimal digits. Assumes nothing.
use mathlib.Core.Path.{◌≡◌, refl, sym, ap, ap₂, ◌∙◌, subst}
use mathlib.Core.Bool.{Bool, true, false}
use mathlib.Core.List.{List, [], ◌∷◌, ◌++◌, map}
use Prim.Native.Nat.{ℕ, zero, suc, ◌+◌, ◌*◌, ◌/◌, ◌%◌, ◌^◌, ◌≤◌, ◌<◌}
use native.Mathlib.Omega.{arith}
use native.Mathlib.Nat.{pow-succ', one-le-pow}
use borrow.Author.Tests.{lt-ltb, le-ltb, ltb-true, ltb-false}
use lib.Dec.{ltb}
use lib.ListN.{length, set, length-append}
use lib.Seq.{sets, set_comm}
use Rattle.wire.specs.Bytes.{pick}
use Rattle.writing.proofs.Sets.{sets_append}
use Rattle.decimal.specs.Decimal.{digits_in, digits, decimal, read_on, Digits, none, more, NoLeadingZero}

-- ---- n divisions are enough, so more of them change nothing
digits_fuel : (f g n : ℕ) → n ≤ f → n ≤ g → digits_in f n ≡ digits_in g n
unfolding digits_in
digits_fuel zero zero n h k = refl
digits_fuel zero (suc g) n h k = rw (lt-ltb n 10 (omega arith))
digits_fuel (suc f) zero n h k = rw (lt-ltb n 10 (omega arith))
digits_fuel (suc f) (suc g) n h k = go (ltb n 10) refl (digits_fuel f g (n / 10))
  where
    go : (c : Bool) → ltb n 10 ≡ c → (n / 10 ≤ f → n / 10 ≤ g → digits_in f (n / 10) ≡ digits_in g (n / 10))
        → pick c (n ∷ []) (digits_in f (n / 10) ++ (n % 10 ∷ [])) ≡ pick c (n ∷ []) (digits_in g (n / 10) ++ (n % 10 ∷ []))
    go true e i = refl
    go false e i =
        let b = ltb-false n 10 e in
        ap (λ (l : List ℕ). l ++ (n % 10 ∷ [])) (i (omega arith) (omega arith))

-- ---- one digit, or those of the quotient and then the remainder
pub digits_one : (n : ℕ) → n < 10 → digits n ≡ n ∷ []
unfolding digits_in
digits_one zero h = refl
digits_one (suc n) h = rw (lt-ltb (suc n) 10 h)

pub digits_more : (n : ℕ) → 10 ≤ n → digits n ≡ digits (n / 10) ++ (n % 10 ∷ [])
unfolding digits_in
digits_more zero h = absurd (omega arith)
digits_more (suc n) h =
    rw (le-ltb (suc n) 10 h) (ap (λ (l : List ℕ). l ++ (suc n % 10 ∷ [])) (digits_fuel n (suc n / 10) (suc n / 10) (omega arith) (omega arith)))

-- what holds of one digit, and of n where it holds of the quotient, holds of every number
pub by_digits : (P : ℕ → Type 0) → ((n : ℕ) → n < 10 → P n) → ((n : ℕ) → 10 ≤ n → P (n / 10) → P n) → (n : ℕ) → P n
by_digits P one step n = below n n (omega arith)
  where
    below : (f n : ℕ) → n ≤ f → P n
    below zero n h = one n (omega arith)
    below (suc f) n h = go (ltb n 10) refl (below f (n / 10))
      where
        go : (c : Bool) → ltb n 10 ≡ c → (n / 10 ≤ f → P (n / 10)) → P n
        go true e i = one n (ltb-true n 10 e)
        go false e i = let b = ltb-false n 10 e in step n b (i (omega arith))

-- ---- as text
map_append : (a b : List ℕ) → map (λ d. 48 + d) (a ++ b) ≡ map (λ d. 48 + d) a ++ map (λ d. 48 + d) b
map_append [] b = refl
map_append (x ∷ a) b = ap (λ (l : List ℕ). (48 + x) ∷ l) (map_append a b)

pub decimal_one : (n : ℕ) → n < 10 → decimal n ≡ (48 + n) ∷ []
decimal_one n h = ap (map (λ d. 48 + d)) (digits_one n h)

pub decimal_more : (n : ℕ) → 10 ≤ n → decimal n ≡ decimal (n / 10) ++ ((48 + n % 10) ∷ [])
decimal_more n h = ap (map (λ d. 48 + d)) (digits_more n h) ∙ map_append (digits (n / 10)) (n % 10 ∷ [])

pub length_one : (n : ℕ) → n < 10 → length (decimal n) ≡ 1
length_one n h = ap length (decimal_one n h)

pub length_more : (n : ℕ) → 10 ≤ n → length (decimal n) ≡ length (decimal (n / 10)) + 1
length_more n h = ap length (decimal_more n h) ∙ length-append (decimal (n / 10)) ((48 + n % 10) ∷ [])

pub length_some : (n : ℕ) → 0 < length (decimal n)
length_some = by_digits (λ n. 0 < length (decimal n)) (λ n h. rw (length_one n h) (omega arith)) (λ n h i. rw (length_more n h) (omega arith))

-- ---- a number below a power of ten has no more digits than that
pub length_at_most : (k n : ℕ) → n < 10 ^ suc k → length (decimal n) ≤ suc k
length_at_most zero n h = rw (length_one n h) (omega arith)
length_at_most (suc k) n h = go (ltb n 10) refl (length_at_most k (n / 10))
  where
    go : (c : Bool) → ltb n 10 ≡ c → (n / 10 < 10 ^ suc k → length (decimal (n / 10)) ≤ suc k) → length (decimal n) ≤ suc (suc k)
    go true e i = rw (length_one n (ltb-true n 10 e)) (omega arith)
    go false e i =
        let p : n < 10 * 10 ^ suc k = subst (λ (m : ℕ). n < m) (pow-succ' 10 (suc k)) h in
        let q = i (omega (arith, p)) in
        omega (arith, length_more n (ltb-false n 10 e), q)

-- a number that reaches a power of ten has more digits than its exponent
pub length_at_least : (k n : ℕ) → 10 ^ k ≤ n → k < length (decimal n)
length_at_least zero n h = length_some n
length_at_least (suc k) n h =
    let p : 10 * 10 ^ k ≤ n = subst (λ (m : ℕ). m ≤ n) (pow-succ' 10 k) h in
    let one : 0 < 10 ^ k = one-le-pow k 10 (omega arith) in
    let q = length_at_least k (n / 10) (omega (arith, p)) in
    omega (arith, length_more n (omega (arith, p, one)), q)

-- ---- digits read
pub read_snoc : (l : List ℕ) (d n : ℕ) → read_on n (l ++ (d ∷ [])) ≡ read_on n l * 10 + d
read_snoc [] d n = refl
read_snoc (x ∷ l) d n = read_snoc l d (n * 10 + x)

pub snoc_digits : {l : List ℕ} (d : ℕ) → d < 10 → Digits l → Digits (l ++ (d ∷ []))
snoc_digits d h none = more h none
snoc_digits d h (more k p) = more k (snoc_digits d h p)

-- a digit behind a number that is not 0
pub snoc_leading : (l : List ℕ) (d : ℕ) → NoLeadingZero l → 0 < read_on 0 l → NoLeadingZero (l ++ (d ∷ []))
snoc_leading [] d p h = tt
snoc_leading (x ∷ []) d p h = omega (arith, h)
snoc_leading (x ∷ y ∷ l) d p h = p

-- ---- a list from its end
data Snoc : List ℕ → Type 0 where
  nil : Snoc []
  snoc : (l : List ℕ) (d : ℕ) → Snoc l → Snoc (l ++ (d ∷ []))

from_end : (l : List ℕ) → Snoc l
from_end [] = nil
from_end (x ∷ l) = push (from_end l)
  where
    push : {l : List ℕ} → Snoc l → Snoc (x ∷ l)
    push nil = snoc [] x nil
    push (snoc l d v) = snoc (x ∷ l) d (push v)

digits_apart : (l : List ℕ) (d : ℕ) → Digits (l ++ (d ∷ [])) → Digits l × (d < 10)
digits_apart [] d (more h none) = (none, h)
digits_apart (x ∷ l) d (more h p) = let q = digits_apart l d p in (more h q.0, q.1)

leading : (x : ℕ) (l : List ℕ) (d : ℕ) → NoLeadingZero (x ∷ (l ++ (d ∷ []))) → 0 < x
leading x [] d z = z
leading x (y ∷ l) d z = z

not_zero : (x : ℕ) (l : List ℕ) → 0 < x → NoLeadingZero (x ∷ l)
not_zero x [] h = tt
not_zero x (y ∷ l) h = h

read_grows : (l : List ℕ) (n : ℕ) → n ≤ read_on n l
read_grows [] n = omega arith
read_grows (d ∷ l) n = let i = read_grows l (n * 10 + d) in omega (arith, i)

digits_read : {l : List ℕ} → Snoc l → Digits l → NoLeadingZero l → digits (read_on 0 l) ≡ l
digits_read nil p z = absurd z
digits_read (snoc [] d v) p z =
    let e : read_on 0 (d ∷ []) ≡ d = omega arith in
    ap digits e ∙ digits_one d (digits_apart [] d p).1
digits_read (snoc (x ∷ l) d v) p z =
    let q = digits_apart (x ∷ l) d p in
    let h = leading x l d z in
    let n = read_on 0 (x ∷ l) in
    let some : 0 < n = let g = read_grows l (0 * 10 + x) in omega (arith, g, h) in
    let i = digits_read v q.0 (not_zero x l h) in
    let quotient : (n * 10 + d) / 10 ≡ n = omega (arith, q.1) in
    let remainder : (n * 10 + d) % 10 ≡ d = omega (arith, q.1) in
    ap digits (read_snoc (x ∷ l) d 0) ∙ digits_more (n * 10 + d) (omega (arith, some))
    ∙ ap₂ (λ (a : List ℕ) (b : ℕ). a ++ (b ∷ [])) (ap digits quotient ∙ i) remainder

pub digits_of_read : (l : List ℕ) → Digits l → NoLeadingZero l → digits (read_on 0 l) ≡ l
digits_of_read l = digits_read (from_end l)

-- ---- digits put from the last backwards
-- a byte behind a text can be put before it
put_behind : (a l : List ℕ) (at k x : ℕ) → at + length a ≤ k → set (sets l at a) k x ≡ sets (set l k x) at a
put_behind [] l at k x h = refl
put_behind (y ∷ a) l at k x h =
    put_behind a (set l at y) (suc at) k x (omega arith) ∙ ap (λ (o : List ℕ). sets o (suc at) a) (set_comm l at k y x (λ e. omega arith))

-- once the last digit stands there, those of the quotient are left
pub put_last : (l : List ℕ) (at k n : ℕ) → 10 ≤ n → k + 1 ≡ at + length (decimal n) → sets (set l k (48 + n % 10)) at (decimal (n / 10)) ≡ sets l at (decimal n)
put_last l at k n h e =
    let a = decimal (n / 10) in
    let there : at + length a ≡ k = omega (arith, length_more n h, e) in
    sym (put_behind a l at k (48 + n % 10) (omega (arith, there)))
    ∙ ap (λ (i : ℕ). set (sets l at a) i (48 + n % 10)) (sym there)
    ∙ sym (sets_append a ((48 + n % 10) ∷ []) l at)
    ∙ ap (sets l at) (sym (decimal_more n h))

pub put_first : (l : List ℕ) (at k n : ℕ) → n < 10 → k + 1 ≡ at + length (decimal n) → set l k (48 + n) ≡ sets l at (decimal n)
put_first l at k n h e =
    let there : k ≡ at = omega (arith, length_one n h, e) in
    rw (decimal_one n h, there)
