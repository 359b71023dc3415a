-- A `match` on a number with many arms, against the list of their names. Assumes nothing.
use mathlib.Core.Path.{◌≡◌, refl, sym, ◌∙◌}
use mathlib.Core.List.{List, [], ◌∷◌}
use mathlib.Core.Bool.{Bool, true, false}
use Prim.Native.Nat.{ℕ, zero, suc, ◌+◌, ◌≤◌}
use native.Mathlib.Omega.{arith}
use borrow.Author.Tests.{eqb-true, ne_eqb}
use lib.Dec.{eqb}
use lib.ListN.{length, get_or}
use Rattle.wire.specs.Bytes.{pick}
use Rattle.wire.specs.Arms.{arm_of}

-- what is known at the `_` of such a match, as its `.rest`: r, and that n is none of the numbers
abbrev pub Rest : {A : Type 0} → ℕ → Type 0 → List (ℕ × A) → Type 0
Rest n r [] = r
Rest n r (x ∷ l) = Rest n (r × (n ≡ x.0 → ⊥)) l

first : {A : Type 0} (n : ℕ) (r : Type 0) (l : List (ℕ × A)) → Rest n r l → r
first n r [] h = h
first n r (x ∷ l) h = (first n (r × (n ≡ x.0 → ⊥)) l h).0

pub no_arm : {A : Type 0} (n : ℕ) (d : A) (r : Type 0) (l : List (ℕ × A)) → Rest n r l → arm_of l n d ≡ d
no_arm n d r [] h = refl
no_arm n d r (x ∷ l) h =
    let s = r × (n ≡ x.0 → ⊥) in
    rw (ne_eqb n x.0 (first n s l h).1) (no_arm n d s l h)

-- each name stands for the number of its arm: a test that antt computes
abbrev pub numbered : {A : Type 0} → (A → ℕ) → List (ℕ × A) → Bool
numbered f [] = true
numbered f (x ∷ l) = pick (eqb (f x.1) x.0) (numbered f l) false

-- then the name of n stands for n
pub number_of_arm : {A : Type 0} (f : A → ℕ) (n : ℕ) (d : A) → f d ≡ n → (l : List (ℕ × A)) → numbered f l ≡ true → f (arm_of l n d) ≡ n
number_of_arm f n d e [] t = e
number_of_arm f n d e (x ∷ l) t = go (eqb (f x.1) x.0) refl (eqb n x.0) refl (number_of_arm f n d e l) t
  where
    go : (a : Bool) → eqb (f x.1) x.0 ≡ a → (b : Bool) → eqb n x.0 ≡ b → (numbered f l ≡ true → f (arm_of l n d) ≡ n)
        → pick a (numbered f l) false ≡ true → f (pick b x.1 (arm_of l n d)) ≡ n
    go true h true k i t = eqb-true (f x.1) x.0 h ∙ sym (eqb-true n x.0 k)
    go true h false k i t = i t
    go false h b k i t = let z : ◌≡◌ {A = ℕ} 0 1 = cc in absurd (omega arith)

-- ---- names in the order of their numbers, the first of them k: a test that antt computes
abbrev pub in_order : {A : Type 0} → (A → ℕ) → ℕ → List A → Bool
in_order f k [] = true
in_order f k (x ∷ l) = pick (eqb (f x) k) (in_order f (suc k) l) false

number_from : {A : Type 0} (f : A → ℕ) (d : A) (k n : ℕ) (l : List A) → in_order f k l ≡ true → (length l ≤ n → f d ≡ k + n) → f (get_or l n d) ≡ k + n
number_from f d k n [] t e = e (omega arith)
number_from f d k n (x ∷ l) t e = go (eqb (f x) k) refl n e (λ m. number_from f d (suc k) m l) t
  where
    go : (a : Bool) → eqb (f x) k ≡ a → (n : ℕ) → (suc (length l) ≤ n → f d ≡ k + n)
        → ((m : ℕ) → in_order f (suc k) l ≡ true → (length l ≤ m → f d ≡ suc k + m) → f (get_or l m d) ≡ suc k + m)
        → pick a (in_order f (suc k) l) false ≡ true → f (get_or (x ∷ l) n d) ≡ k + n
    go true h zero e i t = eqb-true (f x) k h ∙ omega arith
    go true h (suc m) e i t = i m t (λ h. e (omega arith) ∙ omega arith) ∙ omega arith
    go false h n e i t = let z : ◌≡◌ {A = ℕ} 0 1 = cc in absurd (omega arith)

-- then the name of n stands for n, where the name of all numbers above them does
pub number_of_name : {A : Type 0} (f : A → ℕ) (n : ℕ) (d : A) (l : List A) → in_order f 0 l ≡ true → (length l ≤ n → f d ≡ n) → f (get_or l n d) ≡ n
number_of_name f n d l t e = number_from f d 0 n l t (λ h. e h ∙ omega arith) ∙ omega arith
