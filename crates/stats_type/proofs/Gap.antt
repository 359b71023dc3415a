-- The numbers outside the two ranges have no name, and a number that has none of a range's arms but the last is the last. Assumes nothing.
use Prim.Native.Nat.{ℕ, zero, suc, ◌+◌, ◌≤◌, ◌<◌}
use mathlib.Core.Bool.{Bool, true, false}
use mathlib.Core.Path.{◌≡◌, refl, ap, sym, ◌∙◌}
use mathlib.Core.List.{List, [], ◌∷◌}
use native.Mathlib.Omega.{arith}
use lib.Dec.{eqb, leb}
use borrow.Author.Tests.{eqb-true, le-leb, lt-leb}
use Rattle.wire.specs.Bytes.{pick}
use Rattle.wire.specs.Arms.{arm_of}
use Rattle.wire.proofs.Arms.{Rest}
use Rattle.stats_type.specs.Shown.{names, type_of}
use Rattle.stats_type.specs.declared.StatType.TheVariants.{Other}

-- the number lies in one of the two ranges
abbrev in_range : ℕ → Bool
in_range n = pick (leb n 23) true (pick (leb 26 n) (leb n 43) false)

-- every arm has such a number: a test that antt computes
abbrev all_in_range : {A : Type 0} → List (ℕ × A) → Bool
all_in_range [] = true
all_in_range (x ∷ l) = pick (in_range x.0) (all_in_range l) false

-- so a number that lies in neither range has no arm
outside : {A : Type 0} (n : ℕ) (d : A) → in_range n ≡ false → (l : List (ℕ × A)) → all_in_range l ≡ true → arm_of l n d ≡ d
outside n d out [] t = refl
outside n d out (x ∷ l) t = go (in_range x.0) refl (eqb n x.0) refl (outside n d out l) t
  where
    go : (a : Bool) → in_range x.0 ≡ a → (b : Bool) → eqb n x.0 ≡ b → (all_in_range l ≡ true → arm_of l n d ≡ d) → pick a (all_in_range l) false ≡ true
        → pick b x.1 (arm_of l n d) ≡ d
    go true h false k i t = i t
    go true h true k i t =
        let e : true ≡ false = sym h ∙ ap in_range (sym (eqb-true n x.0 k)) ∙ out in
        let z : ◌≡◌ {A = ℕ} 0 1 = cc in
        absurd (omega arith)
    go false h b k i t = let z : ◌≡◌ {A = ℕ} 0 1 = cc in absurd (omega arith)

-- nor a name
no_name : (n : ℕ) → in_range n ≡ false → type_of n ≡ Other n
unfolding type_of names
no_name n out = outside n (Other n) out names refl

pub in_gap : (n : ℕ) → 23 < n → n < 26 → type_of n ≡ Other n
in_gap n a b = no_name n (rw (lt-leb n 23 a, lt-leb 26 n b))

pub above_both : (n : ℕ) → 43 < n → type_of n ≡ Other n
above_both n a = no_name n (rw (lt-leb n 23 (omega arith), le-leb 26 n (omega arith), lt-leb n 43 a))

-- m arms, numbered from k on
abbrev arms : ℕ → ℕ → List (ℕ × Unit {0})
arms k zero = []
arms k (suc m) = (k, tt) ∷ arms (suc k) m

-- a number from k on that has none of these arms lies above them
above : (n k m : ℕ) (r : Type 0) → (r → k ≤ n) → Rest n r (arms k m) → k + m ≤ n
above n k zero r from h = let z = from h in omega arith
above n k (suc m) r from h = let z = above n (suc k) m (r × (n ≡ k → ⊥)) (λ p. next (from p.0) p.1) h in omega arith
  where
    next : k ≤ n → (n ≡ k → ⊥) → suc k ≤ n
    next a b = omega arith

-- so what is left for the last arm of a range is the range's last number
pub last_left : (n k m : ℕ) → k ≤ n → n ≤ k + m → Rest n (Unit {0}) (arms k m) → n ≡ k + m
last_left n k m from to h = let z = above n k m (Unit {0}) (λ u. from) h in omega arith
