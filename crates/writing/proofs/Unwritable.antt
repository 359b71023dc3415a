-- Tests that are false exactly where something holds, put together as the writers put theirs; and the entries of a table. Assumes nothing.
use mathlib.Core.Path.{◌≡◌, refl, sym, ap, ◌∙◌}
use mathlib.Core.Bool.{Bool, true, false, ◌&&◌}
use mathlib.Core.Logic.{◌⊎◌, inl, inr, ◌↔◌}
use mathlib.Core.List.{List, [], ◌∷◌}
use Prim.Native.Nat.{ℕ, zero, suc, ◌+◌, ◌-◌, ◌^◌, ◌≤◌, ◌<◌}
use native.Mathlib.Omega.{arith}
use borrow.Author.Tests.{ltb-true, ltb-false, leb-false, eqb-true, eqb-false, lt-ltb, le-ltb, lt-leb, ne_eqb}
use lib.Dec.{ltb, leb, eqb}
use lib.ListN.{length, take, get_or}
use lib.Seq.{get_or-take, length-take-le}
use Rattle.wire.specs.Bytes.{pick}
use Rattle.wire.specs.View.{inside}
use Rattle.wire.specs.declared.View.{View}
use Rattle.writing.specs.Write.{tlv_fits}
use Rattle.writing.specs.Table.{Writer, all_ok}
use Rattle.writing.specs.Unwritable.{ViewOutside, LengthNotKept}

-- the test is false exactly where U holds
abbrev pub FalseWhere : Bool → Type 0 → Type 0
FalseWhere test U = (test ≡ false) ↔ U

pub true_not_false : {A : Type 0} → true ≡ false → A
true_not_false e = let z : ◌≡◌ {A = ℕ} 0 1 = cc in absurd (omega arith)

pub false_unless : (test : Bool) → (test ≡ true → ⊥) → test ≡ false
false_unless true not_so = absurd (not_so refl)
false_unless false not_so = refl

-- the same in other words
pub restated : {test : Bool} {U Q : Type 0} → (U → Q) → (Q → U) → FalseWhere test U → FalseWhere test Q
restated forth back f = (λ e. forth (f.0 e), λ v. f.1 (back v))

-- ---- where the test is true, U does not hold
pub writable_unless : {test : Bool} {U : Type 0} → FalseWhere test U → test ≡ true → U → ⊥
writable_unless f e u = true_not_false (sym e ∙ f.1 u)

pub within : (limit n : ℕ) → (limit < n → ⊥) → n ≤ limit
within limit n not_so = go (ltb limit n) refl
  where
    go : (c : Bool) → ltb limit n ≡ c → n ≤ limit
    go true h = absurd (not_so (ltb-true limit n h))
    go false h = ltb-false limit n h

pub the_one : (n one : ℕ) → ((n ≡ one → ⊥) → ⊥) → n ≡ one
the_one n one not-other = go (eqb n one) refl
  where
    go : (c : Bool) → eqb n one ≡ c → n ≡ one
    go true h = eqb-true n one h
    go false h = absurd (not-other (eqb-false n one h))

-- ---- one test
pub not_equal : (a b : ℕ) → FalseWhere (eqb a b) (a ≡ b → ⊥)
not_equal a b = (eqb-false a b, ne_eqb a b)

pub not_below : (a b : ℕ) → FalseWhere (ltb a b) (b ≤ a)
not_below a b = (ltb-false a b, le-ltb a b)

pub not_up_to : (a b : ℕ) → FalseWhere (leb a b) (b < a)
not_up_to a b = (leb-false a b, lt-leb a b)

pub outside : (room : ℕ) (v : View) → FalseWhere (inside room v) (ViewOutside v.place v.length room)
outside room v = not_up_to (v.place + v.length) room

-- a test that holds of every record, by the types of its fields
pub never : {test : Bool} → test ≡ true → FalseWhere test ⊥
never h = (λ e. true_not_false (sym h ∙ e), λ no. absurd no)

-- a test that is true exactly where P holds
pub unless : {test : Bool} {P : Type 0} → (test ≡ true) ↔ P → FalseWhere test (P → ⊥)
unless {test} f = (λ e p. true_not_false (sym (f.1 p) ∙ e), λ not_so. false_unless test (λ e. not_so (f.0 e)))

-- ---- two tests, both of which must hold
picked : (a b : Bool) {A B : Type 0} → FalseWhere a A → FalseWhere b B → FalseWhere (pick a b false) (A ⊎ B)
picked true b {A} {B} f g = (λ e. inr (g.0 e), back)
  where
    back : A ⊎ B → b ≡ false
    back (inl x) = true_not_false (f.1 x)
    back (inr y) = g.1 y
picked false b f g = (λ e. inl (f.0 refl), λ u. refl)

anded : (a b : Bool) {A B : Type 0} → FalseWhere a A → FalseWhere b B → FalseWhere (a && b) (A ⊎ B)
anded true b f g = picked true b f g
anded false b f g = picked false b f g

pub either_picked : {a b : Bool} {A B : Type 0} → FalseWhere a A → FalseWhere b B → FalseWhere (pick a b false) (A ⊎ B)
either_picked {a} {b} f g = picked a b f g

pub either : {a b : Bool} {A B : Type 0} → FalseWhere a A → FalseWhere b B → FalseWhere (a && b) (A ⊎ B)
either {a} {b} f g = anded a b f g

-- ---- a limit, and then a test of what is within it
pub past_limit : (limit n : ℕ) {b : Bool} {B : Type 0} → (n ≤ limit → FalseWhere b B) → FalseWhere (pick (ltb limit n) false b) ((limit < n) ⊎ B)
past_limit limit n {b} {B} g = go (ltb limit n) refl
  where
    go : (c : Bool) → ltb limit n ≡ c → FalseWhere (pick c false b) ((limit < n) ⊎ B)
    go true h = (λ e. inl (ltb-true limit n h), λ u. refl)
    go false h = (λ e. inr ((g few).0 e), back)
      where
        few : n ≤ limit
        few = ltb-false limit n h

        back : (limit < n) ⊎ B → b ≡ false
        back (inl x) = absurd (omega (arith, x, few))
        back (inr y) = (g few).1 y

-- ---- a number that is refused, and then a test of the others
pub refused_number : (n k : ℕ) {b : Bool} {B : Type 0} → FalseWhere b B → FalseWhere (pick (eqb n k) false b) ((n ≡ k) ⊎ B)
refused_number n k {b} {B} g = go (eqb n k) refl
  where
    go : (c : Bool) → eqb n k ≡ c → FalseWhere (pick c false b) ((n ≡ k) ⊎ B)
    go true h = (λ e. inl (eqb-true n k h), λ u. refl)
    go false h = (λ e. inr (g.0 e), back)
      where
        back : (n ≡ k) ⊎ B → b ≡ false
        back (inl x) = absurd (eqb-false n k h x)
        back (inr y) = g.1 y

-- ---- one test or the other, by whether two numbers are equal
pub by_equal : (n k : ℕ) {a b : Bool} {A B : Type 0} → FalseWhere a A → FalseWhere b B
    → FalseWhere (pick (eqb n k) a b) (((n ≡ k) × A) ⊎ ((n ≡ k → ⊥) × B))
by_equal n k {a} {b} {A} {B} f g = go (eqb n k) refl
  where
    go : (c : Bool) → eqb n k ≡ c → FalseWhere (pick c a b) (((n ≡ k) × A) ⊎ ((n ≡ k → ⊥) × B))
    go true h = (λ e. inl (eqb-true n k h, f.0 e), back)
      where
        back : ((n ≡ k) × A) ⊎ ((n ≡ k → ⊥) × B) → a ≡ false
        back (inl x) = f.1 x.1
        back (inr y) = absurd (y.0 (eqb-true n k h))
    go false h = (λ e. inr (eqb-false n k h, g.0 e), back)
      where
        back : ((n ≡ k) × A) ⊎ ((n ≡ k → ⊥) × B) → b ≡ false
        back (inl x) = absurd (eqb-false n k h x.0)
        back (inr y) = g.1 y.1

-- ---- a TLV that is written from a view, where type and length are of two bytes
pub tlv_unwritable : (kind size : ℕ) (v : View) (room : ℕ) → kind < 256 ^ 2 → size < 256 ^ 2
    → FalseWhere (tlv_fits kind size v room) (LengthNotKept v.length size ⊎ ViewOutside v.place v.length room)
unfolding tlv_fits
tlv_unwritable kind size v room k z =
    rw (lt-ltb kind (256 ^ 2) k, lt-ltb size (256 ^ 2) z) (either_picked (not_equal v.length size) (outside room v))

-- ---- a table: an item U holds of an entry below n, with the number of entries after it
pub record SomeEntry {A : Type 0} (U : ℕ → A → Type 0) (n : ℕ) (table : List A) (d : A) : Type 0 where
  pub at : ℕ
  pub below : at < n
  pub holds : U (n - at - 1) (get_or table at d)

module _ (W : Writer) (room : ℕ) (d : W.Entry) where
  abbrev Bad : ℕ → W.Entry → Type 0
  Bad after t = W.ok room after t ≡ false

  found : (l : List W.Entry) → all_ok W room l ≡ false → SomeEntry Bad (length l) l d
  found [] e = true_not_false e
  found (t ∷ l) e = go (W.ok room (length l) t) refl e (found l)
    where
      go : (c : Bool) → W.ok room (length l) t ≡ c → pick c (all_ok W room l) false ≡ false
          → (all_ok W room l ≡ false → SomeEntry Bad (length l) l d) → SomeEntry Bad (suc (length l)) (t ∷ l) d
      go true h q next =
          let b = next q in
          let n : suc (length l) - suc b.at - 1 ≡ length l - b.at - 1 = omega arith in
          record { at = suc b.at; below = omega (arith, b.below); holds = ap (λ (k : ℕ). W.ok room k (get_or l b.at d)) n ∙ b.holds }
      go false h q next =
          let n : suc (length l) - 0 - 1 ≡ length l = omega arith in
          record { at = 0; below = omega arith; holds = ap (λ (k : ℕ). W.ok room k t) n ∙ h }

  refused : (l : List W.Entry) (i : ℕ) → i < length l → Bad (length l - i - 1) (get_or l i d) → all_ok W room l ≡ false
  refused [] i h e = absurd (omega arith)
  refused (t ∷ l) zero h e =
      let n : length l ≡ suc (length l) - 0 - 1 = omega arith in
      rw (ap (λ (k : ℕ). W.ok room k t) n ∙ e)
  refused (t ∷ l) (suc i) h e =
      let n : length l - i - 1 ≡ suc (length l) - suc i - 1 = omega arith in
      rest (W.ok room (length l) t) (refused l i (omega arith) (ap (λ (k : ℕ). W.ok room k (get_or l i d)) n ∙ e))
    where
      rest : (c : Bool) → all_ok W room l ≡ false → pick c (all_ok W room l) false ≡ false
      rest true q = q
      rest false q = refl

  -- some entry of the first n is refused exactly where U holds of one, where that is so of each
  pub entries_unwritable : (U : ℕ → W.Entry → Type 0) (n : ℕ) (table : List W.Entry) → n ≤ length table
      → ((i : ℕ) → i < n → (after : ℕ) → FalseWhere (W.ok room after (get_or table i d)) (U after (get_or table i d)))
      → FalseWhere (all_ok W room (take n table)) (SomeEntry U n table d)
  entries_unwritable U n table few each = (forth, back)
    where
      many : length (take n table) ≡ n
      many = length-take-le n table few

      forth : all_ok W room (take n table) ≡ false → SomeEntry U n table d
      forth e =
          let b = found (take n table) e in
          let i = b.at in
          let s : i < n = omega (arith, b.below, many) in
          let k : n - i - 1 ≡ length (take n table) - i - 1 = omega (arith, many) in
          let bad : Bad (n - i - 1) (get_or table i d) =
          ap (λ (m : ℕ). W.ok room m (get_or table i d)) k ∙ ap (W.ok room (length (take n table) - i - 1)) (sym (get_or-take n table i d s)) ∙ b.holds in
          record { at = i; below = s; holds = (each i s (n - i - 1)).0 bad }

      back : SomeEntry U n table d → all_ok W room (take n table) ≡ false
      back b =
          let i = b.at in
          let k : length (take n table) - i - 1 ≡ n - i - 1 = omega (arith, many) in
          refused (take n table) i (omega (arith, b.below, many))
          (ap (λ (m : ℕ). W.ok room m (get_or (take n table) i d)) k ∙ ap (W.ok room (n - i - 1)) (get_or-take n table i d b.below)
          ∙ (each i b.below (n - i - 1)).1 b.holds)
