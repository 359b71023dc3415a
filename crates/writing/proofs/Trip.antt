-- A table that was written and is read again: where each entry is shown as it was, all are. Assumes nothing.
use mathlib.Core.Path.{◌≡◌, refl, sym, ap, ap₂, ◌∙◌, subst}
use mathlib.Core.List.{List, [], ◌∷◌, ◌++◌}
use mathlib.Core.Bool.{true}
use Prim.Native.Nat.{ℕ, zero, suc, ◌+◌, ◌≤◌, ◌<◌}
use native.Mathlib.Omega.{arith}
use lib.ListN.{length, take, get_or}
use lib.Seq.{get_or-take, length-take-le}
use Rattle.wire.specs.Parts.{join_all, EachGood, shown_from, end_from, AllAt}
use Rattle.wire.proofs.Walk.{no_tail}
use Rattle.writing.specs.Table.{Writer, parts, joined, all_ok, sizes}
use Rattle.writing.proofs.Table.{ok_head, kept_each}

module _ (W : Writer) (size : W.Item → ℕ) (entry : ℕ → W.Item → W.Entry) (Seen : ℕ → W.Item → Type 0) (b : List ℕ) where
  -- S t u: the entry u shows what t shows
  pub each_same : (S : W.Entry → W.Entry → Type 0) (d : W.Entry)
      → ((n at : ℕ) (t : W.Entry) → W.ok (length b) n t ≡ true → Seen at (W.part b t) → S t (entry at (W.part b t)))
      → (r k : List W.Entry) (at i : ℕ) → all_ok W (length b) k ≡ true → AllAt size Seen at (parts W b k) → i < length k
      → S (get_or k i d) (get_or (shown_from size entry at (parts W b k) ++ r) i d)
  each_same S d f r [] at i w v h = absurd (omega arith)
  each_same S d f r (t ∷ k) at zero w v h = f (length k) at t (ok_head W (length b) t k w).0 v.0
  each_same S d f r (t ∷ k) at (suc i) w v h =
      each_same S d f r k (at + size (W.part b t)) i (ok_head W (length b) t k w).1 v.1 (omega arith)

  -- the reader's end is the written length
  pub end_sizes : ((n : ℕ) (t : W.Entry) → W.ok (length b) n t ≡ true → size (W.part b t) ≡ W.size t)
      → (k : List W.Entry) (at : ℕ) → all_ok W (length b) k ≡ true → end_from size at (parts W b k) ≡ at + sizes W k
  end_sizes f [] at e = omega arith
  end_sizes f (t ∷ k) at e =
      let o = ok_head W (length b) t k e in
      let n = f (length k) t o.0 in
      end_sizes f k (at + size (W.part b t)) o.1 ∙ omega (arith, n)

  -- the other way: items that are shown as entries are those entries' items, where each is
  pub parts_back : (S : W.Entry → W.Entry → Type 0) (d : W.Entry)
      → ((at : ℕ) (x : W.Item) (t : W.Entry) → Seen at x → S t (entry at x) → x ≡ W.part b t)
      → (r k : List W.Entry) (l : List W.Item) (at : ℕ) → length k ≡ length l → AllAt size Seen at l
      → ((i : ℕ) → i < length k → S (get_or k i d) (get_or (shown_from size entry at l ++ r) i d))
      → l ≡ parts W b k
  parts_back S d f r [] [] at n v h = refl
  parts_back S d f r [] (x ∷ l) at n v h = absurd (omega arith)
  parts_back S d f r (t ∷ k) [] at n v h = absurd (omega arith)
  parts_back S d f r (t ∷ k) (x ∷ l) at n v h =
      ap₂ ◌∷◌ (f at x t v.0 (h 0 (omega arith)))
      (parts_back S d f r k l (at + size x) (omega arith) v.1 (λ i e. h (suc i) (omega arith)))

  -- ---- both for the first n entries of a table
  pub table_same : (S : W.Entry → W.Entry → Type 0) (d : W.Entry)
      → ((n at : ℕ) (t : W.Entry) → W.ok (length b) n t ≡ true → Seen at (W.part b t) → S t (entry at (W.part b t)))
      → (r table : List W.Entry) (n at : ℕ) → n ≤ length table → all_ok W (length b) (take n table) ≡ true → AllAt size Seen at (parts W b (take n table))
      → (i : ℕ) → i < n → S (get_or table i d) (get_or (shown_from size entry at (parts W b (take n table)) ++ r) i d)
  table_same S d f r table n at few w v i h =
      subst (λ (t : W.Entry). S t (get_or (shown_from size entry at (parts W b (take n table)) ++ r) i d)) (get_or-take n table i d h)
      (each_same S d f r (take n table) at i w v (omega (arith, length-take-le n table few, h)))

  module _ (S : W.Entry → W.Entry → Type 0) (d : W.Entry) (f : (at : ℕ) (x : W.Item) (t : W.Entry) → Seen at x → S t (entry at x) → x ≡ W.part b t)
      (r table : List W.Entry) (n at : ℕ) (l : List W.Item) (few : n ≤ length table) (e : n ≡ length l) (v : AllAt size Seen at l)
      (h : (i : ℕ) → i < n → S (get_or table i d) (get_or (shown_from size entry at l ++ r) i d)) where
    pub table_back : l ≡ parts W b (take n table)
    table_back =
        parts_back S d f r (take n table) l at (length-take-le n table few ∙ e) v
        (kept_each (λ i t. S t (get_or (shown_from size entry at l ++ r) i d)) table n d h)

    -- so what was good of the items is good of what was written, which has no tail
    pub table_good : (long : W.Item → ℕ) → ((x : W.Item) (y : List ℕ) → length (W.put x y) ≡ long x + length y) → (G : W.Item → List ℕ → Type 0) (z : List ℕ)
        → join_all W.put l z ≡ joined W b (take n table) → EachGood W.put G l z → EachGood W.put G (parts W b (take n table)) []
    table_good long put_long G z j g =
        let none : z ≡ [] = no_tail W.put long put_long (parts W b (take n table)) z (ap (λ (k : List W.Item). join_all W.put k z) (sym table_back) ∙ j) in
        subst (λ (k : List W.Item). EachGood W.put G k []) table_back (subst (EachGood W.put G l) none g)

-- ---- entries are writable where each is whose item is good and of which Q holds
module _ (W : Writer) (G : W.Item → List ℕ → Type 0) (Q : W.Entry → Type 0) (d : W.Entry) (b z : List ℕ)
    (fine : (t : W.Entry) (l : List W.Entry) → G (W.part b t) (join_all W.put (parts W b l) z) → Q t → W.ok (length b) (length l) t ≡ true) where
  pub all_fine : (l : List W.Entry) → EachGood W.put G (parts W b l) z → ((i : ℕ) → i < length l → Q (get_or l i d)) → all_ok W (length b) l ≡ true
  all_fine [] g h = refl
  all_fine (t ∷ l) g h = rw (fine t l g.0 (h 0 (omega arith))) (all_fine l g.1 (λ i e. h (suc i) (omega arith)))

  pub table_fine : (table : List W.Entry) (n : ℕ) → EachGood W.put G (parts W b (take n table)) z → ((i : ℕ) → i < n → Q (get_or table i d))
      → all_ok W (length b) (take n table) ≡ true
  table_fine table n g h = all_fine (take n table) g (kept_each (λ i. Q) table n d h)
