-- The laws of writing a table, proved once for every kind: the entry at i, and the bytes of writable entries. Assumes nothing.
use mathlib.Core.Path.{◌≡◌, refl, sym, ap, ◌∙◌, subst}
use mathlib.Core.List.{List, [], ◌∷◌}
use mathlib.Core.Bool.{true, false}
use Prim.Native.Nat.{ℕ, suc, ◌≤◌, ◌<◌}
use native.Mathlib.Omega.{arith}
use borrow.Author.Tests.{ltb-false}
use lib.Dec.{ltb}
use lib.ListN.{length, take, get_or, length-append, length-take}
use lib.Seq.{get_or-take}
use Rattle.wire.specs.Bytes.{pick, Bytes, none}
use Rattle.wire.specs.Parts.{EachGood}
use Rattle.wire.proofs.Bytes.{bytes_append}
use Rattle.writing.specs.Table.{Writer, parts, joined, all_ok, sizes, Bodied}
use Rattle.writing.proofs.Tests.{both, past}

-- an index into the first n is one into the table
pub kept_below : {A : Type 0} (table : List A) (n i : ℕ) → i < length (take n table) → i < n
kept_below table n i h = omega (arith, h, length-take n table)

pub kept_at : {A : Type 0} (table : List A) (n i : ℕ) (d : A) → i < length (take n table) → get_or (take n table) i d ≡ get_or table i d
kept_at table n i d h = get_or-take n table i d (kept_below table n i h)

-- what holds of each of the first n entries of the table
pub kept_each : {A : Type 0} (P : ℕ → A → Type 0) (table : List A) (n : ℕ) (d : A) → ((i : ℕ) → i < n → P i (get_or table i d))
    → (i : ℕ) → i < length (take n table) → P i (get_or (take n table) i d)
kept_each P table n d each i h = subst (P i) (sym (kept_at table n i d h)) (each i (kept_below table n i h))

module _ (W : Writer) where
  pub ok_head : (buffer_length : ℕ) (t : W.Entry) (l : List W.Entry) → all_ok W buffer_length (t ∷ l) ≡ true → (W.ok buffer_length (length l) t ≡ true) × (all_ok W buffer_length l ≡ true)
  ok_head buffer_length t l e = both (W.ok buffer_length (length l) t) (all_ok W buffer_length l) e

  -- ---- the bytes of entries
  module _ {one : List ℕ → W.Entry → List ℕ} (B : Bodied W one) where
    pub length_joined : (b : List ℕ) (l : List W.Entry) → all_ok W (length b) l ≡ true → length (joined W b l) ≡ sizes W l
    length_joined b [] e = refl
    length_joined b (t ∷ l) e =
        let f = ok_head (length b) t l e in
        ap length (B.put_is b t (joined W b l)) ∙ length-append (one b t) (joined W b l)
        ∙ rw (B.length_is b (length l) t f.0, length_joined b l f.1)

    pub bytes_joined : (b : List ℕ) → ((t : W.Entry) → Bytes (one b t)) → (l : List W.Entry) → Bytes (joined W b l)
    bytes_joined b p [] = none
    bytes_joined b p (t ∷ l) = subst Bytes (sym (B.put_is b t (joined W b l))) (bytes_append (p t) (bytes_joined b p l))

  -- ---- the reading of writable entries is good, where each entry's item is
  pub all_good : (G : W.Item → List ℕ → Type 0) (b : List ℕ)
      → ((t : W.Entry) (l : List W.Entry) → W.ok (length b) (length l) t ≡ true → all_ok W (length b) l ≡ true → G (W.part b t) (joined W b l))
      → (l : List W.Entry) → all_ok W (length b) l ≡ true → EachGood W.put G (parts W b l) []
  all_good G b h [] e = tt
  all_good G b h (t ∷ l) e = let f = ok_head (length b) t l e in (h t l f.0 f.1, all_good G b h l f.1)

  pub length_parts : (b : List ℕ) (l : List W.Entry) → length (parts W b l) ≡ length l
  length_parts b [] = refl
  length_parts b (t ∷ l) = ap suc (length_parts b l)

  -- ---- what a writer asks of the first n entries of its table, which has room for so many
  pub record Kept (places n : ℕ) (table : List W.Entry) (buffer_length : ℕ) : Type 0 where
    pub few : n ≤ places
    pub fine : all_ok W buffer_length (take n table) ≡ true

  pub kept_of : (places n : ℕ) (table : List W.Entry) (buffer_length : ℕ) → pick (ltb places n) false (all_ok W buffer_length (take n table)) ≡ true
      → Kept places n table buffer_length
  kept_of places n table buffer_length e =
      let c = past (ltb places n) (all_ok W buffer_length (take n table)) e in
      record { few = ltb-false places n c.0; fine = c.1 }

  pub length_sizes : ((t : W.Entry) → 0 < W.size t) → (l : List W.Entry) → length l ≤ sizes W l
  length_sizes some [] = omega arith
  length_sizes some (t ∷ l) = let h = length_sizes some l in omega (arith, some t)
