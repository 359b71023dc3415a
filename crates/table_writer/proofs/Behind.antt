-- What a writer's contract takes from its table: the table is all that it writes, or what stands in front is put once the table is. Assumes nothing.
use mathlib.Core.Path.{◌≡◌, refl, sym, ap, ap₂, ◌∙◌, subst}
use mathlib.Core.Bool.{Bool, true, false}
use mathlib.Core.List.{List, [], ◌∷◌, ◌++◌}
use Prim.Native.Nat.{ℕ, suc, ◌+◌, ◌≤◌, ◌<◌}
use native.Mathlib.Omega.{arith}
use native.Mathlib.Nat.{add-zero, zero-add}
use borrow.Author.Tests.{le-ltb}
use lib.Dec.{ltb}
use lib.ListN.{length, take, set, length-append}
use lib.Seq.{sets, length-sets, set_comm}
use Rattle.wire.specs.Bytes.{pick}
use Rattle.wire.specs.declared.Refusal.{Refusal}
use Rattle.std.specs.declared.result.Result.TheVariants.{Ok, Err}
use Rattle.writing.specs.Write.{WriteAnswer, Wrote}
use Rattle.writing.specs.Table.{Writer, joined, all_ok, sizes, Bodied}
use Rattle.writing.proofs.Answers.{writes, left_alone, put_there}
use Rattle.writing.proofs.Table.{length_joined}
use Rattle.table_writer.specs.Writer.{table_answer, after_from, table_written}

-- ---- what stands further on can be put first
set_first : (b l : List ℕ) (i j x : ℕ) → i < j → set (sets l j b) i x ≡ sets (set l i x) j b
set_first [] l i j x h = refl
set_first (y ∷ b) l i j x h =
    set_first b (set l j y) i (suc j) x (omega arith)
    ∙ ap (λ (o : List ℕ). sets o (suc j) b) (set_comm l j i y x (λ e. absurd (omega (arith, e))))

sets_first : (a b l : List ℕ) (i : ℕ) → sets (sets l (i + length a) b) i a ≡ sets l i (a ++ b)
sets_first [] b l i = ap (λ (k : ℕ). sets l k b) (add-zero i)
sets_first (x ∷ a) b l i =
    let k : i + suc (length a) ≡ suc i + length a = omega arith in
    ap (λ (o : List ℕ). sets o (suc i) a) (set_first b l i (i + suc (length a)) x (omega arith))
    ∙ ap (λ (j : ℕ). sets (sets (set l i x) j b) (suc i) a) k ∙ sets_first a b (set l i x) (suc i)

-- ---- a table behind the bytes f
module _ {W : Writer} {one : List ℕ → W.Entry → List ℕ} (B : Bodied W one) (f : List ℕ) (front : ℕ) (l : List W.Entry) (b out o : List ℕ) (a : WriteAnswer)
    (front_is : length f ≡ front) (asked : a ≡ table_answer W front l b out) (left : o ≡ table_written W front l b out) where
  abbrev ok : Bool
  ok = all_ok W (length b) l

  abbrev whole : List ℕ
  whole = f ++ joined W b l

  long : ok ≡ true → length whole ≡ front + sizes W l
  long e = length-append f (joined W b l) ∙ ap₂ ◌+◌ front_is (length_joined W B b l e)

  left_by : {x : WriteAnswer} → a ≡ x → o ≡ after_from x front (joined W b l) out
  left_by e = left ∙ ap (λ (x : WriteAnswer). after_from x front (joined W b l) out) (sym asked ∙ e)

  pub refused_behind : {r : Refusal} → a ≡ Err r → Wrote ok whole out a o
  refused_behind {r} e = subst (Wrote ok whole out a) (sym (left_by e)) (left_alone ok whole out _ long a asked r e)

  pub front_fits : {n : ℕ} → a ≡ Ok n → front ≤ length o
  front_fits {n} e =
      let same : length o ≡ length out = ap length (left_by e) ∙ length-sets out front (joined W b l) in
      omega (arith, (writes ok (front + sizes W l) (length out) n (sym e ∙ asked)).fits)

  pub put_before : {n : ℕ} → a ≡ Ok n → {o' : List ℕ} → o' ≡ sets o 0 f → Wrote ok whole out a o'
  put_before {n} e {o'} p =
      let at : front ≡ 0 + length f = sym (zero-add (length f) ∙ front_is) in
      let placed : o ≡ sets out (0 + length f) (joined W b l) = left_by e ∙ ap (λ (k : ℕ). sets out k (joined W b l)) at in
      put_there ok whole out _ long a asked n e o' (p ∙ ap (λ (x : List ℕ). sets x 0 f) placed ∙ sets_first f (joined W b l) out 0)

-- ---- a table of which the first n entries are kept, with nothing in front
pub whole_table : {W : Writer} {one : List ℕ → W.Entry → List ℕ} → Bodied W one → (places n : ℕ) (table : List W.Entry) (b out o : List ℕ) (a : WriteAnswer)
    → n ≤ places → a ≡ table_answer W 0 (take n table) b out → o ≡ table_written W 0 (take n table) b out
    → Wrote (pick (ltb places n) false (all_ok W (length b) (take n table))) (joined W b (take n table)) out a o
whole_table {W} B places n table b out o a h asked left = rw (le-ltb places n h) (go a refl)
  where
    go : (x : WriteAnswer) → a ≡ x → Wrote (all_ok W (length b) (take n table)) (joined W b (take n table)) out a o
    go (Ok k) e = put_before B [] 0 (take n table) b out o a refl asked left e refl
    go (Err r) e = refused_behind B [] 0 (take n table) b out o a refl asked left e
