-- What one who waits for the missing bytes gets of a run of fields, and of what is judged behind it. Assumes nothing.
use mathlib.Core.Path.{◌≡◌, refl, sym, ◌∙◌}
use mathlib.Core.Bool.{Bool, true, false}
use mathlib.Core.List.{List, [], ◌∷◌}
use Prim.Native.Nat.{ℕ, ◌+◌, ◌-◌, ◌≤◌}
use native.Mathlib.Omega.{arith}
use borrow.Author.Tests.{leb-true, leb-false, lt-ltb, le-ltb}
use lib.Dec.{leb, ltb}
use lib.ListN.{length}
use Rattle.wire.specs.Bytes.{pick}
use Rattle.wire.specs.Refusal.{cut_at}
use Rattle.wire.specs.Lacking.{total}
use Rattle.wire.specs.declared.Refusal.{Refusal}
use Rattle.wire.proofs.Waits.{Judge, need, ask}
use Rattle.layout.specs.Layout.{cut_in}

-- a run that starts one field further on has the same end
pub further : (at w rest end : ℕ) → at + (w + rest) ≡ end → at + w + rest ≡ end
further at w rest end e = omega arith

-- a reader that needs fields of these widths from a place on, and goes on behind them, at their end
unfoldable pub fields : {Again : List ℕ → ℕ → ℕ → Type 0} {known : ℕ} (ws : List ℕ) (at end : ℕ) → at + total ws ≡ end → Judge Again end end → Judge Again at known
fields {Again = Again} {known = known} [] at end e x =
    record {
      judge = x.judge;
      waited = λ s t h k. x.waited s t (omega arith) (omega arith);
      not_before = λ s h k c. let b = x.not_before s (omega arith) (omega arith) c in omega (arith, b);
      tells = λ s h k. x.tells s (omega arith) (omega arith);
    }
fields {Again = Again} {known = known} (w ∷ ws) at end e x = ask w (fields {Again = Again} {known = at + w} ws (at + w) end (further at w (total ws) end e) x)

-- in one test of the whole length, as readers ask it: the run is cut, or it goes on
module _ (n end : ℕ) (r : Refusal) where
  run_step : (w : ℕ) (ws : List ℕ) (at : ℕ) → at ≤ n → at + (w + total ws) ≡ end
      → pick (ltb n end) (cut_in (w ∷ ws) at n) r ≡ pick (leb w (n - at)) (pick (ltb n end) (cut_in ws (at + w) n) r) (cut_at n at w)
  run_step w ws at inside e = go (leb w (n - at)) refl
    where
      go : (b : Bool) → leb w (n - at) ≡ b
          → pick (ltb n end) (pick b (cut_in ws (at + w) n) (cut_at n at w)) r ≡ pick b (pick (ltb n end) (cut_in ws (at + w) n) r) (cut_at n at w)
      go true h = refl
      go false h = let few = leb-false w (n - at) h in rw (lt-ltb n end (omega arith))

pub fields_judge : {Again : List ℕ → ℕ → ℕ → Type 0} (known : ℕ) (ws : List ℕ) (at end : ℕ) (e : at + total ws ≡ end) (x : Judge Again end end) (s : List ℕ)
    → at ≤ length s → (fields {known = known} ws at end e x).judge s ≡ pick (ltb (length s) end) (cut_in ws at (length s)) (x.judge s)
unfolding fields ask need
fields_judge known [] at end e x s inside = sym (rw (le-ltb (length s) end (omega arith)))
fields_judge known (w ∷ ws) at end e x s inside =
    go (leb w (length s - at)) refl (fields_judge (at + w) ws (at + w) end (further at w (total ws) end e) x s)
    ∙ sym (run_step (length s) end (x.judge s) w ws at inside e)
  where
    rest : Refusal
    rest = (fields {known = at + w} ws (at + w) end (further at w (total ws) end e) x).judge s

    behind : Refusal
    behind = pick (ltb (length s) end) (cut_in ws (at + w) (length s)) (x.judge s)

    go : (b : Bool) → leb w (length s - at) ≡ b → (at + w ≤ length s → rest ≡ behind)
        → pick b rest (cut_at (length s) at w) ≡ pick b behind (cut_at (length s) at w)
    go true h i = let l = leb-true w (length s - at) h in i (omega arith)
    go false h i = refl
