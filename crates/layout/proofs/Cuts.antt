-- Where a run of fields is cut. Assumes nothing.
use mathlib.Core.Path.{◌≡◌, refl, sym, ap, ◌∙◌, subst}
use mathlib.Core.Bool.{Bool, true, false}
use mathlib.Core.List.{List, [], ◌∷◌, ◌++◌}
use Prim.Native.Nat.{ℕ, ◌+◌, ◌-◌, ◌≤◌, ◌<◌}
use native.Mathlib.Omega.{arith}
use borrow.Author.Tests.{le-leb, leb-true}
use lib.Dec.{leb}
use Rattle.wire.specs.Number as Number
use Rattle.wire.specs.Bytes.{pick}
use Rattle.wire.specs.Lacking.{total}
use Rattle.wire.specs.Refusal.{cut_at}
use Rattle.wire.specs.Refuses.{OneOf}
use Rattle.layout.specs.Layout.{cut_in}

-- a run that does not lie whole in the input is Cut
pub cut_number : (ws : List ℕ) (at n : ℕ) → at ≤ n → n < at + total ws → (cut_in ws at n).number ≡ Number.Cut
cut_number [] at n inside short = absurd (omega arith)
cut_number (w ∷ ws) at n inside short = go (leb w (n - at)) refl (cut_number ws (at + w) n)
  where
    go : (b : Bool) → leb w (n - at) ≡ b → (at + w ≤ n → n < at + w + total ws → (cut_in ws (at + w) n).number ≡ Number.Cut)
        → (pick b (cut_in ws (at + w) n) (cut_at n at w)).number ≡ Number.Cut
    go true h i = let l = leb-true w (n - at) h in i (omega arith) (omega arith)
    go false h i = refl

-- so its number is one of some numbers where Cut is
pub cut_one_of : (l : List ℕ) → OneOf l Number.Cut → (ws : List ℕ) (at n : ℕ) → at ≤ n → n < at + total ws → OneOf l (cut_in ws at n).number
cut_one_of l cut ws at n inside short = subst (OneOf l) (sym (cut_number ws at n inside short)) cut

-- fields that are whole in front of the others, and fields behind the one that is cut, have no say
skip : (before ws : List ℕ) (at p n : ℕ) → at + total before ≡ p → p ≤ n → cut_in (before ++ ws) at n ≡ cut_in ws p n
skip [] ws at p n e inside = let same : at ≡ p = omega arith in ap (λ (k : ℕ). cut_in ws k n) same
skip (w ∷ before) ws at p n e inside = rw (le-leb w (n - at) (omega arith)) (skip before ws (at + w) p n (omega arith) inside)

front : (ws after : List ℕ) (at n : ℕ) → at ≤ n → n < at + total ws → cut_in (ws ++ after) at n ≡ cut_in ws at n
front [] after at n inside short = absurd (omega arith)
front (w ∷ ws) after at n inside short = go (leb w (n - at)) refl (front ws after (at + w) n)
  where
    go : (b : Bool) → leb w (n - at) ≡ b → (at + w ≤ n → n < at + w + total ws → cut_in (ws ++ after) (at + w) n ≡ cut_in ws (at + w) n)
        → pick b (cut_in (ws ++ after) (at + w) n) (cut_at n at w) ≡ pick b (cut_in ws (at + w) n) (cut_at n at w)
    go true h i = let l = leb-true w (n - at) h in i (omega arith) (omega arith)
    go false h i = refl

pub cut_among : (before ws after : List ℕ) (at n : ℕ) → total before ≡ at → at ≤ n → n < at + total ws → cut_in (before ++ (ws ++ after)) 0 n ≡ cut_in ws at n
cut_among before ws after at n e inside short = skip before (ws ++ after) 0 at n (omega arith) inside ∙ front ws after at n inside short
