-- Texts put one after the other. Assumes nothing.
use mathlib.Core.Path.{◌≡◌, sym, ap₂, ◌∙◌, subst}
use mathlib.Core.List.{List, [], ◌∷◌, ◌++◌, append_assoc}
use Prim.Native.Nat.{ℕ, ◌+◌}
use native.Mathlib.Omega.{arith}
use lib.ListN.{length, length-append}
use lib.Seq.{sets}
use Rattle.writing.specs.Write.{put_at}
use Rattle.writing.proofs.Sets.{sets_append, put_fits}
use Rattle.listing.specs.Steps.{Puts}

-- a text was put at a place of l, which left p, and k is the place after it
abbrev pub Ends : List ℕ → ℕ → List ℕ → List ℕ → ℕ → Type 0
Ends l at t p k = (k ≡ at + length t) × Puts l at t p

pub put_ends : (l p t : List ℕ) (at k : ℕ) → k ≡ at + length t → p ≡ put_at l at t → Ends l at t p k
put_ends l p t at k f e = (f, λ h. e ∙ put_fits l at t (omega (arith, h)))

pub then : (l p q a b : List ℕ) (at k j : ℕ) → length p ≡ length l → Ends l at a p k → Ends p k b q j → Ends l at (a ++ b) q j
then l p q a b at k j long x y =
    let n = length-append a b in (
      omega (arith, x.0, y.0, n),
      λ h. y.1 (omega (arith, x.0, long, n, h)) ∙ ap₂ (λ (o : List ℕ) (i : ℕ). sets o i b) (x.1 (omega (arith, n, h))) x.0 ∙ sym (sets_append a b l at),
    )

-- a field with the byte that ends it, and what follows
pub field_then : (l p q d : List ℕ) (x : ℕ) (b : List ℕ) (at k j : ℕ) → length p ≡ length l
    → Ends l at (d ++ (x ∷ [])) p k → Ends p k b q j → Ends l at (d ++ (x ∷ b)) q j
field_then l p q d x b at k j long e f =
    subst (λ (t : List ℕ). Ends l at t q j) (append_assoc d (x ∷ []) b) (then l p q (d ++ (x ∷ [])) b at k j long e f)
