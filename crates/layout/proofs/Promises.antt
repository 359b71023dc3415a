-- What a user of the crate relies on. Assumes nothing.
use mathlib.Core.Path.{◌≡◌, refl, ap}
use mathlib.Core.Bool.{Bool, true, false}
use mathlib.Core.List.{List, [], ◌∷◌, ◌++◌}
use Prim.Native.Nat.{ℕ, ◌+◌, ◌-◌, ◌≤◌, ◌<◌}
use native.Mathlib.Omega.{arith}
use borrow.Author.Tests.{leb-true, leb-false}
use lib.Dec.{leb}
use Rattle.wire.specs.Bytes.{pick}
use Rattle.wire.specs.Lacking.{total, FirstLacking}
use Rattle.wire.specs.Refusal.{cut_at}
use Rattle.wire.specs.declared.Refusal.{Refusal}
use Rattle.wire.proofs.Determined.{determined}
use Rattle.layout.specs.Layout.{cut_in}

-- A run of fields that does not lie whole in the input is cut at the first field that lacks bytes, with as many missing as it lacks.
pub first_lacking : (ws : List ℕ) (at n : ℕ) → at ≤ n → n < at + total ws → FirstLacking ws at n (cut_in ws at n)
first_lacking [] at n inside short = absurd (omega arith)
first_lacking (w ∷ ws) at n inside short = go (leb w (n - at)) refl (first_lacking ws (at + w) n)
  where
    go : (b : Bool) → leb w (n - at) ≡ b
        → (at + w ≤ n → n < at + w + total ws → FirstLacking ws (at + w) n (cut_in ws (at + w) n))
        → FirstLacking (w ∷ ws) at n (pick b (cut_in ws (at + w) n) (cut_at n at w))
    go true h rest =
        let l = leb-true w (n - at) h in
        let r = rest (omega arith) (omega arith) in
        record {
          before = w ∷ r.before;
          width = r.width;
          behind = r.behind;
          run_is = ap (λ (l : List ℕ). w ∷ l) {y = r.before ++ r.width ∷ r.behind} r.run_is;
          place_is = omega (arith, r.place_is);
          starts_inside = r.starts_inside;
          ends_outside = r.ends_outside;
          missing_is = r.missing_is;
        }
    go false h rest =
        let short-here = leb-false w (n - at) h in
        record {
          before = [];
          width = w;
          behind = ws;
          run_is = refl;
          place_is = omega arith;
          starts_inside = inside;
          ends_outside = omega arith;
          missing_is = omega arith;
        }

-- ---- any two answers that the contracts allow are equal
pub cut_in_determined : (ws : List ℕ) (at n : ℕ) (r q : Refusal) → r ≡ cut_in ws at n → q ≡ cut_in ws at n → r ≡ q
cut_in_determined ws at n r q = determined
