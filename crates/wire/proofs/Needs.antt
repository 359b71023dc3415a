-- What an answer of `need_at` tells: that the bytes are there, or that they are not and how the Cut says so. Assumes nothing.
use mathlib.Core.Path.{◌≡◌, refl, sym, ◌∙◌}
use mathlib.Core.Bool.{Bool, true, false}
use mathlib.Core.List.{List}
use Prim.Native.Nat.{ℕ, ◌+◌, ◌-◌, ◌≤◌, ◌<◌}
use native.Mathlib.Omega.{arith}
use borrow.Author.Tests.{leb-true, leb-false, le-leb, lt-leb}
use lib.Dec.{leb}
use lib.ListN.{length, drop, length-drop}
use Rattle.wire.specs.Bytes.{pick}
use Rattle.wire.specs.Refusal.{lacking, cut_at, need_at}
use Rattle.wire.specs.Walk.{from}
use Rattle.wire.specs.declared.Refusal.{Refusal}
use Rattle.std.specs.declared.result.Result.{Result}
use Rattle.std.specs.declared.result.Result.TheVariants.{Ok, Err}

module _ (n at w : ℕ) where
  pub is_met : w ≤ n - at → Ok tt ≡ need_at n at w
  is_met h = sym (rw (le-leb w (n - at) h))

  pub is_cut : {r : Refusal} → n - at < w → r ≡ cut_at n at w → Err r ≡ need_at n at w
  is_cut h e = (λ i. Err (e i)) ∙ sym (rw (lt-leb w (n - at) h))

  pub was_met : {x : Result (Unit {0}) Refusal} → x ≡ Ok tt → x ≡ need_at n at w → w ≤ n - at
  was_met {x} e f = go (leb w (n - at)) refl (sym e ∙ f)
    where
      go : (b : Bool) → leb w (n - at) ≡ b → ◌≡◌ {A = Result (Unit {0}) Refusal} (Ok tt) (pick b (Ok tt) (Err (cut_at n at w))) → w ≤ n - at
      go true h q = leb-true w (n - at) h
      go false h q = let z : ◌≡◌ {A = ℕ} 0 1 = cc in absurd (omega arith)

  -- a need that is not met lacks bytes, and its Cut is at its place and says how many
  pub record Lacked (r : Refusal) : Type 0 where
    pub few : n - at < w
    pub cut_is : r ≡ cut_at n at w

  pub was_cut : {x : Result (Unit {0}) Refusal} {r : Refusal} → x ≡ Err r → x ≡ need_at n at w → Lacked r
  was_cut {x} {r} e f = go (leb w (n - at)) refl (sym e ∙ f)
    where
      go : (b : Bool) → leb w (n - at) ≡ b → ◌≡◌ {A = Result (Unit {0}) Refusal} (Err r) (pick b (Ok tt) (Err (cut_at n at w))) → Lacked r
      go true h q = let z : ◌≡◌ {A = ℕ} 0 1 = cc in absurd (omega arith)
      go false h q = record { few = leb-false w (n - at) h; cut_is = cc }

-- a Cut of the bytes from a place on, seen from their start
pub cut_from : (s : List ℕ) (at p place w : ℕ) → place ≡ at + p → from at (cut_at (length (drop at s)) p w) ≡ cut_at (length s) place w
cut_from s at p place w e =
    let missing_is : w - (length (drop at s) - p) ≡ w - (length s - place) = rw (length-drop at s) (omega arith) in
    λ i. lacking (sym e i) (missing_is i)
