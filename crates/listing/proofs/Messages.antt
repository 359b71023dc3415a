-- Which messages a walk finds, and where it ends. Assumes nothing.
use mathlib.Core.Path.{◌≡◌, refl, sym, ap₂, ◌∙◌, subst}
use mathlib.Core.List.{List, [], ◌∷◌, ◌++◌}
use Prim.Native.Nat.{ℕ, zero, suc, ◌+◌, ◌-◌, ◌≤◌}
use native.Mathlib.Omega.{arith}
use lib.ListN.{length, drop, length-drop, take-append-drop}
use lib.Seq.{drop-drop}
use Rattle.std.specs.declared.result.Result.TheVariants.{Err}
use Rattle.wire.specs.Parts.{end_from, AllAt}
use Rattle.wire.specs.Walk.{Step, End, tail, fault, Walked, walk, next}
use Rattle.splitter.specs.Read.{split_of}
use Rattle.splitter.specs.Stream.{Message, length_of, joined}
use Rattle.splitter.proofs.Stream.{Stands}
use Rattle.listing.specs.Listing.{kit}
use Rattle.listing.proofs.Rows.{Seen, none, refused, message, see}

-- no byte is left at a place, or the splitter refuses what stands there
abbrev pub Stops : List ℕ → ℕ → End → Type 0
Stops s at (tail z) = at ≡ length s
Stops s at (fault r) = split_of (drop at s) ≡ Err r

abbrev pub end_of : ℕ → List Message → ℕ
end_of at l = end_from length_of at l

abbrev pub Each : (ℕ → Message → Type 0) → ℕ → List Message → Type 0
Each P at l = AllAt length_of P at l

pub record Walks (s : List ℕ) (at : ℕ) (w : Walked Message) : Type 0 where
  pub each : Each (λ k m. Stands (drop k s) m) at w.items
  pub all_joined : joined w.items (drop (end_of at w.items) s) ≡ drop at s
  pub stops : Stops s (end_of at w.items) w.end

pub walks : (f at : ℕ) (s : List ℕ) → length s - at ≤ f → at ≤ length s → Walks s at (walk kit f (drop at s))
unfolding walk
walks zero at s few h = record { each = tt; all_joined = refl; stops = omega (arith, few, h) }
walks (suc f) at s few h = go (see (drop at s)) (λ n. walks f (at + n) s)
  where
    go : {x : Step Message} → Seen (drop at s) x
        → ((n : ℕ) → length s - (at + n) ≤ f → at + n ≤ length s → Walks s (at + n) (walk kit f (drop (at + n) s)))
        → Walks s at (next x (drop at s) (λ m. walk kit f (drop (length_of m) (drop at s))))
    go (none e) i = record { each = tt; all_joined = refl; stops = omega (arith, e, length-drop at s, h) }
    go (refused r e) i = record { each = tt; all_joined = refl; stops = e }
    go (message m o) i =
        let n = length_of m in
        let d = length-drop at s in
        let j = i n (omega (arith, few, o.fits.least)) (omega (arith, o.fits.all_there, d, h)) in
        let w = subst (λ (y : List ℕ). Walks s (at + n) (walk kit f y)) (sym (drop-drop n at s)) j in
        record {
          each = (o, w.each);
          all_joined = ap₂ (λ (a b : List ℕ). a ++ b) o.bytes_are (w.all_joined ∙ sym (drop-drop n at s)) ∙ take-append-drop n (drop at s);
          stops = w.stops;
        }

-- what follows for each message from where it stands
pub each_so : (P Q : ℕ → Message → Type 0) → ((at : ℕ) (m : Message) → P at m → Q at m) → (at : ℕ) (l : List Message) → Each P at l → Each Q at l
each_so P Q h at [] p = tt
each_so P Q h at (m ∷ l) p = (h at m p.0, each_so P Q h (at + length_of m) l p.1)
