-- How far a walk may go has no say in what it finds: a message has bytes, so as many steps as there are bytes are enough. Assumes nothing.
use mathlib.Core.Path.{◌≡◌, refl, sym, ap, ◌∙◌, subst}
use mathlib.Core.Bool.{Bool, true, false}
use mathlib.Core.List.{List, [], ◌∷◌}
use Prim.Native.Nat.{ℕ, zero, suc, ◌≤◌, ◌<◌}
use native.Mathlib.Omega.{arith}
use lib.Dec.{eqb}
use lib.ListN.{length, take, drop, length-drop}
use Rattle.std.specs.declared.result.Result.TheVariants.{Ok, Err}
use Rattle.wire.specs.Number as Number
use Rattle.wire.specs.Bytes.{pick}
use Rattle.wire.specs.View.{viewed}
use Rattle.wire.specs.Walk.{Step, stop, bad, item, tail, Walked, next, walk}
use Rattle.wire.proofs.Walk.{walk_stop}
use Rattle.splitter.specs.Read.{split_of}
use Rattle.splitter.specs.Stream.{Message, known, skipped, length_of, as_step}
use Rattle.splitter.proofs.Stream.{Stands, known_stands, skipped_stands}
use Rattle.receiver.specs.Receive.{room}
use Rattle.receiver.proofs.Judging.{waits_early}
use Rattle.session.specs.Session.{or_waits, step, kit, split}
use Rattle.session.proofs.Boundary.{step_waits}
use Rattle.splitter.specs.declared.Split.{Split}
use Rattle.splitter.specs.Shown.{SplitAnswer}

step_none : step [] ≡ stop
step_none = (step_waits [] (omega arith) (waits_early [] (omega arith) (omega arith) (λ one. absurd (omega (arith, one))))).0

takes : (s : List ℕ) (m : Message) → step s ≡ item m → 0 < length_of m
takes s m e = at (split_of (take room s)) refl e
  where
    w : List ℕ
    w = take room s

    is : (k : Message) → Stands w k → k ≡ m → 0 < length_of m
    is k x q = let low = x.fits.least in subst (λ (y : Message). 0 < length_of y) q (omega (arith, low))

    at : (a : SplitAnswer) → split_of w ≡ a → or_waits (as_step w a) ≡ item m → 0 < length_of m
    at (Ok (Split.Message header v)) a q = let z : known header (viewed w v) ≡ m = cc in is _ (known_stands w v header a) z
    at (Ok (Split.Skipped fields v)) a q = let z : skipped fields (viewed w v) ≡ m = cc in is _ (skipped_stands w v fields a) z
    at (Err r) a q = go (eqb r.number Number.Cut) q
      where
        go : (b : Bool) → pick b stop (bad r) ≡ item m → 0 < length_of m
        go true q = let z : ◌≡◌ {A = ℕ} 0 1 = cc in absurd (omega (arith, z))
        go false q = let z : ◌≡◌ {A = ℕ} 0 1 = cc in absurd (omega (arith, z))

-- two walks that may go as far as there are bytes, or further
abbrev Same : ℕ → Type 0
Same f = (g : ℕ) (s : List ℕ) → length s ≤ f → length s ≤ g → walk kit f s ≡ walk kit g s

-- the steps are the same, and what follows a message is
same_next : (f g : ℕ) → Same f → (s : List ℕ) → length s ≤ suc f → length s ≤ suc g → 0 < length s
    → next (step s) s (λ m. walk kit f (drop (length_of m) s)) ≡ next (step s) s (λ m. walk kit g (drop (length_of m) s))
same_next f g i s l k p = go (step s) refl
  where
    go : (q : Step Message) → step s ≡ q → next q s (λ m. walk kit f (drop (length_of m) s)) ≡ next q s (λ m. walk kit g (drop (length_of m) s))
    go stop e = refl
    go (bad r) e = refl
    go (item m) e =
        let some = takes s m e in
        let d = length-drop (length_of m) s in
        ap (λ (w : Walked Message). next (item m) s (λ _. w)) (i g (drop (length_of m) s) (omega (arith, d, some, l, p)) (omega (arith, d, some, k, p)))

none_walked : (f g : ℕ) → walk kit f [] ≡ walk kit g []
none_walked f g = walk_stop kit f [] step_none ∙ sym (walk_stop kit g [] step_none)

at_most_none : Same zero
at_most_none g [] l k = none_walked zero g
at_most_none g (x ∷ s) l k = absurd (omega (arith, l))

one_more : (f : ℕ) → Same f → Same (suc f)
unfolding walk
one_more f i g [] l k = none_walked (suc f) g
one_more f i zero (x ∷ s) l k = absurd (omega (arith, k))
one_more f i (suc g) (x ∷ s) l k = same_next f g i (x ∷ s) l k (omega arith)

same_walk : (f : ℕ) → Same f
same_walk zero = at_most_none
same_walk (suc f) = one_more f (same_walk f)

-- the walk is its step, and then the walk over what is behind the message
pub split_step : (s : List ℕ) → split s ≡ next (step s) s (λ m. split (drop (length_of m) s))
unfolding walk
split_step [] = sym (rw step_none)
split_step (x ∷ s) = go (step (x ∷ s)) refl
  where
    go : (q : Step Message) → step (x ∷ s) ≡ q → next q (x ∷ s) (λ m. walk kit (length s) (drop (length_of m) (x ∷ s))) ≡ next q (x ∷ s) (λ m. split (drop (length_of m) (x ∷ s)))
    go stop e = refl
    go (bad r) e = refl
    go (item m) e =
        let some = takes (x ∷ s) m e in
        let d = length-drop (length_of m) (x ∷ s) in
        ap (λ (w : Walked Message). next (item m) (x ∷ s) (λ _. w)) (same_walk (length s) (length (drop (length_of m) (x ∷ s))) (drop (length_of m) (x ∷ s)) (omega (arith, d, some)) (omega arith))

-- ---- and where it ends with bytes that are left, the splitter is Cut there
abbrev Tails : ℕ → Type 0
Tails f = (s z : List ℕ) → length s ≤ f → (walk kit f s).end ≡ tail z → step z ≡ stop

no_step : Tails zero
unfolding walk
no_step [] z l e = let q : [] ≡ z = cc in subst (λ (y : List ℕ). step y ≡ stop) q step_none
no_step (x ∷ s) z l e = absurd (omega (arith, l))

one_step : (f : ℕ) → Tails f → Tails (suc f)
unfolding walk
one_step f i s z l e = go (step s) refl e
  where
    go : (q : Step Message) → step s ≡ q → (next q s (λ m. walk kit f (drop (length_of m) s))).end ≡ tail z → step z ≡ stop
    go stop h e = let q : s ≡ z = cc in subst (λ (y : List ℕ). step y ≡ stop) q h
    go (bad r) h e = let q : ◌≡◌ {A = ℕ} 0 1 = cc in absurd (omega (arith, q))
    go (item m) h e =
        let some = takes s m h in
        let d = length-drop (length_of m) s in
        i (drop (length_of m) s) z (omega (arith, d, some, l)) e

tails : (f : ℕ) → Tails f
tails zero = no_step
tails (suc f) = one_step f (tails f)

pub split_waits : (s z : List ℕ) → (split s).end ≡ tail z → step z ≡ stop
split_waits s z e = tails (length s) s z (omega arith) e
