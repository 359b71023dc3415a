-- Laws of `first`: what it finds, and that it is the place that a search by position finds. Assumes nothing.
use mathlib.Core.Path.{◌≡◌, refl}
use Prim.Native.Nat.{ℕ, zero, suc, ◌≤◌, ◌<◌}
use mathlib.Core.Bool.{Bool, true, false}
use mathlib.Core.List.{List, [], ◌∷◌}
use native.Mathlib.Omega.{arith}
use lib.ListN.{length, get_or, set}
use Rattle.std.specs.List.{position, position_or_len}
use Rattle.board.specs.First.{first}
use Rattle.board.specs.Board.{place_at}

-- by what a test answers
pub by_test : (t : Bool) {P : Type 0} → (t ≡ true → P) → (t ≡ false → P) → P
by_test true f g = f refl
by_test false f g = g refl

first_place : {A : Type 0} (passes : A → Bool) (l : List A) → position_or_len passes l ≡ first passes l
unfolding first
first_place passes [] = refl
first_place passes (x ∷ l) =
    let rest = first_place passes l in
    by_test (passes x) (λ e. rw e) (λ e. rw e (omega arith))

-- in a list of as many places as a board has
pub first_position : {A : Type 0} (passes : A → Bool) (l : List A) → length l ≡ 64 → position passes l ≡ place_at (first passes l)
first_position passes l long = rw (long, first_place passes l)

-- what is found passes the test
pub found_passes : {A : Type 0} (passes : A → Bool) (l : List A) (d : A) → first passes l < length l → passes (get_or l (first passes l) d) ≡ true
unfolding first
found_passes passes [] d h = absurd (let z : ⊥ = omega arith in z)
found_passes passes (x ∷ l) d h = by_test (passes x) (λ e. rw e e) (λ e. rw e (found_passes passes l d (let z = rw e at h in omega arith)))

-- an element that passes is found there or before
pub set_found : {A : Type 0} (passes : A → Bool) (l : List A) (i : ℕ) (x : A) → i < length l → passes x ≡ true → first passes (set l i x) ≤ i
unfolding first
set_found passes [] i x h e = absurd (let z : ⊥ = omega arith in z)
set_found passes (y ∷ l) zero x h e = rw e (omega arith)
set_found passes (y ∷ l) (suc i) x h e =
    let rest = set_found passes l i x (omega arith) e in
    by_test (passes y) (λ t. rw t (omega arith)) (λ t. rw t (omega arith))
