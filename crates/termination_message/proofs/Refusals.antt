-- What the reader refuses, and with which numbers. Assumes nothing.
use mathlib.Core.Path.{refl}
use mathlib.Core.List.{List, [], ◌∷◌}
use Prim.Native.Nat.{ℕ, ◌-◌}
use lib.Dec.{leb, ltb, eqb}
use lib.ListN.{length, replicate}
use Rattle.wire.specs.Number as Number
use Rattle.wire.specs.Bytes.{value, num_at}
use Rattle.wire.specs.Walk.{walk, fill}
use Rattle.wire.specs.Refuses.{OneOf, Refuses}
use Rattle.wire.proofs.Walk.{BadIn, faults_in}
use Rattle.wire.proofs.Refuses.{pick_in, Answered, is_empty, one_of, GivesEach, gives_too_long, walk_answered, refuses_from, bytes_are}
use Rattle.termination_message.specs.Read.{step, kit, answer, read_termination, numbers, reader}

faults : (s : List ℕ) → BadIn (OneOf numbers) (step s)
unfolding step
faults s =
    let P = BadIn (OneOf numbers) in
    let unknown = one_of numbers Number.UnknownKind refl in
    pick_in P (leb (length s) 4) tt
    (pick_in P (ltb 1 (num_at 2 s 0)) unknown
    (pick_in P (ltb (length s - 4) (num_at 2 s 2)) tt
    (pick_in P (eqb (num_at 2 s 0) 0) tt
    (pick_in P (ltb (length s - 4) 2) (one_of numbers Number.Cut refl)
    (pick_in P (ltb 4 (num_at 2 s 4)) unknown tt)))))

answered : (s : List ℕ) → Answered reader (read_termination s)
answered s =
    pick_in (Answered reader) (ltb Number.limit (length s)) (is_empty refl (one_of numbers Number.TooLong refl))
    (walk_answered reader kit answer (faults_in kit (OneOf numbers) faults) (one_of numbers Number.TooMany refl) (λ n at table z. refl) (λ r. refl)
    (λ r. refl) (length s) 0 s)

-- a Reason of one byte, type 2, and 33 Strings of length 0 with one byte behind them
given : GivesEach reader numbers
unfolding value walk fill step
given = (
  gives_too_long reader _ _ (λ s. refl) refl,
  ((0 ∷ 1 ∷ 0 ∷ 0 ∷ 0 ∷ [], bytes_are _ refl, refl), ((0 ∷ 2 ∷ 0 ∷ 0 ∷ 0 ∷ [], bytes_are _ refl, refl), ((replicate 133 0, bytes_are _ refl, refl), tt))),
)

pub refuses : Refuses reader
refuses = refuses_from reader answered given
