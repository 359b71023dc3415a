-- What the reader refuses, and with which numbers. Assumes nothing.
use mathlib.Core.Path.{refl}
use mathlib.Core.List.{List, [], ◌∷◌}
use Prim.Native.Nat.{ℕ, zero, suc, ◌-◌}
use lib.Dec.{leb, ltb, eqb}
use lib.ListN.{length}
use Rattle.wire.specs.Number as Number
use Rattle.wire.specs.Bytes.{value, num_at}
use Rattle.wire.specs.Walk.{walk, fill}
use Rattle.wire.specs.Refuses.{OneOf, Refuses}
use Rattle.wire.proofs.Walk.{BadIn, faults_in}
use Rattle.wire.proofs.Refuses.{pick_in, Answered, is_empty, one_of, GivesEach, gives_too_long, walk_answered, refuses_from, bytes_are}
use Rattle.route_mirroring.specs.Read.{message_step, information_step, step, kit, answer, read_mirroring, numbers, reader}

faults : (s : List ℕ) → BadIn (OneOf numbers) (step s)
unfolding step message_step information_step
faults s =
    let P = BadIn (OneOf numbers) in
    let cut = one_of numbers Number.Cut refl in
    pick_in P (leb (length s) 4) tt
    (pick_in P (ltb 1 (num_at 2 s 0)) (one_of numbers Number.BadTlvType refl)
    (pick_in P (eqb (num_at 2 s 0) 0)
    (pick_in P (ltb (num_at 2 s 2) 19) (one_of numbers Number.BgpLength refl) (pick_in P (ltb (length s - 4) (num_at 2 s 2)) cut tt))
    (pick_in P (ltb (length s - 4) 2) cut (pick_in P (ltb 1 (num_at 2 s 4)) (one_of numbers Number.UnknownKind refl) tt))))

answered : (s : List ℕ) → Answered reader (read_mirroring s)
answered s =
    pick_in (Answered reader) (ltb Number.limit (length s)) (is_empty refl (one_of numbers Number.TooLong refl))
    (walk_answered reader kit answer (faults_in kit (OneOf numbers) faults) (one_of numbers Number.TooMany refl) (λ n at table z. refl) (λ r. refl)
    (λ r. refl) (length s) 0 s)

-- so many times information
informations : ℕ → List ℕ
informations zero = []
informations (suc n) = 0 ∷ 1 ∷ 0 ∷ 2 ∷ 0 ∷ 0 ∷ informations n

-- information of one byte, code 2, type 2, a message of length 0, and 33 times information
given : GivesEach reader numbers
unfolding value walk fill step message_step information_step informations
given = (
  gives_too_long reader _ _ (λ s. refl) refl,
  (
    (0 ∷ 1 ∷ 0 ∷ 2 ∷ 0 ∷ [], bytes_are _ refl, refl),
    (
      (0 ∷ 1 ∷ 0 ∷ 2 ∷ 0 ∷ 2 ∷ [], bytes_are _ refl, refl),
      (
        (0 ∷ 2 ∷ 0 ∷ 2 ∷ 0 ∷ [], bytes_are _ refl, refl),
        (
          (0 ∷ 0 ∷ 0 ∷ 0 ∷ 0 ∷ [], bytes_are _ refl, refl),
          ((informations 33, bytes_are _ refl, refl), tt),
        ),
      ),
    ),
  ),
)

pub refuses : Refuses reader
refuses = refuses_from reader answered given
