-- What the reader refuses, and with which numbers. Assumes nothing.
use mathlib.Core.Path.{refl}
use mathlib.Core.List.{List, [], ◌∷◌}
use Prim.Native.Nat.{ℕ, ◌-◌}
use lib.Dec.{ltb}
use lib.ListN.{length, replicate}
use Rattle.wire.specs.Number as Number
use Rattle.wire.specs.Bytes.{value, has, num_at, none}
use Rattle.wire.specs.Walk.{walk, fill}
use Rattle.wire.specs.Refuses.{OneOf, Refuses}
use Rattle.wire.proofs.Walk.{BadIn, faults_in}
use Rattle.wire.proofs.Refuses.{pick_in, Answered, is_empty, one_of, GivesEach, gives_too_long, walk_answered, refuses_from, bytes_are}
use Rattle.stats_data.specs.Read.{value_of}
use Rattle.stats_report.specs.Read.{step, kit, answer, read_stats, numbers, reader}

faults : (s : List ℕ) → BadIn (OneOf numbers) (step s)
unfolding step
faults s =
    let P = BadIn (OneOf numbers) in
    let cut = one_of numbers Number.Cut refl in
    pick_in P (ltb (length s) 2) cut (pick_in P (ltb (length s) 4) cut (pick_in P (ltb (length s - 4) (num_at 2 s 2)) cut tt))

answered : (s : List ℕ) → Answered reader (read_stats s)
answered s =
    let P = Answered reader in
    pick_in P (ltb Number.limit (length s)) (is_empty refl (one_of numbers Number.TooLong refl))
    (pick_in P (has 4 s 0)
    (walk_answered reader kit (answer (num_at 4 s 0)) (faults_in kit (OneOf numbers) faults) (one_of numbers Number.TooMany refl) (λ n at table z. refl)
    (λ r. refl) (λ r. refl) (num_at 4 s 0) 4 s)
    (is_empty refl (one_of numbers Number.Cut refl)))

-- none, and 65 records of length 0
given : GivesEach reader numbers
unfolding value walk fill step value_of
given = (gives_too_long reader _ _ (λ s. refl) refl, (([], none, refl), ((0 ∷ 0 ∷ 0 ∷ 65 ∷ replicate 260 0, bytes_are _ refl, refl), tt)))

pub refuses : Refuses reader
refuses = refuses_from reader answered given
