-- What the reader refuses, and with which numbers. Assumes nothing.
use mathlib.Core.Path.{refl}
use mathlib.Core.List.{List}
use Prim.Native.Nat.{ℕ}
use lib.Dec.{ltb}
use lib.ListN.{length, replicate}
use Rattle.wire.specs.Number as Number
use Rattle.wire.specs.Bytes.{value}
use Rattle.wire.specs.Walk.{walk, fill}
use Rattle.wire.specs.Refuses.{OneOf, Refuses}
use Rattle.wire.proofs.Walk.{FaultsIn}
use Rattle.wire.proofs.Refuses.{pick_in, Answered, is_empty, one_of, GivesEach, gives_too_long, walk_answered, refuses_from, bytes_are}
use Rattle.initiation_message.specs.Read.{step, kit, answer, read_initiation, numbers, reader}
use Rattle.initiation_message.proofs.Steps.{see, no_fault}

faults : FaultsIn kit (OneOf numbers)
faults s r e = absurd (no_fault s r (see s) e)

answered : (s : List ℕ) → Answered reader (read_initiation s)
answered s =
    pick_in (Answered reader) (ltb Number.limit (length s)) (is_empty refl (one_of numbers Number.TooLong refl))
    (walk_answered reader kit answer faults (one_of numbers Number.TooMany refl) (λ n at table z. refl) (λ r. refl) (λ r. refl) (length s) 0 s)

-- 33 TLVs of length 0, and one byte
given : GivesEach reader numbers
unfolding value walk fill step
given = (gives_too_long reader _ _ (λ s. refl) refl, ((replicate 133 0, bytes_are _ refl, refl), tt))

pub refuses : Refuses reader
refuses = refuses_from reader answered given
