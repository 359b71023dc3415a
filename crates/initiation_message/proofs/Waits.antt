-- What one who waits for the missing bytes gets. Assumes nothing.
use mathlib.Core.Path.{refl}
use mathlib.Core.List.{List, ◌++◌}
use Prim.Native.Nat.{ℕ, ◌-◌}
use native.Mathlib.Omega.{arith}
use borrow.Author.Tests.{leb-false, ltb-false, lt-leb, le-ltb}
use lib.Dec.{leb, ltb}
use lib.ListN.{length, length-append}
use Rattle.wire.specs.Bytes.{num_at}
use Rattle.wire.specs.Tlv.{size_of}
use Rattle.wire.specs.Waits.{Waits, MissingTells}
use Rattle.wire.proofs.Refuses.{pick_in}
use Rattle.wire.proofs.Waits.{part_more}
use Rattle.wire.proofs.WalkWaits.{StepWaited, whole, step_stop, num_more, StepTells, StepsWait, body_waits, body_tells}
use Rattle.initiation_message.specs.Read.{step, kit, answer, reader}
use Rattle.initiation_message.proofs.Laws.{takes}

steps : (s t : List ℕ) → StepWaited size_of (length t) (step s) (step (s ++ t))
unfolding step
steps s t =
    let longer = length-append s t in
    let size = num_at 2 s 2 in
    step_stop size_of (length t) (leb (length s) 4) (leb (length (s ++ t)) 4)
    (λ h. let long = leb-false (length s) 4 h in lt-leb (length (s ++ t)) 4 (omega arith))
    (λ h. let long = leb-false (length s) 4 h in
    let size_is = num_more 2 2 s t (omega arith) in
    step_stop size_of (length t) (ltb (length s - 4) size) (ltb (length (s ++ t) - 4) (num_at 2 (s ++ t) 2))
    (λ l. let there = ltb-false (length s - 4) size l in le-ltb (length (s ++ t) - 4) (num_at 2 (s ++ t) 2) (omega arith))
    (λ l. let there = ltb-false (length s - 4) size l in
    rw (num_more 2 0 s t (omega arith), size_is, part_more size 4 s t (omega arith)) whole))

told : (s : List ℕ) → StepTells (step s)
unfolding step
told s = pick_in StepTells (leb (length s) 4) tt (pick_in StepTells (ltb (length s - 4) (num_at 2 s 2)) tt tt)

wait : StepsWait kit
wait = record { takes = takes; steps = steps; tells = told }

pub waits : Waits reader
waits = body_waits reader kit wait _ answer (λ s. refl) refl (λ n at table z. refl) (λ r. refl)

pub missing_tells : MissingTells reader
missing_tells = body_tells reader kit wait _ answer (λ s. refl) refl (λ n at table z. refl) (λ r. refl)
