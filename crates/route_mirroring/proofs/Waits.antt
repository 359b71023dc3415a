-- What one who waits for the missing bytes gets. Assumes nothing.
use mathlib.Core.Path.{refl}
use mathlib.Core.List.{List, ◌++◌}
use Prim.Native.Nat.{ℕ, ◌-◌}
use native.Mathlib.Omega.{arith}
use borrow.Author.Tests.{leb-false, ltb-true, lt-leb}
use lib.Dec.{leb, ltb, eqb}
use lib.ListN.{length, length-append}
use Rattle.wire.specs.Number as Number
use Rattle.wire.specs.Bytes.{num_at}
use Rattle.wire.specs.Waits.{Waits, MissingTells}
use Rattle.wire.proofs.Cuts.{pick_by}
use Rattle.wire.proofs.Refuses.{pick_in}
use Rattle.wire.proofs.Waits.{other_tells, cut_tells, part_more}
use Rattle.wire.proofs.WalkWaits.{Past, lacks, StepWaited, whole, step_fault, step_test, step_stop, step_need, num_more, StepTells, StepsWait, body_waits, body_tells}
use Rattle.route_mirroring.specs.Grammar.{size_of}
use Rattle.route_mirroring.specs.Read.{message_step, information_step, step, kit, answer, reader}
use Rattle.route_mirroring.proofs.Laws.{takes}

steps : (s t : List ℕ) → StepWaited size_of (length t) (step s) (step (s ++ t))
unfolding step message_step information_step
steps s t =
    let n = length s in
    let m = length (s ++ t) in
    let k = length t in
    let longer = length-append s t in
    let kind = num_at 2 s 0 in
    let size = num_at 2 s 2 in
    step_stop size_of k (leb n 4) (leb m 4) (λ h. let long = leb-false n 4 h in lt-leb m 4 (omega arith)) (λ h.
    let long = leb-false n 4 h in
    rw (num_more 2 0 s t (omega arith), num_more 2 2 s t (omega arith))
    (step_test size_of k (ltb 1 kind) (ltb 1 kind) refl (λ e. step_fault size_of k Number.BadTlvType 0 refl) (λ e.
    step_test size_of k (eqb kind 0) (eqb kind 0) refl
    (λ e. step_test size_of k (ltb size 19) (ltb size 19) refl (λ z. step_fault size_of k Number.BgpLength 2 refl) (λ z.
    step_need size_of k n m 4 size longer (omega arith) (ltb (n - 4) size) (ltb (m - 4) size) (lacks n 4 size) (lacks m 4 size)
    (λ there. rw (part_more size 4 s t there) whole) (λ few now. omega arith)))
    (λ e. step_need size_of k n m 4 2 longer (omega arith) (ltb (n - 4) 2) (ltb (m - 4) 2) (lacks n 4 2) (lacks m 4 2)
    (λ six. rw (num_more 2 4 s t six)
    (step_test size_of k (ltb 1 (num_at 2 s 4)) (ltb 1 (num_at 2 s 4)) refl (λ c. step_fault size_of k Number.UnknownKind 4 refl) (λ c. whole)))
    (λ few now. pick_in (Past size_of 4) (ltb 1 (num_at 2 (s ++ t) 4)) (λ c d. omega arith) (omega arith))))))

told : (s : List ℕ) → StepTells (step s)
unfolding step message_step information_step
told s =
    let n = length s in
    let size = num_at 2 s 2 in
    pick_by StepTells (leb n 4) (λ h. tt) (λ h.
    pick_by StepTells (ltb 1 (num_at 2 s 0)) (λ k. other_tells Number.BadTlvType 0 refl) (λ k.
    pick_by StepTells (eqb (num_at 2 s 0) 0)
    (λ m. pick_by StepTells (ltb size 19) (λ z. other_tells Number.BgpLength 2 refl) (λ z.
    pick_by StepTells (ltb (n - 4) size) (λ v. cut_tells n 4 size (ltb-true (n - 4) size v)) (λ v. tt)))
    (λ i. pick_by StepTells (ltb (n - 4) 2) (λ v. cut_tells n 4 2 (ltb-true (n - 4) 2 v)) (λ v.
    pick_by StepTells (ltb 1 (num_at 2 s 4)) (λ c. other_tells Number.UnknownKind 4 refl) (λ c. tt)))))

wait : StepsWait kit
wait = record { takes = takes; steps = steps; tells = told }

pub waits : Waits reader
waits = body_waits reader kit wait _ answer (λ s. refl) refl (λ n at table z. refl) (λ r. refl)

pub missing_tells : MissingTells reader
missing_tells = body_tells reader kit wait _ answer (λ s. refl) refl (λ n at table z. refl) (λ r. refl)
