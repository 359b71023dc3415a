-- What one who waits for the missing bytes gets. Assumes nothing.
use mathlib.Core.Path.{◌≡◌, refl}
use mathlib.Core.List.{List, ◌++◌}
use Prim.Native.Nat.{ℕ, ◌+◌, ◌-◌}
use native.Mathlib.Omega.{arith}
use borrow.Author.Tests.{ltb-true, ltb-false}
use lib.Dec.{ltb}
use lib.ListN.{length, length-append}
use Rattle.wire.specs.Number as Number
use Rattle.wire.specs.Bytes.{pick, has, num_at}
use Rattle.wire.specs.Refusal.{refusal}
use Rattle.wire.specs.Walk.{read_from}
use Rattle.wire.specs.Waits.{Never, Waits, MissingTells}
use Rattle.wire.proofs.Cuts.{pick_by}
use Rattle.wire.proofs.Refuses.{pick_in}
use Rattle.wire.proofs.Waits.{Judge, by_number, part_more, cut_tells, said, given, need, ask, waits_by, tells_by}
use Rattle.wire.proofs.WalkWaits.{Past, Lacks, lacks, StepWaited, whole, step_need, num_more, StepTells, walk_said, StepsWait, walk_on}
use Rattle.stats_report.specs.Grammar.{size_of}
use Rattle.stats_report.specs.Read.{step, kit, answer, read_stats, reader}
use Rattle.stats_report.specs.Shown.{refusal_of}
use Rattle.stats_report.proofs.Laws.{takes}

-- type and length are asked for by how many bytes there are in all
lacks_two : (n at : ℕ) → Lacks (ltb n (at + 2)) n at 2
lacks_two n at = (λ h. let few = ltb-true n (at + 2) h in omega arith, λ h. let enough = ltb-false n (at + 2) h in omega arith)

steps : (s t : List ℕ) → StepWaited size_of (length t) (step s) (step (s ++ t))
unfolding step
steps s t =
    let n = length s in
    let m = length (s ++ t) in
    let k = length t in
    let longer = length-append s t in
    let size = num_at 2 s 2 in
    let size' = num_at 2 (s ++ t) 2 in
    let P = Past size_of in
    step_need size_of k n m 0 2 longer (omega arith) (ltb n 2) (ltb m 2) (lacks_two n 0) (lacks_two m 0)
    (λ two. step_need size_of k n m 2 2 longer two (ltb n 4) (ltb m 4) (lacks_two n 2) (lacks_two m 2)
    (λ four. rw (num_more 2 2 s t four)
    (step_need size_of k n m 4 size longer four (ltb (n - 4) size) (ltb (m - 4) size) (lacks n 4 size) (lacks m 4 size)
    (λ there. rw (num_more 2 0 s t (omega arith), part_more size 4 s t there) whole) (λ few now. omega arith)))
    (λ few now. pick_in (P 2) (ltb (m - 4) size') (λ c d. omega arith) (omega arith)))
    (λ few now. pick_in (P 0) (ltb m 4) (λ c d. omega arith) (pick_in (P 0) (ltb (m - 4) size') (λ c d. omega arith) (omega arith)))

told : (s : List ℕ) → StepTells (step s)
unfolding step
told s =
    let n = length s in
    pick_by StepTells (ltb n 2) (λ h. let few = ltb-true n 2 h in cut_tells n 0 2 (omega arith)) (λ h.
    pick_by StepTells (ltb n 4) (λ l. let few = ltb-true n 4 l in cut_tells n 2 2 (omega arith)) (λ l.
    pick_by StepTells (ltb (n - 4) (num_at 2 s 2)) (λ v. cut_tells n 4 (num_at 2 s 2) (ltb-true (n - 4) (num_at 2 s 2) v)) (λ v. tt)))

wait : StepsWait kit
wait = record { takes = takes; steps = steps; tells = told }

-- the count, and then as many records as it says
judged : Judge Never 0 0
judged = ask 4 (given (λ s. num_at 4 s 0) (by_number 4 0 (omega arith) (λ n. n)) (λ n. walk_on kit wait (λ s. n) (λ s t. omega arith)))

reads : (s : List ℕ) → refusal_of (read_stats s) ≡ pick (ltb Number.limit (length s)) (refusal Number.TooLong 0) (judged.judge s)
unfolding judged ask need given walk_on
reads s =
    said refusal_of (ltb Number.limit (length s)) refl
    (said refusal_of (has 4 s 0) (walk_said refusal_of (answer (num_at 4 s 0)) (λ n at table z. refl) (λ r. refl) (read_from kit (num_at 4 s 0) 4 s)) refl)

pub waits : Waits reader
waits = waits_by reader judged reads

pub missing_tells : MissingTells reader
missing_tells = tells_by reader judged reads
