-- A Cut is at the first part that is not whole. Assumes nothing.
use mathlib.Core.List.{List}
use Prim.Native.Nat.{ℕ, ◌-◌}
use native.Mathlib.Omega.{arith}
use borrow.Author.Tests.{leb-false, ltb-true}
use lib.Dec.{leb, ltb, eqb}
use lib.ListN.{length}
use Rattle.wire.specs.Bytes.{num_at}
use Rattle.wire.proofs.Cuts.{CutsIn, pick_by, value_lacks}
use Rattle.route_mirroring.specs.Read.{message_step, information_step, step, widths_in}

pub cuts : (s : List ℕ) → CutsIn (widths_in s) (length s) (step s)
unfolding step message_step information_step
cuts s =
    let P = CutsIn (widths_in s) (length s) in
    let size = num_at 2 s 2 in
    pick_by P (leb (length s) 4) (λ h. tt) (λ long. let l = leb-false (length s) 4 long in
    pick_by P (ltb 1 (num_at 2 s 0)) (λ h e. absurd (omega arith)) (λ h. pick_by P (eqb (num_at 2 s 0) 0)
    (λ kind. pick_by P (ltb size 19) (λ h e. absurd (omega arith)) (λ h. pick_by P (ltb (length s - 4) size)
    (λ h e. rw kind (value_lacks size (length s) (omega arith) (ltb-true (length s - 4) size h)))
    (λ h. tt)))
    (λ kind. pick_by P (ltb (length s - 4) 2)
    (λ h e. rw kind (value_lacks 2 (length s) (omega arith) (ltb-true (length s - 4) 2 h)))
    (λ h. pick_by P (ltb 1 (num_at 2 s 4)) (λ h e. absurd (omega arith)) (λ h. tt)))))
