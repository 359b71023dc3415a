-- A Cut is at the first part that is not whole. Assumes nothing.
use mathlib.Core.List.{List}
use Prim.Native.Nat.{ℕ, ◌-◌}
use native.Mathlib.Omega.{arith}
use borrow.Author.Tests.{leb-false, ltb-true}
use lib.Dec.{leb, ltb, eqb}
use lib.ListN.{length}
use Rattle.wire.specs.Bytes.{num_at}
use Rattle.wire.proofs.Cuts.{CutsIn, pick_by, value_lacks}
use Rattle.termination_message.specs.Read.{step, widths_in}

pub cuts : (s : List ℕ) → CutsIn (widths_in s) (length s) (step s)
unfolding step
cuts s =
    let P = CutsIn (widths_in s) (length s) in
    pick_by P (leb (length s) 4) (λ h. tt) (λ long. pick_by P (ltb 1 (num_at 2 s 0)) (λ h e. absurd (omega arith)) (λ h.
    pick_by P (ltb (length s - 4) (num_at 2 s 2)) (λ h. tt) (λ h. pick_by P (eqb (num_at 2 s 0) 0) (λ h. tt) (λ h.
    pick_by P (ltb (length s - 4) 2)
    (λ h e. let l = leb-false (length s) 4 long in value_lacks 2 (length s) (omega arith) (ltb-true (length s - 4) 2 h))
    (λ h. pick_by P (ltb 4 (num_at 2 s 4)) (λ h e. absurd (omega arith)) (λ h. tt))))))
