use mathlib.Core.Path.{◌≡◌}
use Prim.Native.Nat.{◌+◌, ◌≤◌}
use lib.ListN.{length}
use lib.Seq.{sets}
use Rattle.decimal.specs.Decimal.{decimal}
use Rattle.decimal.proofs.put_decimal.Given as goal

abbrev pub invariant-loop-rest : goal.invariant-loop-rest
invariant-loop-rest l =
    (l.last + 1 ≡ l.at + length (decimal l.rest)) × ((l.last + 1 ≤ length l.initial.out) × ((length l.out ≡ length l.initial.out) × (sets l.out l.at (decimal l.rest) ≡ sets l.initial.out l.at (decimal l.n))))

abbrev pub decreases-loop-rest : goal.decreases-loop-rest
decreases-loop-rest l = l.rest
