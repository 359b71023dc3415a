use Rattle.trial_hex.specs.Hex.{repeated}
use mathlib.Core.Path.{◌≡◌}
use Prim.Native.Nat.{◌+◌, ◌-◌}
use lib.Seq.{sets}
use Rattle.trial_hex.proofs.put_repeated.Given as goal

abbrev pub invariant-loop-i : goal.invariant-loop-i
invariant-loop-i l = sets l.initial.bytes l.at (repeated l.digits 0 l.count) ≡ sets l.bytes (l.at + l.i) (repeated l.digits l.i (l.count - l.i))
