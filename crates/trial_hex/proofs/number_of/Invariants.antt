use Rattle.trial_hex.specs.Hex.{times_from}
use mathlib.Core.Path.{◌≡◌}
use Prim.Native.Nat.{◌≤◌}
use lib.ListN.{drop}
use Rattle.trial_hex.proofs.number_of.Given as goal

abbrev pub invariant-loop-digit : goal.invariant-loop-digit
invariant-loop-digit l = (l.n ≤ 1048577) × (times_from 0 l.text ≡ times_from l.n (drop l.digit-index l.text))
