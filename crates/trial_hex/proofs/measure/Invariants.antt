use lib.ListN.{length, drop}
use mathlib.Core.Path.{◌≡◌}
use Prim.Native.Nat.{◌≤◌}
use Rattle.trial_hex.specs.Hex.{parts, measured}
use Rattle.trial_hex.proofs.measure.Given as goal

abbrev pub invariant-loop-part : goal.invariant-loop-part
invariant-loop-part l = (l.count ≤ l.room) × (measured l.room 0 (parts l.text) ≡ measured l.room l.count (drop (length l.yielded) (parts l.text)))
