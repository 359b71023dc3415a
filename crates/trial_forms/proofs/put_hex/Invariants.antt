use Rattle.std.proofs.Common.{◌≡◌, ◌+◌, ◌*◌, drop}
use lib.Seq.{sets}
use Rattle.trial_forms.specs.Text.{hex}
use Rattle.trial_forms.proofs.put_hex.Given as goal

abbrev pub invariant-loop-i : goal.invariant-loop-i
invariant-loop-i l = sets l.initial.out l.at (hex l.bytes) ≡ sets l.out (l.at + 2 * l.i) (hex (drop l.i l.bytes))
