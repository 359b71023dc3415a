use Rattle.std.proofs.Common.{◌∙◌, sym, ap, ℕ, ◌+◌, ◌-◌, set, arith}
use lib.Seq.{sets}
use Rattle.trial_hex.specs.Hex.{repeated}
use Rattle.trial_hex.proofs.Laws.{repeated_here, repeated_done}
use Rattle.trial_hex.proofs.put_repeated.Goals as goal

pub loop-i-preserved : goal.loop-i-preserved
loop-i-preserved c = c.loop-i.invariant ∙ repeated_here c.args.digits.now c.loop-i.bytes c.args.at c.loop-i.i c.args.count (omega arith) ∙ ap (λ (b : ℕ). sets (set c.loop-i.bytes (c.args.at + c.loop-i.i) b) (c.args.at + (c.loop-i.i + 1)) (repeated c.args.digits.now (c.loop-i.i + 1) (c.args.count - (c.loop-i.i + 1)))) (sym c.byte_at.ensures)

pub returns : goal.returns
returns c = sym (c.loop-i.invariant ∙ repeated_done c.args.digits.now c.loop-i.bytes c.args.at c.loop-i.i c.args.count (omega arith))
