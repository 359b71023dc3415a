use Rattle.std.proofs.Common.{◌∙◌, sym, arith}
use Rattle.trial_hex.proofs.Laws.{times_bad, times_more, times_done}
use Rattle.trial_hex.proofs.number_of.Goals as goal

pub returns-then-n-eq0 : goal.returns-then-n-eq0
returns-then-n-eq0 c = (sym (c.loop-digit.invariant.1 ∙ times_bad c.args.text.now c.loop-digit.digit-index c.loop-digit.n c.with_digit-n.result (omega arith) c.with_digit-n.ensures.0 c.if-n-eq0.true), omega arith)

pub loop-digit-preserved : goal.loop-digit-preserved
loop-digit-preserved c = (omega (arith, c.with_digit-n.ensures.1), c.loop-digit.invariant.1 ∙ times_more c.args.text.now c.loop-digit.digit-index c.loop-digit.n c.with_digit-n.result (omega arith) c.with_digit-n.ensures.0 c.if-n-eq0.false)

pub returns : goal.returns
returns c = (sym (c.loop-digit.invariant.1 ∙ times_done c.args.text.now c.loop-digit.digit-index c.loop-digit.n (omega arith)), omega arith)
