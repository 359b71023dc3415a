use Rattle.std.proofs.Common.{◌∙◌, sym}
use Rattle.trial_line.specs.Words.{word}
use Rattle.trial_line.specs.Line.{no_arguments}
use Rattle.trial_line.proofs.Laws.{equal_is}
use Rattle.trial_line.proofs.no_arguments.Goals as goal

pub returns-then-eq : goal.returns-then-eq
unfolding no_arguments
returns-then-eq c = rw (sym (equal_is c.args.text.now (word "-")) ∙ sym c.eq.ensures ∙ c.if-eq.true)

pub returns-else-eq : goal.returns-else-eq
unfolding no_arguments
returns-else-eq c = rw (sym (equal_is c.args.text.now (word "-")) ∙ sym c.eq.ensures ∙ c.if-eq.false)
