use borrow.Author.Rules.{rules}
use mathlib.Core.Path.{sym, ◌∙◌}
use Rattle.times.proofs.Times.{time_number, other_bits}
use Rattle.times.proofs.is_timestamp.Goals as goal

pub float_to_bits-result-then-t-given : goal.float_to_bits-result-then-t-given
float_to_bits-result-then-t-given c = rw c.timestamp-given.ensures (time_number _ _)

pub returns-else-t-given : goal.returns-else-t-given
returns-else-t-given c = c.if-t-given.false ∙ sym (other_bits _ _ _ (search rules) (rw (← c.timestamp-given.ensures) c.if-t-given.false))
