use mathlib.Core.Path.{sym, ap, ◌∙◌}
use Rattle.trial_hex.specs.Hex.{are_digits}
use Rattle.trial_hex.proofs.Laws.{no_digits, some_digits}
use Rattle.trial_hex.proofs.part_length.Goals as goal

pub returns-then-not-are_digits : goal.returns-then-not-are_digits
returns-then-not-are_digits c = sym (no_digits c.args.part.now (ap are_digits (sym c.digits_of-digits.ensures) ∙ sym c.are_digits.ensures ∙ c.if-not-are_digits.true))

pub returns : goal.returns
returns c = some_digits c.args.part.now _ _ (ap are_digits (sym c.digits_of-digits.ensures) ∙ sym c.are_digits.ensures ∙ c.if-not-are_digits.false) c.digits_of-digits.ensures c.times_of.ensures.0
