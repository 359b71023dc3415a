use native.Mathlib.Omega.{arith}
use mathlib.Core.Path.{sym, ◌∙◌}
use Rattle.cursor.proofs.Reading.{plain_read}
use Rattle.termination_message.proofs.Steps.{string_at, known_at}
use Rattle.termination_message.proofs.TerminationTlvEntry.step_at.Goals as goal

pub returns-then-kind-eq0 : goal.returns-then-kind-eq0
returns-then-kind-eq0 c = string_at _ _ _ c.in-Some.head (sym c.read_head.ensures ∙ c.in-Some.is) (omega arith) c.if-kind-eq0.true

pub returns : goal.returns
returns c =
    known_at _ _ _ c.in-Some.head (sym c.read_head.ensures ∙ c.in-Some.is) (omega arith) (omega arith) (omega arith) _ _
    (sym c.read.ensures ∙ plain_read _ ∙ c.in_ok-code.was) (omega arith)
