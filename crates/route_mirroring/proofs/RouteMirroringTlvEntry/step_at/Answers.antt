use mathlib.Core.Path.{sym, ◌∙◌}
use Rattle.route_mirroring.proofs.Steps.{message-at, information-at}
use Rattle.route_mirroring.proofs.RouteMirroringTlvEntry.step_at.Goals as goal

pub returns-in-0 : goal.returns-in-0
returns-in-0 c = c.message_at.ensures ∙ message-at c.args.s.now c.args.at c.args.slot.now c.in-Some.head (sym c.read_head.ensures ∙ c.in-Some.is) c.in-0.is

pub returns-in-1 : goal.returns-in-1
returns-in-1 c = c.information_at.ensures ∙ information-at c.args.s.now c.args.at c.args.slot.now c.in-Some.head (sym c.read_head.ensures ∙ c.in-Some.is) c.in-1.is
