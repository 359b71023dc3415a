use mathlib.Core.Path.{sym, ◌∙◌}
use Rattle.receiver.proofs.Judging.{by-room}
use Rattle.receiver.proofs.judge.Goals as goal

pub returns-in-Err : goal.returns-in-Err
returns-in-Err c = c.judge_refusal.ensures ∙ by-room c.args.h.now c.requires _ (sym c.split_message.ensures ∙ c.in-Err.is)
