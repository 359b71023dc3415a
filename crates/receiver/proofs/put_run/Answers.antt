use mathlib.Core.Path.{ap, ◌∙◌}
use native.Mathlib.Omega.{arith}
use Rattle.receiver.specs.Receive.{judge_of}
use Rattle.receiver.proofs.Taking.{was_put}
use Rattle.receiver.proofs.put_run.Goals as goal

pub returns-clause-value : goal.returns-clause-value
returns-clause-value c =
    let put = was_put _ _ _ _ (let p = c.requires in omega (arith, p)) c.put_bytes.ensures in
    c.judge.ensures ∙ ap judge_of put.front
