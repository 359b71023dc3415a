use Rattle.kept_report.specs.Kept.{no_report}
use Rattle.kept_report.proofs.no_report.Goals as goal

pub returns : goal.returns
unfolding no_report
returns c = rw c.counter_of-none.ensures
