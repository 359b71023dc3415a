use native.Mathlib.Omega.{arith}
use Rattle.models.proofs.Warnings.{ones_counted}
use Rattle.models.proofs.warning_count.Goals as goal

pub returns : goal.returns
returns c = ones_counted 32 c.args.warnings (omega arith)
