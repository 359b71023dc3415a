use mathlib.Core.Path.{◌≡◌}
use lib.ListN.{take}
use Rattle.kept_report.specs.Kept.{table}
use Rattle.kept_report.proofs.keep.Given as goal

abbrev pub invariant-loop-i : goal.invariant-loop-i
invariant-loop-i l = l.counters ≡ table (take l.i l.report.counters)
