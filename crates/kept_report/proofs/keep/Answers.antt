use mathlib.Core.Path.{◌≡◌, sym}
use native.Mathlib.Omega.{arith}
use borrow.Author.Rules.{rules}
use Rattle.kept_report.specs.Kept.{kept_report}
use Rattle.kept_report.proofs.Tables.{begins, turn}
use Rattle.kept_report.proofs.keep.Goals as goal

pub loop-i-init : goal.loop-i-init
loop-i-init c = rw c.counter_of-zero.ensures (sym (begins c.args.report.counters))

pub loop-i-preserved : goal.loop-i-preserved
loop-i-preserved c =
    rw (c.loop-i.invariant, c.kept_counter.ensures) (turn c.args.report.counters c.loop-i.i _ (search rules) (omega arith))

pub returns : goal.returns
unfolding kept_report
returns c =
    let all : c.loop-i.i ≡ c.min-count.result = omega arith in
    rw (c.loop-i.invariant, all, c.min-count.ensures)
