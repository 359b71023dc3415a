use mathlib.Core.Path.{◌≡◌}
use mathlib.Core.Bool.{false}
use native.Mathlib.Omega.{arith}
use borrow.Author.Rules.{rules}
use borrow.Author.Tests.{le-ltb}
use lib.Dec.{ltb}
use Rattle.std.specs.declared.result.Result.TheVariants.{Err}
use Rattle.stats_report.specs.Grammar as Report
use Rattle.board.proofs.Answers.{report_done, report_refused}
use Rattle.board.proofs.Board.keep.Goals as goal

pub returns-in_err-at : goal.returns-in_err-at
returns-in_err-at c =
    let counted : ltb Report.places c.args.counters.count ≡ false = le-ltb _ _ (omega arith) in
    let e : c.from_residual.result ≡ Err c.in_err-at.field-0.0 = search rules in
    rw e (report_refused c.args.self.now _ _ c.key_of.ensures c.find_key.ensures.value c.ok_or.ensures.value c.args.counters counted c.in_err-at.was)

pub returns : goal.returns
returns c =
    let counted : ltb Report.places c.args.counters.count ≡ false = le-ltb _ _ (omega arith) in
    rw c.keep.ensures (report_done c.args.self.now _ _ c.key_of.ensures c.find_key.ensures.value c.ok_or.ensures.value c.args.counters counted c.in_ok-at.was)
