use mathlib.Core.Path.{◌≡◌}
use borrow.Author.Rules.{rules}
use Rattle.std.specs.declared.result.Result.TheVariants.{Err}
use Rattle.board.specs.Map.{report}
use Rattle.board.proofs.Kept.{kept}
use Rattle.board.proofs.report.Goals as goal

pub returns-in_err-keep : goal.returns-in_err-keep
returns-in_err-keep c =
    let e : c.from_residual.result ≡ Err c.in_err-keep.field-0.0 = search rules in
    rw e (kept c.args.board c.keep.new.self (report c.args.header c.args.counters) (rw c.in_err-keep.was at c.keep.ensures))
