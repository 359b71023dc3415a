use mathlib.Core.Path.{◌≡◌}
use borrow.Author.Rules.{rules}
use Rattle.std.specs.declared.result.Result.TheVariants.{Err}
use Rattle.board.specs.Map.{up}
use Rattle.board.proofs.Kept.{kept}
use Rattle.board.proofs.up.Goals as goal

pub returns-in_err-enter : goal.returns-in_err-enter
returns-in_err-enter c =
    let e : c.from_residual.result ≡ Err c.in_err-enter.field-0.0 = search rules in
    rw e (kept c.args.board c.enter.new.self (up c.args.header c.args.notification) (rw c.in_err-enter.was at c.enter.ensures))
