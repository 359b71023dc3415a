use mathlib.Core.Path.{◌≡◌}
use borrow.Author.Rules.{rules}
use Rattle.std.specs.declared.result.Result.TheVariants.{Err}
use Rattle.board.specs.Map.{down}
use Rattle.board.proofs.Kept.{kept}
use Rattle.board.proofs.down.Goals as goal

pub returns-in_err-remove : goal.returns-in_err-remove
returns-in_err-remove c =
    let e : c.from_residual.result ≡ Err c.in_err-remove.field-0.0 = search rules in
    rw e (kept c.args.board c.remove.new.self (down c.args.header c.args.notification) (rw c.in_err-remove.was at c.remove.ensures))
