use mathlib.Core.Path.{◌≡◌}
use borrow.Author.Rules.{rules}
use Rattle.std.specs.declared.result.Result.TheVariants.{Err}
use Rattle.board.proofs.Answers.{look_found, look_absent}
use Rattle.board.proofs.Board.find.Goals as goal

pub returns-in_err-at : goal.returns-in_err-at
returns-in_err-at c =
    let e : c.from_residual.result ≡ Err c.in_err-at.field-0.0 = search rules in
    rw e (look_absent c.args.self.now c.args.key c.find_key.ensures.value c.ok_or.ensures.value c.in_err-at.was)

pub returns : goal.returns
returns c = look_found c.args.self.now c.args.key c.find_key.ensures.value c.ok_or.ensures.value c.in_ok-at.was
