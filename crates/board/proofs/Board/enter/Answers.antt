use mathlib.Core.Path.{◌≡◌}
use borrow.Author.Rules.{rules}
use Rattle.std.specs.declared.result.Result.TheVariants.{Err}
use Rattle.board.proofs.Answers.{up_done, up_refused}
use Rattle.board.proofs.Board.enter.Goals as goal

pub returns-in_err-at : goal.returns-in_err-at
returns-in_err-at c =
    let e : c.from_residual.result ≡ Err c.in_err-at.field-0.0 = search rules in
    rw e (up_refused c.args.self.now _ _ c.key_of-key.ensures c.place_for.ensures.value c.ok_or.ensures.value c.in_err-at.was)

pub returns : goal.returns
returns c = up_done c.args.self.now _ _ c.key_of-key.ensures c.place_for.ensures.value c.ok_or.ensures.value c.in_ok-at.was
