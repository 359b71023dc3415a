use mathlib.Core.Path.{◌≡◌}
use borrow.Author.Rules.{rules}
use Rattle.std.specs.declared.result.Result.TheVariants.{Err}
use Rattle.board.proofs.Answers.{down_done, down_refused}
use Rattle.board.proofs.Board.remove.Goals as goal

pub returns-in_err-freed : goal.returns-in_err-freed
returns-in_err-freed c =
    let e : c.from_residual.result ≡ Err c.in_err-freed.field-0.0 = search rules in
    rw e (down_refused c.args.self.now _ _ c.key_of.ensures c.find_key.ensures.value c.ok_or.ensures.value c.in_err-freed.was)

pub returns : goal.returns
returns c = down_done c.args.self.now _ _ c.key_of.ensures c.find_key.ensures.value c.ok_or.ensures.value c.in_ok-freed.was
