use borrow.Author.Rules.{rules}
use Rattle.board.specs.Board.{empty_board}
use Rattle.board.proofs.empty.Goals as goal

pub returns : goal.returns
unfolding empty_board
returns c = search rules
