-- A refusal leaves the board, so what a refused call is answered of the board after it is answered of the board before. Assumes nothing.
use mathlib.Core.Path.{◌≡◌, sym, ap, ◌∙◌}
use Rattle.std.specs.declared.result.Result.TheVariants.{Err}
use Rattle.board.specs.Board.{Updated, refused}
use Rattle.board.specs.Map.{Call, board_step}
use Rattle.board.specs.declared.Board.{Board}
use Rattle.board.specs.declared.BoardRefusal.{BoardRefusal}
use Rattle.board.proofs.Promises.{refused_leaves}

pub kept : (b next : Board) (x : Call) {r : BoardRefusal} → ◌≡◌ {A = Updated} (refused r next) (board_step b x) → refused r b ≡ board_step b x
kept b next x {r} e =
    let answered_is : (board_step b x).answered ≡ Err r = sym (ap (λ (u : Updated). u.answered) e) in
    let same : next ≡ b = ap (λ (u : Updated). u.board) e ∙ refused_leaves b x (λ z. cc) in
    ap (refused r) (sym same) ∙ e
