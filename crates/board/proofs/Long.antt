-- How long the two lists of a board are, from what owning one tells. Assumes nothing.
use mathlib.Core.List.{List}
use mathlib.Core.Path.{◌≡◌}
use denote.Laws.{Is}
use denote.Struct.Laws as LL
use lib.ListN.{length}
use mir.Val.{Val}
use Rattle.board.specs.declared.Board.{Board}
use Rattle.board.specs.contracts.Board as B
use Rattle.board.proofs.Board.TheLaws as B'

pub places_long : (b : Board) (vs : List Val) → Is B.the_row b vs → length b.places ≡ 64
places_long b vs is = (LL.owed B.the_type B'.the_laws b vs is).0.1.0.1

pub peers_long : (b : Board) (vs : List Val) → Is B.the_row b vs → length b.peers ≡ 64
peers_long b vs is = (LL.owed B.the_type B'.the_laws b vs is).1.0.1.0.1
