-- On a board that began empty, nothing of a peer that went stays: what no peer uses is None. Assumes nothing.
use mathlib.Core.Path.{◌≡◌, refl, sym, ◌∙◌}
use native.Mathlib.Omega.{arith}
use Prim.Native.Nat.{ℕ, zero, suc}
use mathlib.Core.Bool.{false}
use mathlib.Core.List.{List, [], ◌∷◌}
use borrow.Author.Tests.{ltb-true}
use lib.Dec.{ltb}
use lib.ListN.{length, get_or, set, replicate}
use Rattle.peer_key.specs.Key.{key_of}
use Rattle.peer_key.specs.declared.PeerKey.{PeerKey}
use Rattle.stats_report.specs.Grammar as Report
use Rattle.stats_report.specs.declared.StatsReport.{StatsReport}
use Rattle.board.specs.First.{first}
use Rattle.board.specs.Board.{Place, Peer, hits, free, place_for, free_place, used_by, silent, heard, empty_board, up_of, down_of, report_of, ZeroIfFree}
use Rattle.board.specs.Map.{Map, Call, up, down, report, map_step, board_step, board_run}
use Rattle.board.specs.declared.Board.{Board}
use Rattle.board.proofs.Firsts.{by_test, found_passes}
use Rattle.board.proofs.Entries.{never, hits_taken}
use Rattle.board.proofs.Runs.{Holds, step_holds, empty_holds}

unfoldable AllZero : List Place → List Peer → Type 0
AllZero [] qs = Unit {0}
AllZero (p ∷ ps) [] = Unit {0}
AllZero (p ∷ ps) (q ∷ qs) = ZeroIfFree p q × AllZero ps qs

entry_zero : (ps : List Place) (qs : List Peer) (i : ℕ) (p : Place) (q : Peer) → ZeroIfFree p q → AllZero ps qs → AllZero (set ps i p) (set qs i q)
unfolding AllZero
entry_zero [] qs i p q e z = tt
entry_zero (x ∷ ps) [] zero p q e z = tt
entry_zero (x ∷ ps) [] (suc i) p q e z = tt
entry_zero (x ∷ ps) (y ∷ qs) zero p q e z = (e, z.1)
entry_zero (x ∷ ps) (y ∷ qs) (suc i) p q e z = (z.0, entry_zero ps qs i p q e z.1)

peer_zero : (ps : List Place) (qs : List Peer) (i : ℕ) (q : Peer) → free (get_or ps i free_place) ≡ false → AllZero ps qs → AllZero ps (set qs i q)
unfolding AllZero
peer_zero [] qs i q e z = tt
peer_zero (x ∷ ps) [] i q e z = tt
peer_zero (x ∷ ps) (y ∷ qs) zero q e z = ((λ f. never (sym f ∙ e)), z.1)
peer_zero (x ∷ ps) (y ∷ qs) (suc i) q e z = (z.0, peer_zero ps qs i q e z.1)

module _ (b : Board) (m : Map) (s : Holds b m) (z : AllZero b.places b.peers) where
  abbrev Stays : Call → Type 0
  Stays x = AllZero (board_step b x).board.places (board_step b x).board.peers

  up_zero : (k : PeerKey) → AllZero (up_of b k).board.places (up_of b k).board.peers
  unfolding up_of
  up_zero k =
      by_test (ltb (place_for b.places k) 64)
      (λ t. rw t (entry_zero b.places b.peers (place_for b.places k) (used_by k) silent (λ e. never (sym e)) z)) (λ t. rw t z)

  down_zero : (k : PeerKey) → AllZero (down_of b k).board.places (down_of b k).board.peers
  unfolding down_of
  down_zero k =
      by_test (ltb (first (hits k) b.places) 64)
      (λ t. rw t (entry_zero b.places b.peers (first (hits k) b.places) free_place silent (λ e. (refl, refl)) z)) (λ t. rw t z)

  report_zero : (k : PeerKey) (r : StatsReport) → AllZero (report_of b k r).board.places (report_of b k r).board.peers
  unfolding report_of
  report_zero k r =
      let i = first (hits k) b.places in
      by_test (ltb Report.places r.count) (λ c. rw c z)
      (λ c.
      by_test (ltb i 64)
      (λ t.
      let there = found_passes (hits k) b.places free_place (rw s.places_long (ltb-true i 64 t)) in
      rw (c, t)
      (peer_zero b.places b.peers i (heard (get_or b.peers i silent) r) (hits_taken k (get_or b.places i free_place) there) z))
      (λ t. rw (c, t) z))

  step_zero : (x : Call) → Stays x
  step_zero (up h x) = up_zero (key_of h)
  step_zero (down h x) = down_zero (key_of h)
  step_zero (report h r) = report_zero (key_of h) r

run_zero : (b : Board) (m : Map) → Holds b m → AllZero b.places b.peers → (xs : List Call) → AllZero (board_run b xs).1.places (board_run b xs).1.peers
run_zero b m s z [] = z
run_zero b m s z (x ∷ xs) = run_zero (board_step b x).board (map_step m x).1 (step_holds b m s x).1 (step_zero b m s z x) xs

empty_zero : (n : ℕ) → AllZero (replicate n free_place) (replicate n silent)
unfolding AllZero
empty_zero zero = tt
empty_zero (suc n) = ((λ e. (refl, refl)), empty_zero n)

at_place : (ps : List Place) (qs : List Peer) (i : ℕ) → AllZero ps qs → length ps ≡ length qs → ZeroIfFree (get_or ps i free_place) (get_or qs i silent)
unfolding AllZero
at_place [] [] i z l = λ e. (refl, refl)
at_place [] (q ∷ qs) i z l = absurd (let w : ⊥ = omega arith in w)
at_place (p ∷ ps) [] i z l = absurd (let w : ⊥ = omega arith in w)
at_place (p ∷ ps) (q ∷ qs) zero z l = z.0
at_place (p ∷ ps) (q ∷ qs) (suc i) z l = at_place ps qs i z.1 (omega arith)

pub zero_at : (xs : List Call) (i : ℕ) → length (board_run empty_board xs).1.places ≡ length (board_run empty_board xs).1.peers
    → ZeroIfFree (get_or (board_run empty_board xs).1.places i free_place) (get_or (board_run empty_board xs).1.peers i silent)
unfolding empty_board
zero_at xs i l =
    at_place (board_run empty_board xs).1.places (board_run empty_board xs).1.peers i (run_zero empty_board [] empty_holds (empty_zero 64) xs) l
