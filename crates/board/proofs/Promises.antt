-- What a user of the board relies on. Assumes nothing.
use mathlib.Core.Path.{◌≡◌, refl, sym, ap, ◌∙◌}
use Prim.Native.Nat.{ℕ, ◌<◌, ◌≤◌}
use mathlib.Core.Bool.{false}
use mathlib.Core.List.{List, []}
use mathlib.Core.Logic.{◌↔◌}
use native.Mathlib.Omega.{arith}
use borrow.Author.Tests.{ltb-true, ltb-false, lt-ltb, le-ltb}
use lib.Dec.{ltb}
use lib.ListN.{length, get_or, set, length-set}
use Rattle.std.specs.declared.result.Result.TheVariants.{Ok, Err}
use Rattle.wire.proofs.Determined.{determined}
use Rattle.peer_key.specs.Key.{key_of, same_key, Part, Agree}
use Rattle.peer_key.specs.declared.PeerKey.{PeerKey}
use Rattle.peer_key.proofs.Promises.{two_keys}
use Rattle.per_peer_record.specs.declared.BmpPerPeerHeader.{BmpPerPeerHeader}
use Rattle.peer_up_notification.specs.declared.PeerUpNotification.{PeerUpNotification}
use Rattle.peer_down_notification.specs.declared.PeerDownNotification.{PeerDownNotification}
use Rattle.stats_report.specs.Grammar as Report
use Rattle.stats_report.specs.declared.StatsReport.{StatsReport}
use Rattle.board.specs.First.{first}
use Rattle.board.specs.Board.{number_of, Place, Peer, Answered, Updated, Looked, hits, free, find_key, place_for, free_place, used_by, silent, heard, empty_board, with_peer, with_entry, up_of, down_of, report_of, look_of, Whole, Absent, used, ZeroIfFree, Upped, Downed, Reported, LookedUp}
use Rattle.board.specs.Map.{Apart, Call, up, down, report, key_in, find, board_step, board_run, map_run, shown_of, calls_of, NeverFull}
use Rattle.board.specs.declared.Board.{Board}
use Rattle.board.specs.declared.BoardRefusal.{BoardRefusal}
use Rattle.board.specs.declared.BoardRefusal.TheVariants.{BoardFull}
use Rattle.board.proofs.Firsts.{by_test, set_found}
use Rattle.board.proofs.Entries.{peer_of, peer_aside, entry_aside, other_misses, free_misses_at, absent, absent_first, same_place, used_le, room, full}
use Rattle.board.proofs.Runs.{empty_holds, run_holds, shows_peer, by_itself, key_run}
use Rattle.board.proofs.Zero.{zero_at}

-- ---- from an empty board
-- Any calls, one after the other, are answered as a plain map of at most 64 keys answers them, and any lookup then shows what the map has.
pub as_a_map : (xs : List Call)
    → ((board_run empty_board xs).0 ≡ (map_run [] xs).0) × ((k : PeerKey) → look_of (board_run empty_board xs).1 k ≡ shown_of (find k (map_run [] xs).1))
as_a_map xs =
    let p = run_holds empty_board [] empty_holds xs in
    (p.0, λ k. shows_peer _ k p.1.places_long p.1.peers_long ∙ ap shown_of (p.1.shows k))

-- That map has no key twice, and never more than 64.
pub map_is_plain : (xs : List Call) → Apart (map_run [] xs).1 × (length (map_run [] xs).1 ≤ 64)
map_is_plain xs =
    let p = (run_holds empty_board [] empty_holds xs).1 in
    (p.apart, let n = p.size in let l = p.places_long in let u = used_le (board_run empty_board xs).1.places in omega arith)

-- Two sequences with the same calls for one key, and no refusal for want of a place in either, show the same for it, whatever the others do.
pub same_shown : (xs ys : List Call) (k : PeerKey) → calls_of k xs ≡ calls_of k ys
    → NeverFull (board_run empty_board xs).0 → NeverFull (board_run empty_board ys).0
    → look_of (board_run empty_board xs).1 k ≡ look_of (board_run empty_board ys).1 k
unfolding find
same_shown xs ys k e nx ny =
    let px = as_a_map xs in
    let py = as_a_map ys in
    px.1 k
    ∙ ap shown_of (by_itself xs [] k (rw px.0 at nx) ∙ (ap (key_run (find k [])) e ∙ sym (by_itself ys [] k (rw py.0 at ny))))
    ∙ sym (py.1 k)

-- Nothing of a peer that went stays: at a place that no peer uses, place and peer are None, which holds nothing.
pub free_is_zero : (xs : List Call) (i : ℕ)
    → ZeroIfFree (get_or (board_run empty_board xs).1.places i free_place) (get_or (board_run empty_board xs).1.peers i silent)
free_is_zero xs i = let p = (run_holds empty_board [] empty_holds xs).1 in zero_at xs i (p.places_long ∙ sym p.peers_long)

-- ---- on any board, also one that no calls have made
module _ (b : Board) (w : Whole b) where
  abbrev ps : List Place
  ps = b.places

  abbrev qs : List Peer
  qs = b.peers

  inside : (i : ℕ) → i < 64 → i < length ps
  inside i h = rw w.places_long h

  -- what a key other than that of an entry shows is what it showed before the entry was set
  stays : (other : PeerKey) (next : Board) → length next.places ≡ 64 → length next.peers ≡ 64
      → peer_of other next.places next.peers ≡ peer_of other ps qs → look_of next other ≡ look_of b other
  stays other next lp lq e = shows_peer next other lp lq ∙ ap shown_of e ∙ sym (shows_peer b other w.places_long w.peers_long)

  entry_stays : (other : PeerKey) (i : ℕ) (p : Place) → hits other (get_or ps i free_place) ≡ false → hits other p ≡ false
      → look_of (with_entry b i p silent) other ≡ look_of b other
  entry_stays other i p old new =
      stays other (with_entry b i p silent) (length-set ps i p ∙ w.places_long) (length-set qs i silent ∙ w.peers_long)
      (entry_aside other ps qs i p free_place silent old new)

  up_stays : (k other : PeerKey) → same_key k other ≡ false → look_of (up_of b k).board other ≡ look_of b other
  unfolding up_of
  up_stays k other n =
      by_test (ltb (first (hits k) ps) 64)
      (λ t.
      let h = inside (first (hits k) ps) (ltb-true (first (hits k) ps) 64 t) in
      rw t (rw t (entry_stays other (first (hits k) ps) (used_by k) (other_misses k other ps free_place n h) n)))
      (λ t.
      by_test (ltb (first free ps) 64)
      (λ f.
      let h = inside (first free ps) (ltb-true (first free ps) 64 f) in
      rw (t, f) (entry_stays other (first free ps) (used_by k) (free_misses_at other ps free_place h) n))
      (λ f. rw (t, f)))

  down_stays : (k other : PeerKey) → same_key k other ≡ false → look_of (down_of b k).board other ≡ look_of b other
  unfolding down_of
  down_stays k other n =
      by_test (ltb (first (hits k) ps) 64)
      (λ t.
      let h = inside (first (hits k) ps) (ltb-true (first (hits k) ps) 64 t) in
      rw t (entry_stays other (first (hits k) ps) free_place (other_misses k other ps free_place n h) refl))
      (λ t. rw t)

  report_stays : (k other : PeerKey) (r : StatsReport) → same_key k other ≡ false → look_of (report_of b k r).board other ≡ look_of b other
  unfolding report_of
  report_stays k other r n =
      by_test (ltb Report.places r.count) (λ c. rw c)
      (λ c.
      by_test (ltb (first (hits k) ps) 64)
      (λ t.
      let i = first (hits k) ps in
      let h = inside i (ltb-true i 64 t) in
      let v = heard (get_or qs i silent) r in
      rw (c, t)
      (stays other (with_peer b i v) w.places_long (length-set qs i v ∙ w.peers_long)
      (peer_aside other ps qs i v free_place (other_misses k other ps free_place n h))))
      (λ t. rw (c, t)))

  -- A call for one key leaves what every other key shows.
  pub others_stay : (x : Call) (other : PeerKey) → same_key (key_in x) other ≡ false → look_of (board_step b x).board other ≡ look_of b other
  others_stay (up h x) other n = up_stays (key_of h) other n
  others_stay (down h x) other n = down_stays (key_of h) other n
  others_stay (report h r) other n = report_stays (key_of h) other r n

  -- The accident: of two headers that differ in one part of the key, the distinguisher say, whatever is reported for the one, the other shows
  -- what it showed, though they agree in everything else.
  pub no_accident : (p : Part) (one other : BmpPerPeerHeader) → (Agree p one other → ⊥) → (r : StatsReport)
      → look_of (report_of b (key_of one) r).board (key_of other) ≡ look_of b (key_of other)
  no_accident p one other n r = others_stay (report one r) (key_of other) (two_keys p one other n)

  -- A freed place is used again: after a Peer Down a new key never meets a full board.
  pub freed_again : (k other : PeerKey) → (down_of b k).answered ≡ Ok tt → (up_of (down_of b k).board other).answered ≡ Ok tt
  unfolding down_of up_of
  freed_again k other z =
      let i = first (hits k) ps in
      by_test (ltb i 64)
      (λ t.
      let freed = set ps i free_place in
      let low = set_found free ps i free_place (inside i (ltb-true i 64 t)) refl in
      let h = ltb-true i 64 t in
      rw t
      (by_test (ltb (first (hits other) freed) 64) (λ u. rw u (rw u))
      (λ u. rw (u, lt-ltb (first free freed) 64 (omega arith)))))
      (λ t. let x = rw t at z in cc)

  -- BoardFull is answered exactly when the key is new and all 64 places are used.
  pub full_exactly : (k : PeerKey) → ((up_of b k).answered ≡ Err BoardFull) ↔ (Absent k ps × (used ps ≡ 64))
  unfolding up_of
  full_exactly k = (only, all)
    where
      only : (up_of b k).answered ≡ Err BoardFull → Absent k ps × (used ps ≡ 64)
      only z =
          by_test (ltb (first (hits k) ps) 64) (λ t. let x = rw t at (rw t at z) in cc)
          (λ t.
          by_test (ltb (first free ps) 64) (λ f. let x = rw (t, f) at z in cc)
          (λ f. (
            absent k ps (rw w.places_long (ltb-false (first (hits k) ps) 64 t)),
            full ps (rw w.places_long (ltb-false (first free ps) 64 f)) ∙ w.places_long,
          )))

      all : Absent k ps × (used ps ≡ 64) → (up_of b k).answered ≡ Err BoardFull
      all a =
          let none = absent_first k ps a.0 ∙ w.places_long in
          by_test (ltb (first free ps) 64)
          (λ f.
          absurd (let y : ⊥ = let z = room ps (inside (first free ps) (ltb-true (first free ps) 64 f)) in let l = w.places_long in let u = a.1 in omega arith in y))
          (λ f. rw (le-ltb (first (hits k) ps) 64 (omega arith), f))

-- A refusal leaves the board as it was.
pub refused_leaves : (b : Board) (x : Call) → ((board_step b x).answered ≡ Ok tt → ⊥) → (board_step b x).board ≡ b
unfolding up_of down_of report_of
refused_leaves b (up h x) n = by_test (ltb (place_for b.places (key_of h)) 64) (λ t. absurd (n (rw t))) (λ t. rw t)
refused_leaves b (down h x) n = by_test (ltb (find_key b.places (key_of h)) 64) (λ t. absurd (n (rw t))) (λ t. rw t)
refused_leaves b (report h r) n =
    by_test (ltb Report.places r.count) (λ c. rw c)
    (λ c. by_test (ltb (find_key b.places (key_of h)) 64) (λ t. absurd (n (rw (c, t)))) (λ t. rw (c, t)))

-- A key that comes up again keeps its place: no place changes.
pub same_places : (b : Board) (k : PeerKey) → find_key b.places k < 64 → (up_of b k).board.places ≡ b.places
unfolding up_of
same_places b k h = let t = lt-ltb (find_key b.places k) 64 h in rw t (rw t (same_place k b.places))

-- ---- any two answers that the contracts allow are equal, and so are the two boards
both : (a c : Answered) (p q : Board) → ◌≡◌ {A = Updated} (record { answered = a; board = p }) (record { answered = c; board = q }) → (a ≡ c) × (p ≡ q)
both a c p q e = (ap (λ (u : Updated). u.answered) e, ap (λ (u : Updated). u.board) e)

pub up_determined : (b : Board) (h : BmpPerPeerHeader) (x : PeerUpNotification) (n m : Answered) (c d : Board)
    → Upped b h x n c → Upped b h x m d → (n ≡ m) × (c ≡ d)
up_determined b h x n m c d p q = both n m c d (determined p q)

pub down_determined : (b : Board) (h : BmpPerPeerHeader) (x : PeerDownNotification) (n m : Answered) (c d : Board)
    → Downed b h x n c → Downed b h x m d → (n ≡ m) × (c ≡ d)
down_determined b h x n m c d p q = both n m c d (determined p q)

pub report_determined : (b : Board) (h : BmpPerPeerHeader) (r : StatsReport) (n m : Answered) (c d : Board)
    → Reported b h r n c → Reported b h r m d → (n ≡ m) × (c ≡ d)
report_determined b h r n m c d p q = both n m c d (determined p q)

pub look_determined : (b : Board) (k : PeerKey) (r q : Looked) → LookedUp b k r → LookedUp b k q → r ≡ q
look_determined b k r q = determined

pub empty_determined : (r q : Board) → r ≡ empty_board → q ≡ empty_board → r ≡ q
empty_determined r q = determined

pub number_determined : (e : BoardRefusal) (n m : ℕ) → n ≡ number_of e → m ≡ number_of e → n ≡ m
number_determined e n m = determined
