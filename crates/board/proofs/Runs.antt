-- A board that began empty holds what the plain map does after each call, and what a key shows goes by the calls for it alone. Assumes
-- nothing.
use mathlib.Core.Path.{◌≡◌, refl, sym, ap, ◌∙◌}
use Prim.Native.Nat.{ℕ, zero, suc, ◌≤◌, ◌<◌}
use mathlib.Core.Bool.{true, false}
use mathlib.Core.List.{List, [], ◌∷◌}
use Rattle.std.specs.declared.option.Option.{Option}
use Rattle.std.specs.declared.option.Option.TheVariants.{Some, None}
use native.Mathlib.Omega.{arith}
use borrow.Author.Tests.{ltb-true, ltb-false, lt-ltb, le-ltb}
use lib.Dec.{ltb}
use lib.ListN.{length, get_or, set, replicate, length-set, length-replicate}
use Rattle.std.specs.declared.result.Result.TheVariants.{Err}
use Rattle.wire.specs.Bytes.{pick}
use Rattle.peer_key.specs.Key.{key_of, same_key}
use Rattle.peer_key.specs.declared.PeerKey.{PeerKey}
use Rattle.peer_key.proofs.Equality.{keys_equal}
use Rattle.per_peer_record.specs.declared.BmpPerPeerHeader.{BmpPerPeerHeader}
use Rattle.peer_up_notification.specs.declared.PeerUpNotification.{PeerUpNotification}
use Rattle.peer_down_notification.specs.declared.PeerDownNotification.{PeerDownNotification}
use Rattle.stats_report.specs.Grammar as Report
use Rattle.stats_report.specs.declared.StatsReport.{StatsReport}
use Rattle.board.specs.First.{first}
use Rattle.board.specs.Board.{Place, Peer, hits, free, used, Absent, free_place, used_by, silent, heard, empty_board, with_peer, with_entry, up_of, down_of, report_of, look_of}
use Rattle.board.specs.Map.{Map, find, without, put, Apart, has, Call, up, down, report, key_in, map_step, map_reported, board_step, shown_of, map_run, board_run, calls_of, NeverFull}
use Rattle.board.specs.declared.Board.{Board}
use Rattle.board.specs.declared.BoardRefusal.TheVariants.{BoardFull}
use Rattle.board.proofs.Firsts.{by_test}
use Rattle.board.proofs.Entries.{never, peer_of, Once, peer_aside, entry_aside, other_misses, free_misses_at, absent, absent_shows, present_shows, set_shows, same_place, new_shows, gone_absent, new_once, gone_once, room, full, new_used, gone_used}
use Rattle.board.proofs.Maps.{find_without, find_put, length_without, length_new, apart_put, apart_without, not_there}

-- the board holds what the map does
pub record Holds (b : Board) (m : Map) : Type 0 where
  pub shows : (k : PeerKey) → peer_of k b.places b.peers ≡ find k m
  pub size : used b.places ≡ length m
  pub once : Once b.places
  pub apart : Apart m
  pub places_long : length b.places ≡ 64
  pub peers_long : length b.peers ≡ 64

-- what a key shows after a call for k, from what k shows and what another does
told_by : (k other : PeerKey) (now before own : Option Peer) → (same_key k other ≡ true → now ≡ own) → (same_key k other ≡ false → now ≡ before)
    → now ≡ pick (same_key k other) own before
told_by k other now before own same differ = by_test (same_key k other) (λ t. rw t (same t)) (λ t. rw t (differ t))

module _ (b : Board) (m : Map) (s : Holds b m) where
  abbrev ps : List Place
  ps = b.places

  abbrev qs : List Peer
  qs = b.peers

  abbrev at : PeerKey → ℕ
  at k = first (hits k) ps

  alike : length ps ≡ length qs
  alike = s.places_long ∙ sym s.peers_long

  inside : (i : ℕ) → i < 64 → i < length ps
  inside i h = rw s.places_long h

  -- where the key stands, the map has it, and where it does not, the map does not
  found : (k : PeerKey) → at k < 64 → find k m ≡ Some (get_or qs (at k) silent)
  found k h = sym (s.shows k) ∙ present_shows k ps qs silent alike (inside (at k) h)

  here : (k : PeerKey) → at k < 64 → has (find k m) ≡ true
  here k h = rw (found k h)

  nowhere : (k : PeerKey) → 64 ≤ at k → Absent k ps
  nowhere k h = absent k ps (rw s.places_long h)

  not_found : (k : PeerKey) → 64 ≤ at k → find k m ≡ None
  not_found k h = sym (s.shows k) ∙ absent_shows k ps qs (nowhere k h)

  not_here : (k : PeerKey) → 64 ≤ at k → has (find k m) ≡ false
  not_here k h = rw (not_found k h)

  abbrev Steps : Call → Type 0
  Steps x = ((board_step b x).answered ≡ (map_step m x).0) × Holds (board_step b x).board (map_step m x).1

  -- the peer is set where the key stands
  set_here : (k : PeerKey) (v : Peer) → at k < 64 → Holds (with_peer b (at k) v) (put k v m)
  set_here k v h =
      let fewer = length_without k m s.apart (here k h) in
      let z = s.size in
      record {
        shows = λ other.
            told_by k other (peer_of other ps (set qs (at k) v)) (find other m) (Some v)
            (λ t. rw (← keys_equal k other t) (set_shows k ps qs v alike (inside (at k) h)))
            (λ t. peer_aside other ps qs (at k) v free_place (other_misses k other ps free_place t (inside (at k) h)) ∙ s.shows other)
            ∙ sym (find_put k other v m);
        size = omega arith;
        once = s.once;
        apart = apart_put k v m s.apart;
        places_long = s.places_long;
        peers_long = length-set qs (at k) v ∙ s.peers_long;
      }

  enter_new : (k : PeerKey) → 64 ≤ at k → first free ps < 64 → Holds (with_entry b (first free ps) (used_by k) silent) (put k silent m)
  enter_new k h j =
      let as_many = length_new k m (not_found k h) in
      let more = new_used k ps (inside (first free ps) j) in
      let z = s.size in
      record {
        shows = λ other.
            told_by k other (peer_of other (set ps (first free ps) (used_by k)) (set qs (first free ps) silent)) (find other m) (Some silent)
            (λ t. rw (← keys_equal k other t) (new_shows k ps qs (first free ps) silent alike (inside (first free ps) j) (nowhere k h)))
            (λ t. entry_aside other ps qs (first free ps) (used_by k) free_place silent (free_misses_at other ps free_place (inside (first free ps) j)) t ∙ s.shows other)
            ∙ sym (find_put k other silent m);
        size = omega arith;
        once = new_once k ps (first free ps) (nowhere k h) s.once;
        apart = apart_put k silent m s.apart;
        places_long = length-set ps (first free ps) (used_by k) ∙ s.places_long;
        peers_long = length-set qs (first free ps) silent ∙ s.peers_long;
      }

  take_away : (k : PeerKey) → at k < 64 → Holds (with_entry b (at k) free_place silent) (without k m)
  take_away k h =
      let fewer = length_without k m s.apart (here k h) in
      let less = gone_used k ps (inside (at k) h) in
      let z = s.size in
      record {
        shows = λ other.
            told_by k other (peer_of other (set ps (at k) free_place) (set qs (at k) silent)) (find other m) None
            (λ t. rw (← keys_equal k other t) (absent_shows k (set ps (at k) free_place) (set qs (at k) silent) (gone_absent k ps s.once)))
            (λ t. entry_aside other ps qs (at k) free_place free_place silent (other_misses k other ps free_place t (inside (at k) h)) refl ∙ s.shows other)
            ∙ sym (find_without k other m);
        size = omega arith;
        once = gone_once ps (at k) s.once;
        apart = apart_without k m s.apart;
        places_long = length-set ps (at k) free_place ∙ s.places_long;
        peers_long = length-set qs (at k) silent ∙ s.peers_long;
      }

  up_step : (h : BmpPerPeerHeader) (x : PeerUpNotification) → Steps (up h x)
  unfolding up_of
  up_step h x =
      let k = key_of h in
      by_test (ltb (at k) 64)
      (λ t.
      let i = ltb-true (at k) 64 t in
      rw (t, here k i) (rw t (refl, rw (same_place k ps) (set_here k silent i))))
      (λ t.
      let n = ltb-false (at k) 64 t in
      let z = s.size in
      let l = s.places_long in
      by_test (ltb (first free ps) 64)
      (λ f.
      let j = ltb-true (first free ps) 64 f in
      let r : ltb (length m) 64 ≡ true = lt-ltb (length m) 64 (let y = room ps (inside (first free ps) j) in omega arith) in
      rw (t, f, not_here k n, r) (refl, enter_new k n j))
      (λ f.
      let y = full ps (rw s.places_long (ltb-false (first free ps) 64 f)) in
      let r : ltb (length m) 64 ≡ false = le-ltb (length m) 64 (omega arith) in
      rw (t, f, not_here k n, r) (refl, s)))

  down_step : (h : BmpPerPeerHeader) (x : PeerDownNotification) → Steps (down h x)
  unfolding down_of
  down_step h x =
      let k = key_of h in
      by_test (ltb (at k) 64) (λ t. let i = ltb-true (at k) 64 t in rw (t, here k i) (refl, take_away k i))
      (λ t. rw (t, not_here k (ltb-false (at k) 64 t)) (refl, s))

  report_step : (h : BmpPerPeerHeader) (r : StatsReport) → Steps (report h r)
  unfolding report_of
  report_step h r =
      let k = key_of h in
      by_test (ltb Report.places r.count) (λ c. rw c (refl, s))
      (λ c.
      by_test (ltb (at k) 64)
      (λ t.
      let i = ltb-true (at k) 64 t in
      rw (c, t, found k i) (refl, set_here k (heard (get_or qs (at k) silent) r) i))
      (λ t. rw (c, t, not_found k (ltb-false (at k) 64 t)) (refl, s)))

  pub step_holds : (x : Call) → Steps x
  step_holds (up h x) = up_step h x
  step_holds (down h x) = down_step h x
  step_holds (report h r) = report_step h r

-- a lookup shows what stands for the key
pub shows_peer : (b : Board) (k : PeerKey) → length b.places ≡ 64 → length b.peers ≡ 64 → look_of b k ≡ shown_of (peer_of k b.places b.peers)
unfolding look_of
shows_peer b k lp lq =
    by_test (ltb (first (hits k) b.places) 64)
    (λ t. rw (t, present_shows k b.places b.peers silent (lp ∙ sym lq) (rw lp (ltb-true (first (hits k) b.places) 64 t))))
    (λ t. rw (t, absent_shows k b.places b.peers (absent k b.places (rw lp (ltb-false (first (hits k) b.places) 64 t)))))

-- ---- the empty board
no_one : (n : ℕ) (k : PeerKey) → Absent k (replicate n free_place)
unfolding Absent
no_one zero k = tt
no_one (suc n) k = (refl, no_one n k)

none_twice : (n : ℕ) → Once (replicate n free_place)
unfolding Once
none_twice zero = tt
none_twice (suc n) = ((λ k e. never (sym e)), none_twice n)

none_used : (n : ℕ) → used (replicate n free_place) ≡ 0
unfolding used
none_used zero = refl
none_used (suc n) = none_used n

pub empty_holds : Holds empty_board []
unfolding empty_board find Apart
empty_holds = record {
  shows = λ k. absent_shows k (replicate 64 free_place) (replicate 64 silent) (no_one 64 k);
  size = none_used 64;
  once = none_twice 64;
  apart = tt;
  places_long = length-replicate 64 free_place;
  peers_long = length-replicate 64 silent;
}

pub run_holds : (b : Board) (m : Map) → Holds b m → (xs : List Call) → ((board_run b xs).0 ≡ (map_run m xs).0) × Holds (board_run b xs).1 (map_run m xs).1
run_holds b m s [] = (refl, s)
run_holds b m s (x ∷ xs) =
    let p = step_holds b m s x in
    let q = run_holds (board_step b x).board (map_step m x).1 p.1 xs in
    ((λ i. p.0 i ∷ q.0 i), q.1)

-- ---- one key by itself
abbrev reported : StatsReport → Option Peer → Option Peer
reported r None = None
reported r (Some q) = Some (heard q r)

abbrev key_step : Option Peer → Call → Option Peer
key_step o (up h x) = Some silent
key_step o (down h x) = None
key_step o (report h r) = pick (ltb Report.places r.count) o (reported r o)

abbrev pub key_run : Option Peer → List Call → Option Peer
key_run o [] = o
key_run o (x ∷ xs) = key_run (key_step o x) xs

report_own : (m : Map) (k own : PeerKey) (r : StatsReport) (o : Option Peer) → find own m ≡ o
    → find k (map_reported own r m o).1 ≡ pick (same_key own k) (reported r (find k m)) (find k m)
report_own m k own r None e =
    by_test (same_key own k) (λ t. rw t (let z : find k m ≡ None = rw (← keys_equal own k t) e in rw z)) (λ t. rw t)
report_own m k own r (Some q) e =
    find_put own k (heard q r) m
    ∙ by_test (same_key own k) (λ t. rw t (let z : find k m ≡ Some q = rw (← keys_equal own k t) e in rw z)) (λ t. rw t)

own_step : (m : Map) (k : PeerKey) (x : Call) → ((map_step m x).0 ≡ Err BoardFull → ⊥)
    → find k (map_step m x).1 ≡ pick (same_key (key_in x) k) (key_step (find k m) x) (find k m)
own_step m k (up h x) n =
    by_test (has (find (key_of h) m)) (λ t. rw t (find_put (key_of h) k silent m))
    (λ t.
    by_test (ltb (length m) 64) (λ u. rw (t, u) (find_put (key_of h) k silent m)) (λ u. absurd (n (rw (t, u)))))
own_step m k (down h x) n =
    by_test (has (find (key_of h) m)) (λ t. rw t (find_without (key_of h) k m))
    (λ t.
    rw t
    (by_test (same_key (key_of h) k) (λ e. rw e (rw (← keys_equal (key_of h) k e) (not_there (find (key_of h) m) t))) (λ e. rw e)))
own_step m k (report h r) n =
    by_test (ltb Report.places r.count) (λ t. rw t (by_test (same_key (key_of h) k) (λ e. rw e) (λ e. rw e)))
    (λ t. rw t (report_own m k (key_of h) r (find (key_of h) m) refl))

pub by_itself : (xs : List Call) (m : Map) (k : PeerKey) → NeverFull (map_run m xs).0 → find k (map_run m xs).1 ≡ key_run (find k m) (calls_of k xs)
by_itself [] m k n = refl
by_itself (x ∷ xs) m k n =
    let o = own_step m k x n.0 in
    by_itself xs (map_step m x).1 k n.1
    ∙ by_test (same_key (key_in x) k)
    (λ e. rw e (ap (λ (z : Option Peer). key_run z (calls_of k xs)) (rw e at o)))
    (λ e. rw e (ap (λ (z : Option Peer). key_run z (calls_of k xs)) (rw e at o)))
