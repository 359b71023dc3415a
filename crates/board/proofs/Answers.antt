-- What each call answers, by the place that was found for it. Assumes nothing.
use mathlib.Core.Path.{◌≡◌, refl}
use Prim.Native.Nat.{ℕ}
use mathlib.Core.Bool.{Bool, true, false}
use lib.Dec.{ltb}
use lib.ListN.{get_or}
use Rattle.std.specs.declared.option.Option.{Option}
use Rattle.std.specs.declared.option.Option.TheVariants.{Some, None}
use Rattle.std.specs.declared.result.Result.{Result}
use Rattle.std.specs.declared.result.Result.TheVariants.{Ok, Err}
use Rattle.std.specs.Prelude.{ok_or}
use Rattle.wire.specs.Bytes.{pick}
use Rattle.peer_key.specs.declared.PeerKey.{PeerKey}
use Rattle.stats_report.specs.Grammar as Report
use Rattle.stats_report.specs.declared.StatsReport.{StatsReport}
use Rattle.board.specs.Board.{Looked, silent, heard, free_place, used_by, find_key, place_for, place_at, with_peer, with_entry, done, refused, up_of, down_of, report_of, look_of}
use Rattle.board.specs.declared.Board.{Board}
use Rattle.board.specs.declared.BoardRefusal.{BoardRefusal}
use Rattle.board.specs.declared.BoardRefusal.TheVariants.{BoardFull, NoPeer}

-- a place that is asked for: it is there, or the call is refused
module _ (i : ℕ) (e : BoardRefusal) {x : Option ℕ} {y : Result ℕ BoardRefusal} (x_is : x ≡ place_at i) (y_is : y ≡ ok_or x e) where
  pub there : {at : ℕ} → y ≡ Ok at → (ltb i 64 ≡ true) × (at ≡ i)
  there {at} was = go (ltb i 64) refl x_is
    where
      go : (b : Bool) → ltb i 64 ≡ b → x ≡ pick b (Some i) None → (ltb i 64 ≡ true) × (at ≡ i)
      go true t p = (t, cc)
      go false t p = let z : ◌≡◌ {A = Result ℕ BoardRefusal} (Ok at) (Err e) = cc in (cc, cc)

  pub missing : {r : BoardRefusal} → y ≡ Err r → (ltb i 64 ≡ false) × (r ≡ e)
  missing {r} was = go (ltb i 64) refl x_is
    where
      go : (b : Bool) → ltb i 64 ≡ b → x ≡ pick b (Some i) None → (ltb i 64 ≡ false) × (r ≡ e)
      go true t p = let z : ◌≡◌ {A = Result ℕ BoardRefusal} (Err r) (Ok i) = cc in (cc, cc)
      go false t p = (t, cc)

module _ (b : Board) (k own : PeerKey) (own_is : k ≡ own) {x : Option ℕ} {y : Result ℕ BoardRefusal} where
  -- ---- a Peer Up
  module _ (x_is : x ≡ place_at (place_for b.places k)) (y_is : y ≡ ok_or x BoardFull) where
    pub up_done : {at : ℕ} → y ≡ Ok at → done (with_entry b at (used_by k) silent) ≡ up_of b own
    unfolding up_of
    up_done was = let w = there _ _ x_is y_is was in rw (w.1, ← own_is, w.0)

    pub up_refused : {r : BoardRefusal} → y ≡ Err r → refused r b ≡ up_of b own
    unfolding up_of
    up_refused was = let w = missing _ _ x_is y_is was in rw (w.1, ← own_is, w.0)

  module _ (x_is : x ≡ place_at (find_key b.places k)) (y_is : y ≡ ok_or x NoPeer) where
    -- ---- a Peer Down
    pub down_done : {at : ℕ} → y ≡ Ok at → done (with_entry b at free_place silent) ≡ down_of b own
    unfolding down_of
    down_done was = let w = there _ _ x_is y_is was in rw (w.1, ← own_is, w.0)

    pub down_refused : {r : BoardRefusal} → y ≡ Err r → refused r b ≡ down_of b own
    unfolding down_of
    down_refused was = let w = missing _ _ x_is y_is was in rw (w.1, ← own_is, w.0)

    -- ---- a report
    module _ (r : StatsReport) (counted : ltb Report.places r.count ≡ false) where
      pub report_done : {at : ℕ} → y ≡ Ok at → done (with_peer b at (heard silent r)) ≡ report_of b own r
      unfolding report_of
      report_done was = let w = there _ _ x_is y_is was in rw (w.1, ← own_is, counted, w.0)

      pub report_refused : {e : BoardRefusal} → y ≡ Err e → refused e b ≡ report_of b own r
      unfolding report_of
      report_refused was = let w = missing _ _ x_is y_is was in rw (w.1, ← own_is, counted, w.0)

-- ---- a lookup
module _ (b : Board) (k : PeerKey) {x : Option ℕ} {y : Result ℕ BoardRefusal} (x_is : x ≡ place_at (find_key b.places k)) (y_is : y ≡ ok_or x NoPeer) where
  pub look_found : {at : ℕ} → y ≡ Ok at → ◌≡◌ {A = Looked} (Ok (get_or b.peers at silent)) (look_of b k)
  unfolding look_of
  look_found was = let w = there _ _ x_is y_is was in rw (w.1, w.0)

  pub look_absent : {r : BoardRefusal} → y ≡ Err r → ◌≡◌ {A = Looked} (Err r) (look_of b k)
  unfolding look_of
  look_absent was = let w = missing _ _ x_is y_is was in rw (w.1, w.0)
