-- A plain map of at most 64 keys, as a list of keys with what is known of each and without places; what it answers to each call; and
-- calls one after the other, on a map and on a board.
use Rattle.std.specs.Prelude.{Bool, true, false, List, [], ◌∷◌, ◌≡◌, ltb, length, Option, Some, None, Ok, Err}
use Rattle.wire.specs.Bytes.{pick}
use Rattle.per_peer_record.specs.declared.BmpPerPeerHeader.{BmpPerPeerHeader}
use Rattle.peer_key.specs.Key.{key_of, same_key}
use Rattle.peer_key.specs.declared.PeerKey.{PeerKey}
use Rattle.peer_up_notification.specs.declared.PeerUpNotification.{PeerUpNotification}
use Rattle.peer_down_notification.specs.declared.PeerDownNotification.{PeerDownNotification}
use Rattle.stats_report.specs.Grammar as Report
use Rattle.stats_report.specs.declared.StatsReport.{StatsReport}
use Rattle.board.specs.Board.{Peer, Answered, Updated, Looked, peer_places, silent, heard, up_of, down_of, report_of}
use Rattle.board.specs.declared.Board.{Board}
use Rattle.board.specs.declared.BoardRefusal.TheVariants.{BadField, BoardFull, NoPeer}

-- ---- the map
abbrev pub Map : Type 0
Map = List (PeerKey × Peer)

unfoldable pub find : PeerKey → Map → Option Peer
find k [] = None
find k (e ∷ m) = pick (same_key e.0 k) (Some e.1) (find k m)

unfoldable pub without : PeerKey → Map → Map
without k [] = []
without k (e ∷ m) = pick (same_key e.0 k) (without k m) (e ∷ without k m)

abbrev pub put : PeerKey → Peer → Map → Map
put k q m = (k, q) ∷ without k m

-- no key twice
unfoldable pub Apart : Map → Type 0
Apart [] = Unit {0}
Apart (e ∷ m) = (find e.0 m ≡ None) × Apart m

abbrev pub has : Option Peer → Bool
has None = false
has (Some q) = true

-- ---- the calls, each with the header and the body that it takes
pub data Call : Type 0 where
  up : BmpPerPeerHeader → PeerUpNotification → Call
  down : BmpPerPeerHeader → PeerDownNotification → Call
  report : BmpPerPeerHeader → StatsReport → Call

abbrev pub key_in : Call → PeerKey
key_in (up h x) = key_of h
key_in (down h x) = key_of h
key_in (report h r) = key_of h

-- a report for a key that the map has, or has not
abbrev pub map_reported : PeerKey → StatsReport → Map → Option Peer → Answered × Map
map_reported k r m None = (Err NoPeer, m)
map_reported k r m (Some q) = (Ok tt, put k (heard q r) m)

-- what a call is answered, and the map after it
abbrev pub map_step : Map → Call → Answered × Map
map_step m (up h x) =
    pick (has (find (key_of h) m)) (Ok tt, put (key_of h) silent m)
    (pick (ltb (length m) peer_places) (Ok tt, put (key_of h) silent m) (Err BoardFull, m))
map_step m (down h x) = pick (has (find (key_of h) m)) (Ok tt, without (key_of h) m) (Err NoPeer, m)
map_step m (report h r) =
    pick (ltb Report.places r.count) (Err BadField, m) (map_reported (key_of h) r m (find (key_of h) m))

abbrev pub board_step : Board → Call → Updated
board_step b (up h x) = up_of b (key_of h)
board_step b (down h x) = down_of b (key_of h)
board_step b (report h r) = report_of b (key_of h) r

-- what a lookup shows of what is known of a key
abbrev pub shown_of : Option Peer → Looked
shown_of None = Err NoPeer
shown_of (Some q) = Ok q

-- ---- calls one after the other: what they are answered, and what there is after the last
abbrev pub map_run : Map → List Call → List Answered × Map
map_run m [] = ([], m)
map_run m (x ∷ xs) = ((map_step m x).0 ∷ (map_run (map_step m x).1 xs).0, (map_run (map_step m x).1 xs).1)

abbrev pub board_run : Board → List Call → List Answered × Board
board_run b [] = ([], b)
board_run b (x ∷ xs) = ((board_step b x).answered ∷ (board_run (board_step b x).board xs).0, (board_run (board_step b x).board xs).1)

-- ---- one key by itself
-- the calls for a key, in order
abbrev pub calls_of : PeerKey → List Call → List Call
calls_of k [] = []
calls_of k (x ∷ xs) = pick (same_key (key_in x) k) (x ∷ calls_of k xs) (calls_of k xs)

-- no call was refused for want of a place
abbrev pub NeverFull : List Answered → Type 0
NeverFull [] = Unit {0}
NeverFull (a ∷ l) = (a ≡ Err BoardFull → ⊥) × NeverFull l
