-- What each call answers and makes of a board, whatever board it is given: one that holds a key twice goes by the first.
use Rattle.std.specs.Prelude.{ℕ, suc, Bool, true, false, List, [], ◌∷◌, ◌≡◌, ltb, length, get_or, set, replicate, Option, Some, None, Result, Ok, Err}
use Rattle.wire.specs.Bytes.{pick}
use Rattle.wire.specs.Number as Number
use Rattle.per_peer_record.specs.declared.BmpPerPeerHeader.{BmpPerPeerHeader}
use Rattle.peer_key.specs.Key.{key_of, same_key}
use Rattle.peer_key.specs.declared.PeerKey.{PeerKey}
use Rattle.peer_up_notification.specs.declared.PeerUpNotification.{PeerUpNotification}
use Rattle.peer_down_notification.specs.declared.PeerDownNotification.{PeerDownNotification}
use Rattle.stats_report.specs.Grammar as Report
use Rattle.stats_report.specs.declared.StatsReport.{StatsReport}
use Rattle.kept_report.specs.Kept.{kept_report}
use Rattle.kept_report.specs.declared.KeptReport.{KeptReport}
use Rattle.board.specs.First.{first}
use Rattle.board.specs.declared.Board.{Board}
use Rattle.board.specs.declared.BoardRefusal.{BoardRefusal}
use Rattle.board.specs.declared.BoardRefusal.TheVariants.{BadField, BoardFull, NoPeer}

abbrev pub peer_places : ℕ
peer_places = 64

-- ---- entries: a place and what is known of its peer
-- the key that uses the place, where one does
abbrev pub Place : Type 0
Place = Option PeerKey

abbrev pub free_place : Place
free_place = None

abbrev pub used_by : PeerKey → Place
used_by k = Some k

-- the last report of a peer, where it has reported
abbrev pub Peer : Type 0
Peer = Option KeptReport

-- a peer with no report yet; also what stands at a free place
abbrev pub silent : Peer
silent = None

-- what is known of a peer after a report, from what was known before: the report alone
abbrev pub heard : Peer → StatsReport → Peer
heard peer r = Some (kept_report r)

unfoldable pub empty_board : Board
empty_board = record { places = replicate peer_places free_place; peers = replicate peer_places silent }

-- ---- where a key stands
abbrev pub hits : PeerKey → Place → Bool
hits k None = false
hits k (Some own) = same_key own k

abbrev pub free : Place → Bool
free None = true
free (Some own) = false

-- the first place that the key uses
abbrev pub find_key : List Place → PeerKey → ℕ
find_key ps k = first (hits k) ps

-- the lowest free place
abbrev pub find_free : List Place → ℕ
find_free ps = first free ps

-- where a key that comes up stands: where it stood, or else at the lowest free place
abbrev pub place_for : List Place → PeerKey → ℕ
place_for ps k = pick (ltb (find_key ps k) peer_places) (find_key ps k) (find_free ps)

-- a place that was found, or none
abbrev pub place_at : ℕ → Option ℕ
place_at i = pick (ltb i peer_places) (Some i) None

-- ---- what a call makes of a board
abbrev pub with_peer : Board → ℕ → Peer → Board
with_peer b i q = record { places = b.places; peers = set b.peers i q }

abbrev pub with_entry : Board → ℕ → Place → Peer → Board
with_entry b i p q = record { places = set b.places i p; peers = set b.peers i q }

-- what a call is answered: that it was done, or why it was refused; and the board after it
abbrev pub Answered : Type 0
Answered = Result (Unit {0}) BoardRefusal

pub record Updated : Type 0 where
  pub answered : Answered
  pub board : Board

abbrev pub done : Board → Updated
done b = record { answered = Ok tt; board = b }

abbrev pub refused : BoardRefusal → Board → Updated
refused r b = record { answered = Err r; board = b }

-- a Peer Up enters the peer or replaces it, with no report
unfoldable pub up_of : Board → PeerKey → Updated
up_of b k =
    let i : ℕ = place_for b.places k in
    pick (ltb i peer_places) (done (with_entry b i (used_by k) silent)) (refused BoardFull b)

-- a Peer Down removes it, and leaves an entry with nothing in it
unfoldable pub down_of : Board → PeerKey → Updated
down_of b k =
    let i : ℕ = find_key b.places k in
    pick (ltb i peer_places) (done (with_entry b i free_place silent)) (refused NoPeer b)

-- a Statistics Report is the last one from now on
unfoldable pub report_of : Board → PeerKey → StatsReport → Updated
report_of b k r =
    let i : ℕ = find_key b.places k in
    pick (ltb Report.places r.count) (refused BadField b)
    (pick (ltb i peer_places) (done (with_peer b i (heard (get_or b.peers i silent) r))) (refused NoPeer b))

-- a lookup: the peer that the key stands for
abbrev pub Looked : Type 0
Looked = Result Peer BoardRefusal

unfoldable pub look_of : Board → PeerKey → Looked
look_of b k =
    let i : ℕ = find_key b.places k in
    pick (ltb i peer_places) (Ok (get_or b.peers i silent)) (Err NoPeer)

-- ---- what the promises speak of
-- a board as the type has it: 64 places, and a peer for each
pub record Whole (b : Board) : Type 0 where
  pub places_long : length b.places ≡ peer_places
  pub peers_long : length b.peers ≡ peer_places

-- no place is the key's
unfoldable pub Absent : PeerKey → List Place → Type 0
Absent k [] = Unit {0}
Absent k (p ∷ ps) = (hits k p ≡ false) × Absent k ps

-- how many places are used
unfoldable pub used : List Place → ℕ
used [] = 0
used (p ∷ ps) = pick (free p) (used ps) (suc (used ps))

-- an entry that no peer uses has nothing of any
abbrev pub ZeroIfFree : Place → Peer → Type 0
ZeroIfFree p q = free p ≡ true → (p ≡ free_place) × (q ≡ silent)

-- ---- the contracts: what a call is answered and the board after it, by the header alone and, of a report, its counters
abbrev pub Upped : Board → BmpPerPeerHeader → PeerUpNotification → Answered → Board → Type 0
Upped b h x a after = record { answered = a; board = after } ≡ up_of b (key_of h)

abbrev pub Downed : Board → BmpPerPeerHeader → PeerDownNotification → Answered → Board → Type 0
Downed b h x a after = record { answered = a; board = after } ≡ down_of b (key_of h)

abbrev pub Reported : Board → BmpPerPeerHeader → StatsReport → Answered → Board → Type 0
Reported b h r a after = record { answered = a; board = after } ≡ report_of b (key_of h) r

abbrev pub LookedUp : Board → PeerKey → Looked → Type 0
LookedUp b k r = r ≡ look_of b k

-- a call that takes a board by value and hands one back, or none where it is refused: what it is answered, and the board after it,
-- which is then the one that the caller has
abbrev pub answered : Result Board BoardRefusal → Answered
answered (Ok next) = Ok tt
answered (Err r) = Err r

abbrev pub after : Board → Result Board BoardRefusal → Board
after b (Ok next) = next
after b (Err r) = b

-- the number of a refusal
abbrev pub number_of : BoardRefusal → ℕ
number_of BadField = Number.BadField
number_of BoardFull = Number.BoardFull
number_of NoPeer = Number.NoPeer
