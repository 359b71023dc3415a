-- What the writer writes: the reading of a notification, by the grammar's own parts; which are writable; when two are the same.
use Rattle.std.specs.Prelude.{ℕ, ◌≡◌, Bool, false, List, []}
use Rattle.wire.specs.Bytes.{pick}
use Rattle.wire.specs.View.{inside}
use Rattle.wire.specs.declared.View.{View}
use Rattle.peer_down_notification.specs.Grammar.{Reading, join}
use Rattle.peer_down_notification.specs.Shown.{kind_of, is_present, view_of, data_of}
use Rattle.peer_down_notification.specs.Read.{has_data}
use Rattle.peer_down_notification.specs.declared.PeerDownNotification.{PeerDownNotification}

abbrev pub reading_of : PeerDownNotification → List ℕ → Reading
reading_of m b = record { reason = kind_of m.reason; data_part = data_of b m.«data»; tail = [] }

abbrev pub bytes_of : PeerDownNotification → List ℕ → List ℕ
bytes_of m b = join (reading_of m b)

-- data is there exactly where its reason gives data of that length, and its view lies inside the buffer
unfoldable pub parts_writable : ℕ → Bool → View → ℕ → Bool
parts_writable kind there v room =
    pick there (pick (has_data kind v.length) (inside room v) false) (pick (has_data kind v.length) false (inside room v))

abbrev pub writable : PeerDownNotification → ℕ → Bool
writable m room = parts_writable (kind_of m.reason) (is_present m.«data») (view_of m.«data») room

-- two notifications are the same: the reason, whether there is data, and the bytes that its view shows, each in its own buffer
pub record Same (m : PeerDownNotification) (b : List ℕ) (n : PeerDownNotification) (s : List ℕ) : Type 0 where
  pub reason_same : m.reason ≡ n.reason
  pub data_same : data_of b m.«data» ≡ data_of s n.«data»
