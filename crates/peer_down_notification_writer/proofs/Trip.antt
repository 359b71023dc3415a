-- A notification that was written and is read again, and the converse. Assumes nothing.
use mathlib.Core.Path.{◌≡◌, refl, sym, ap, ◌∙◌}
use mathlib.Core.Bool.{true}
use mathlib.Core.List.{List, [], ◌∷◌, ◌++◌, append-nil}
use Prim.Native.Nat.{ℕ, ◌+◌, ◌≤◌}
use native.Mathlib.Omega.{arith}
use borrow.Author.Tests.{leb-true}
use lib.ListN.{length, length-append}
use Rattle.std.specs.declared.option.Option.{Option}
use Rattle.std.specs.declared.option.Option.TheVariants.{Some, None}
use Rattle.wire.specs.declared.View.{View}
use Rattle.wire.specs.Number as Number
use Rattle.wire.specs.Bytes.{be, Bytes, none}
use Rattle.wire.specs.View.{no_view, inside, viewed}
use Rattle.wire.proofs.Views.{inside_is, bytes_viewed}
use Rattle.writing.proofs.Tests.{both, past}
use Rattle.writing.proofs.Tlv.{view_long}
use Rattle.peer_down_notification.specs.Grammar.{Data, absent, present, data_bytes, Follows, Good}
use Rattle.peer_down_notification.specs.Shown.{reason_of, kind_of, stop_after, refusal_of, stop_of, notification_of, is_present, view_of, data_of}
use Rattle.peer_down_notification.specs.Read.{has_data, read_peer_down}
use Rattle.peer_down_notification_writer.specs.Write.{reading_of, parts_writable, writable, Same}
use Rattle.peer_down_notification.specs.declared.PeerDownReason.{PeerDownReason}
use Rattle.peer_down_notification.specs.declared.PeerDownReason.TheVariants.{Reserved, LocalSystemClosedNotificationPduFollows, LocalSystemClosedFsmEvenFollows, RemoteSystemClosedNotificationPduFollows, RemoteSystemsClosedNoData, PeerDeConfigured, LocalSystemClosedTlvDataFollows}
use Rattle.peer_down_notification.specs.declared.PeerDownNotification.{PeerDownNotification}
use Rattle.peer_down_notification.proofs.Laws.{test_of, with_data, without_data}

-- ---- reasons and their numbers
pub reason_back : (t : PeerDownReason) → (reason_of (kind_of t) ≡ t) × (kind_of t ≤ 6)
unfolding reason_of kind_of
reason_back Reserved = (refl, omega arith)
reason_back LocalSystemClosedNotificationPduFollows = (refl, omega arith)
reason_back LocalSystemClosedFsmEvenFollows = (refl, omega arith)
reason_back RemoteSystemClosedNotificationPduFollows = (refl, omega arith)
reason_back RemoteSystemsClosedNoData = (refl, omega arith)
reason_back PeerDeConfigured = (refl, omega arith)
reason_back LocalSystemClosedTlvDataFollows = (refl, omega arith)

-- ---- what `parts_writable` asks
pub record Fine (k : ℕ) (d : Option View) (room : ℕ) : Type 0 where
  pub given : has_data k (view_of d).length ≡ is_present d
  pub within : (view_of d).place + (view_of d).length ≤ room

pub fine_of : (k : ℕ) (d : Option View) (room : ℕ) → parts_writable k (is_present d) (view_of d) room ≡ true → Fine k d room
unfolding parts_writable
fine_of k None room e = record { given = (past (has_data k 0) (inside room no_view) e).0; within = omega arith }
fine_of k (Some v) room e =
    let h = both (has_data k v.length) (inside room v) e in
    record { given = h.0; within = leb-true (v.place + v.length) room h.1 }

pub fine_from : (k : ℕ) (d : Option View) (room : ℕ) → Fine k d room → parts_writable k (is_present d) (view_of d) room ≡ true
unfolding parts_writable
fine_from k None room f = rw f.given (inside_is room (no_view) f.within)
fine_from k (Some v) room f = rw f.given (inside_is room v f.within)

-- ---- a writable notification's reading is good
follows_of : (b : List ℕ) (k : ℕ) (d : Option View) → k ≤ 6 → Fine k d (length b) → Follows k (data_of b d) []
follows_of b k None h f = without_data k h [] f.given
follows_of b k (Some v) h f = with_data k h (viewed b v) (rw (view_long b v f.within) f.given)

pub bytes_data : (b : List ℕ) → Bytes b → (d : Option View) → Bytes (data_bytes (data_of b d))
bytes_data b p None = none
bytes_data b p (Some v) = bytes_viewed b v p

pub good_of : (m : PeerDownNotification) (b : List ℕ) → Bytes b → writable m (length b) ≡ true → Good (reading_of m b)
good_of m b p e =
    record {
      follows = follows_of b (kind_of m.reason) m.«data» (reason_back m.reason).1 (fine_of _ m.«data» (length b) e);
      data-bytes = bytes_data b p m.«data»;
      tail_bytes = none;
    }

-- ---- and a notification whose reading is good, with its view inside, is writable
pub fine_back : (b : List ℕ) (k : ℕ) (d : Option View) → (view_of d).place + (view_of d).length ≤ length b → Follows k (data_of b d) [] → Fine k d (length b)
fine_back b k None h f = record { given = test_of k absent [] f; within = h }
fine_back b k (Some v) h f =
    record { given = ap (has_data k) (sym (ap length (append-nil (viewed b v)) ∙ view_long b v h)) ∙ test_of k (present (viewed b v)) [] f; within = h }

-- ---- the bytes s are read as the notification m, whose view points into b, to their end
pub record ReadsBack (m : PeerDownNotification) (b s : List ℕ) : Type 0 where
  pub read_good : (refusal_of (read_peer_down s)).number ≡ Number.Good
  pub whole : stop_of (read_peer_down s) ≡ length s
  pub same : Same m b (notification_of (read_peer_down s)) s

pub stop_whole : (k : ℕ) (d : Data) → stop_after d ≡ length (be 1 k ++ (data_bytes d ++ []))
unfolding be
stop_whole k absent = refl
stop_whole k (present b) = omega (arith, ap length (append-nil b))

pub no_more : (k j : ℕ) (d e : Data) (z : List ℕ) → e ≡ d → be 1 j ++ (data_bytes e ++ z) ≡ be 1 k ++ (data_bytes d ++ []) → z ≡ []
unfolding be
no_more k j d e z same whole =
    let n = ap length whole in
    let m = ap (λ (x : Data). length (data_bytes x)) same in
    go z (omega (arith, n, m, length-append (data_bytes e) z, length-append (data_bytes d) []))
  where
    go : (l : List ℕ) → length l ≤ 0 → l ≡ []
    go [] h = refl
    go (x ∷ l) h = absurd (omega arith)
