-- What a user of the writer of the Peer Down body relies on. Assumes nothing.
use mathlib.Core.Path.{◌≡◌, sym, ap, ◌∙◌, subst}
use mathlib.Core.Bool.{true, false}
use mathlib.Core.List.{List, []}
use mathlib.Core.Logic.{◌↔◌}
use Prim.Native.Nat.{ℕ, ◌+◌, ◌≤◌}
use lib.ListN.{length, take}
use Rattle.wire.specs.Number as Number
use Rattle.wire.specs.Bytes.{Bytes, none}
use Rattle.wire.proofs.Bytes.{bytes_be, bytes_append}
use Rattle.std.specs.declared.result.Result.TheVariants.{Ok}
use Rattle.writing.specs.Write.{WriteAnswer, length_of, Wrote}
use Rattle.writing.proofs.Answers.{front, wrote_determined}
use Rattle.peer_down_notification.specs.Grammar.{Data, Follows}
use Rattle.peer_down_notification.specs.Shown.{PeerDownAnswer, kind_of, shown_data, refusal_of, stop_of, notification_of, view_of, data_of}
use Rattle.peer_down_notification_writer.specs.Write.{reading_of, bytes_of, writable, Same}
use Rattle.peer_down_notification_writer.specs.Unwritable.{Unwritable}
use Rattle.peer_down_notification.specs.declared.PeerDownNotification.{PeerDownNotification}
use Rattle.peer_down_notification.proofs.Laws.{known_of}
use Rattle.peer_down_notification.proofs.Told.{reason_told}
use Rattle.peer_down_notification_writer.proofs.Trip.{reason_back, fine_from, good_of, bytes_data, fine_back, ReadsBack, stop_whole, no_more}
use Rattle.peer_down_notification_writer.proofs.Unwritable.{listed}
use Rattle.peer_down_notification.proofs.Promises.{sound, complete, views}

reads_back : (m : PeerDownNotification) (b : List ℕ) → Bytes b → writable m (length b) ≡ true → length (bytes_of m b) ≤ Number.limit → ReadsBack m b (bytes_of m b)
reads_back m b p w short =
    let a = complete (reading_of m b) (good_of m b p w) tt short in
    record {
      read_good = ap (λ (y : PeerDownAnswer). (refusal_of y).number) a;
      whole = ap stop_of a ∙ stop_whole (kind_of m.reason) (data_of b m.«data»);
      same = subst (λ (y : PeerDownAnswer). Same m b (notification_of y) (bytes_of m b)) (sym a)
          (record { reason_same = sym (reason_back m.reason).0; data_same = sym (views (reading_of m b)) });
    }

-- What the writer has written, where the notification is writable and there is room, is read back as the same notification.
pub round_trip : (m : PeerDownNotification) (b out out' : List ℕ) (a : WriteAnswer) → Bytes b
    → Wrote (writable m (length b)) (bytes_of m b) out a out'
    → writable m (length b) ≡ true → length (bytes_of m b) ≤ Number.limit → length (bytes_of m b) ≤ length out
    → (a ≡ Ok (length (bytes_of m b))) × ReadsBack m b (take (length_of a) out')
round_trip m b out out' a p wrote w short room =
    front (ReadsBack m b) wrote w short room (reads_back m b p w short)

-- A notification whose view lies inside the buffer, and whose bytes are read back as itself, is writable.
pub only_writable : (m : PeerDownNotification) (b : List ℕ) → Bytes b → (view_of m.«data»).place + (view_of m.«data»).length ≤ length b
    → ReadsBack m b (bytes_of m b) → writable m (length b) ≡ true
only_writable m b p inside r =
    let s = bytes_of m b in
    let bytes : Bytes s = bytes_append (bytes_be 1 (kind_of m.reason)) (bytes_append (bytes_data b p m.«data») none) in
    let x = sound s bytes r.read_good in
    let q = x.0 in
    let g = x.1.reading.is_good in
    let same = subst (λ (a : PeerDownAnswer). Same m b (notification_of a) s) x.1.shown_so r.same in
    let reason-is : q.reason ≡ kind_of m.reason =
    sym (ap kind_of same.reason_same ∙ reason_told q.reason (known_of q.reason q.data_part q.tail g.follows)) in
    let data_is : q.data_part ≡ data_of b m.«data» =
    sym (same.data_same ∙ subst (λ (l : List ℕ). data_of l (shown_data q.data_part) ≡ q.data_part) x.1.reading.joined (views q)) in
    let tail-is : q.tail ≡ [] = no_more (kind_of m.reason) q.reason (data_of b m.«data») q.data_part q.tail data_is x.1.reading.joined in
    let f : Follows (kind_of m.reason) (data_of b m.«data») [] =
    subst (λ (l : List ℕ). Follows (kind_of m.reason) (data_of b m.«data») l) tail-is
    (subst (λ (d : Data). Follows (kind_of m.reason) d q.tail) data_is
    (subst (λ (k : ℕ). Follows k q.data_part q.tail) reason-is g.follows)) in
    fine_from (kind_of m.reason) m.«data» (length b) (fine_back b (kind_of m.reason) m.«data» inside f)

-- A notification is not writable exactly where an item of the list holds of it.
pub unwritable : (m : PeerDownNotification) (room : ℕ) → (writable m room ≡ false) ↔ Unwritable m room
unwritable = listed

-- ---- any two answers, and any two outputs, that the contract allows are equal
pub write_determined : (m : PeerDownNotification) (b out : List ℕ) (r q : WriteAnswer) (o p : List ℕ)
    → Wrote (writable m (length b)) (bytes_of m b) out r o → Wrote (writable m (length b)) (bytes_of m b) out q p → (r ≡ q) × (o ≡ p)
write_determined m b out r q o p = wrote_determined
