-- What a user of the writer of the Peer Up body relies on. Assumes nothing.
use mathlib.Core.Path.{◌≡◌, ◌∙◌}
use mathlib.Core.Bool.{true, false}
use mathlib.Core.List.{List}
use mathlib.Core.Logic.{◌↔◌}
use Prim.Native.Nat.{ℕ, ◌≤◌}
use native.Mathlib.Omega.{arith}
use lib.ListN.{length, take, length-take}
use Rattle.wire.specs.Number as Number
use Rattle.wire.specs.Bytes.{Bytes}
use Rattle.std.specs.declared.result.Result.TheVariants.{Ok}
use Rattle.writing.specs.Write.{WriteAnswer, length_of, Wrote}
use Rattle.writing.proofs.Answers.{front, wrote_determined}
use Rattle.writing.proofs.Table.{length_parts}
use Rattle.per_peer_type.specs.declared.BmpPeerType.{BmpPeerType}
use Rattle.peer_up_notification.specs.Shown.{kept}
use Rattle.peer_up_notification_writer.specs.Write.{writer, reading_of, bytes_of, writable, Typed}
use Rattle.peer_up_notification_writer.specs.Unwritable.{Unwritable, TlvsTyped}
use Rattle.peer_up_notification.specs.declared.PeerUpNotification.{PeerUpNotification}
use Rattle.peer_up_notification_writer.proofs.Written.{writes_of}
use Rattle.peer_up_notification_writer.proofs.Trip.{good_of, ReadsBack, reads_back}
use Rattle.peer_up_notification_writer.proofs.Converse.{Inside, bytes_written, writable_from}
use Rattle.peer_up_notification_writer.proofs.Unwritable.{listed}
use Rattle.peer_up_notification.proofs.Promises.{complete, sound, views}

-- What the writer has written, where the record is writable and there is room, is read back with its own family as the same record,
-- whatever type of peer the reader is given.
pub round_trip : (peer : BmpPeerType) (m : PeerUpNotification) (b out out' : List ℕ) (a : WriteAnswer) → Bytes b → Typed m
    → Wrote (writable m b) (bytes_of m b) out a out'
    → writable m b ≡ true → length (bytes_of m b) ≤ Number.limit → length (bytes_of m b) ≤ length out
    → (a ≡ Ok (length (bytes_of m b))) × ReadsBack peer m b (take (length_of a) out')
round_trip peer m b out out' a p t wrote w short room =
    let afi = m.local_addr.afi in
    let x = writes_of m b w in
    let g = good_of m b p t x in
    let n = length_parts writer b (kept m) ∙ length-take m.count m.tlvs in
    let shown_so = complete afi peer (reading_of m b) g (omega (arith, n, x.table.few)) short in
    front (ReadsBack peer m b) wrote w short room (reads_back peer m b p t x shown_so (views afi peer (reading_of m b) g))

-- A record whose views lie inside the buffer, and whose bytes are read back as itself, is writable.
pub only_writable : (peer : BmpPeerType) (m : PeerUpNotification) (b : List ℕ) → Bytes b → Typed m → Inside m b
    → ReadsBack peer m b (bytes_of m b) → writable m b ≡ true
only_writable peer m b p t inside r =
    let afi = m.local_addr.afi in
    let q = sound afi peer (bytes_of m b) (bytes_written m b p t) r.read_good in
    writable_from peer m b p t inside q.0 q.1 (views afi peer q.0 q.1.reading.is_good) r

-- A record whose fields are of their types is not writable exactly where an item of the list holds of it.
pub unwritable : (m : PeerUpNotification) (b : List ℕ) → Typed m → TlvsTyped m → (writable m b ≡ false) ↔ Unwritable m b
unwritable = listed

-- ---- any two answers, and any two outputs, that the contract allows are equal
pub write_determined : (m : PeerUpNotification) (b out : List ℕ) (r q : WriteAnswer) (o p : List ℕ)
    → Wrote (writable m b) (bytes_of m b) out r o → Wrote (writable m b) (bytes_of m b) out q p → (r ≡ q) × (o ≡ p)
write_determined m b out r q o p = wrote_determined
