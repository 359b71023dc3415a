-- What a user of the writer of the Route Monitoring body relies on. Assumes nothing.
use mathlib.Core.Path.{◌≡◌, sym, ap, subst}
use mathlib.Core.Bool.{true, false}
use mathlib.Core.List.{List}
use mathlib.Core.Logic.{◌↔◌}
use Prim.Native.Nat.{ℕ, ◌+◌, ◌≤◌}
use native.Mathlib.Omega.{arith}
use lib.ListN.{length, take}
use Rattle.wire.specs.Number as Number
use Rattle.wire.specs.Bytes.{Bytes}
use Rattle.wire.proofs.Views.{bytes_viewed}
use Rattle.writing.proofs.Tlv.{view_long}
use Rattle.std.specs.declared.result.Result.TheVariants.{Ok}
use Rattle.writing.specs.Write.{WriteAnswer, length_of, Wrote}
use Rattle.writing.proofs.Answers.{front, wrote_determined}
use Rattle.models.specs.declared.AsnLength.{AsnLength}
use Rattle.per_peer_type.specs.declared.BmpPeerType.{BmpPeerType}
use Rattle.route_monitoring.specs.Grammar.{join, Good}
use Rattle.route_monitoring.specs.Shown.{RouteMonitoringAnswer, refusal_of, stop_of, message_of}
use Rattle.route_monitoring.specs.Told.{parts_of}
use Rattle.route_monitoring.specs.Read.{read_route_monitoring}
use Rattle.route_monitoring_writer.specs.Write.{bytes_of, writable, Same}
use Rattle.route_monitoring_writer.specs.Unwritable.{Unwritable}
use Rattle.route_monitoring.specs.declared.RouteMonitoring.{RouteMonitoring}
use Rattle.route_monitoring.proofs.Laws.{join_parts, parts_good, accepted, shows_all}
use Rattle.route_monitoring_writer.proofs.Written.{fine_of, fine_from}
use Rattle.route_monitoring_writer.proofs.Unwritable.{listed}
use Rattle.route_monitoring.proofs.Promises.{viewed_all}

-- the bytes s are read as the message m, whose view points into b, to their end
pub record ReadsBack (width : AsnLength) (t : BmpPeerType) (m : RouteMonitoring) (b s : List ℕ) : Type 0 where
  pub read_good : (refusal_of (read_route_monitoring width t s)).number ≡ Number.Good
  pub whole : stop_of (read_route_monitoring width t s) ≡ length s
  pub same : Same m b (message_of (read_route_monitoring width t s)) s

long_bytes : (m : RouteMonitoring) (b : List ℕ) → m.bgp_message.place + m.bgp_message.length ≤ length b → length (bytes_of m b) ≡ m.bgp_message.length
long_bytes m b h = view_long b m.bgp_message h

reads_back : (width : AsnLength) (t : BmpPeerType) (m : RouteMonitoring) (b : List ℕ) → writable m (length b) ≡ true
    → length (bytes_of m b) ≤ Number.limit → ReadsBack width t m b (bytes_of m b)
reads_back width t m b w short =
    let f = fine_of m.bgp_message (length b) w in
    let n = long_bytes m b f.within in
    let s = bytes_of m b in
    let a = shows_all s width t (record { short = short; long = omega (arith, f.has-header) }) in
    record {
      read_good = ap (λ (x : RouteMonitoringAnswer). (refusal_of x).number) a;
      whole = ap stop_of a;
      same = subst (λ (x : RouteMonitoringAnswer). Same m b (message_of x) s) (sym a) (sym (viewed_all s));
    }

-- What the writer has written, where the message is writable and there is room, is read back as the same message.
pub round_trip : (m : RouteMonitoring) (b out out' : List ℕ) (a : WriteAnswer)
    → Wrote (writable m (length b)) (bytes_of m b) out a out'
    → writable m (length b) ≡ true → length (bytes_of m b) ≤ Number.limit → length (bytes_of m b) ≤ length out
    → (width : AsnLength) (t : BmpPeerType) → (a ≡ Ok (length (bytes_of m b))) × ReadsBack width t m b (take (length_of a) out')
round_trip m b out out' a wrote w short room width t =
    front (ReadsBack width t m b) wrote w short room (reads_back width t m b w short)

-- A message whose view lies inside the buffer, and whose bytes are read back as itself, is writable.
pub only_writable : (width : AsnLength) (t : BmpPeerType) (m : RouteMonitoring) (b : List ℕ)
    → m.bgp_message.place + m.bgp_message.length ≤ length b → ReadsBack width t m b (bytes_of m b) → writable m (length b) ≡ true
only_writable width t m b inside r =
    let a = accepted (bytes_of m b) width t r.read_good in
    fine_from m.bgp_message (length b) (record { has-header = omega (arith, a.long, long_bytes m b inside); within = inside })

-- What is written is the grammar's join of its reading.
pub written_joined : (m : RouteMonitoring) (b : List ℕ) → Bytes b → writable m (length b) ≡ true
    → Good (parts_of (bytes_of m b)) × (join (parts_of (bytes_of m b)) ≡ bytes_of m b)
written_joined m b p w =
    let f = fine_of m.bgp_message (length b) w in
    let long : 19 ≤ length (bytes_of m b) = omega (arith, f.has-header, long_bytes m b f.within) in
    let q = bytes_viewed b m.bgp_message p in
    (parts_good q long, join_parts q long)

-- A message is not writable exactly where an item of the list holds of it.
pub unwritable : (m : RouteMonitoring) (room : ℕ) → (writable m room ≡ false) ↔ Unwritable m room
unwritable = listed

-- ---- any two answers, and any two outputs, that the contract allows are equal
pub write_determined : (m : RouteMonitoring) (b out : List ℕ) (r q : WriteAnswer) (o p : List ℕ)
    → Wrote (writable m (length b)) (bytes_of m b) out r o → Wrote (writable m (length b)) (bytes_of m b) out q p → (r ≡ q) × (o ≡ p)
write_determined m b out r q o p = wrote_determined
