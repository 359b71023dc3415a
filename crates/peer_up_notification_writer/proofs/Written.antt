-- What the writing kit asks of a Peer Up body, and what `writable` asks of a record. Assumes nothing.
use mathlib.Core.Path.{◌≡◌, refl, sym, ap, ap₂, ◌∙◌}
use mathlib.Core.Bool.{Bool, true, false, ◌&&◌, and-false, and_assoc, and-eq-true_iff}
use mathlib.Core.List.{List, ◌++◌, append_assoc}
use Prim.Native.Nat.{ℕ, ◌+◌, ◌^◌, ◌≤◌, ◌<◌}
use native.Mathlib.Omega.{arith}
use native.Mathlib.Nat.{zero-add}
use borrow.Author.Tests.{leb-true, ltb-true, eqb-true, le-leb, le-ltb, lt-ltb, eq-eqb}
use lib.Dec.{leb, ltb, eqb}
use lib.ListN.{length, drop, replicate, length-append}
use lib.Seq.{sets}
use Rattle.wire.specs.Bytes.{pick, be, num_at, number_at, Bytes}
use Rattle.wire.specs.View.{inside, viewed}
use Rattle.wire.specs.declared.Refusal.{Refusal}
use Rattle.wire.specs.declared.View.{View}
use Rattle.std.specs.declared.result.Result.TheVariants.{Ok, Err}
use Rattle.wire.proofs.Bytes.{number_is}
use Rattle.wire.proofs.Views.{inside_is, bytes_viewed}
use Rattle.writing.specs.Table.{joined, all_ok, sizes}
use Rattle.writing.specs.Write.{WriteAnswer, put_at, Wrote}
use Rattle.writing.proofs.Sets.{sets_append, put_then, put_fits, length_put}
use Rattle.writing.proofs.Tlv.{view_long}
use Rattle.writing.proofs.Table.{Kept, kept_of, length_joined}
use Rattle.table_writer.specs.Writer.{table_answer, table_written}
use Rattle.table_writer.proofs.Behind.{refused_behind, front_fits, put_before}
use Rattle.tlv_table.proofs.Table.{bodied}
use Rattle.addresses.specs.Address.{shown_ip}
use Rattle.models.specs.declared.IpAddr.{IpAddr}
use Rattle.models.proofs.Promises.{equals_is_equality}
use Rattle.peer_up_notification.specs.Grammar.{message_bytes, skipped_for, places}
use Rattle.peer_up_notification.specs.Shown.{shown_address, kept}
use Rattle.peer_up_notification.specs.Told.{open_of}
use Rattle.peer_up_notification_writer.specs.Write.{address_writable, open_writable, writer, bytes_of, tlvs_writable, front_writable, writable, endpoint_bytes, open_bytes, front_bytes, front_length}
use Rattle.peer_up_notification_writer.specs.Entries.{entries}
use Rattle.peer_up_notification.specs.declared.PeerUpNotification.{PeerUpNotification}
use Rattle.peer_up_notification.proofs.Address.{address_shown}
use Rattle.peer_up_notification.proofs.Opens.{OneMessage, open_back}

-- ---- a BGP message
pub record FineOpen (b : List ℕ) (v : View) : Type 0 where
  pub within : v.place + v.length ≤ length b
  pub has-header : 19 ≤ v.length
  pub size_fits : v.length < 256 ^ 2
  pub size_is : num_at 2 (viewed b v) 16 ≡ v.length

pub open-of : (b : List ℕ) (v : View) → open_writable b v ≡ true → FineOpen b v
unfolding open_writable
open-of b v e =
    let a = (and-eq-true_iff (inside (length b) v) _).0 e in
    let d = (and-eq-true_iff (leb 19 v.length) _).0 a.1 in
    let f = (and-eq-true_iff (ltb v.length (256 ^ 2)) (eqb (num_at 2 (viewed b v) 16) v.length)).0 d.1 in
    record {
      within = leb-true (v.place + v.length) (length b) a.0;
      has-header = leb-true 19 v.length d.0;
      size_fits = ltb-true v.length (256 ^ 2) f.0;
      size_is = eqb-true (num_at 2 (viewed b v) 16) v.length f.1;
    }

pub open_from : (b : List ℕ) (v : View) → FineOpen b v → open_writable b v ≡ true
unfolding open_writable
open_from b v f =
    let size = eqb (num_at 2 (viewed b v) 16) v.length in
    let small = ltb v.length (256 ^ 2) in
    let header = leb 19 v.length in
    (and-eq-true_iff (inside (length b) v) (header && (small && size))).1 (
      inside_is (length b) v f.within,
      (and-eq-true_iff header (small && size)).1 (
        le-leb 19 v.length f.has-header,
        (and-eq-true_iff small size).1 (
          lt-ltb v.length (256 ^ 2) f.size_fits,
          eq-eqb (num_at 2 (viewed b v) 16) v.length f.size_is,
        ),
      ),
    )

-- as `open_writable` judges one that lies inside and has a header: by its own length, which is a number of two bytes
last_decides : (a b c d : Bool) → a ≡ true → b ≡ true → (d ≡ true → c ≡ true) → d ≡ (a && (b && (c && d)))
last_decides a b c true p q k = rw (p, q, k refl)
last_decides a b c false p q k = rw (p, q, and-false c)

pub open_judged : (b : List ℕ) (v : View) (size : ℕ) → inside (length b) v ≡ true → 19 ≤ v.length → size < 256 ^ 2
    → size ≡ number_at 2 (viewed b v) 16 → eqb size v.length ≡ open_writable b v
unfolding open_writable
open_judged b v size i h small e =
    let n = view_long b v (leb-true (v.place + v.length) (length b) i) in
    let size_is : size ≡ num_at 2 (viewed b v) 16 = e ∙ number_is 2 (viewed b v) 16 (omega arith) in
    ap (λ (k : ℕ). eqb k v.length) size_is
    ∙ last_decides (inside (length b) v) (leb 19 v.length) (ltb v.length (256 ^ 2)) (eqb (num_at 2 (viewed b v) 16) v.length)
    i (le-leb 19 v.length h) (λ k. lt-ltb v.length (256 ^ 2) (omega (arith, eqb-true (num_at 2 (viewed b v) 16) v.length k, size_is, small)))

pub one_of : {b : List ℕ} → Bytes b → (v : View) → FineOpen b v → OneMessage (viewed b v)
one_of {b} p v f =
    let n = view_long b v f.within in
    record { are_bytes = bytes_viewed b v p; has-header = omega (arith, f.has-header); size_is = f.size_is ∙ sym n }

-- ---- what stands before the TLVs
pub record FineFront (m : PeerUpNotification) (b : List ℕ) : Type 0 where
  pub address_is : shown_address m.local_addr.afi (drop (skipped_for m.local_addr.afi) m.local_addr.octets) ≡ m.local_addr
  pub sent : FineOpen b m.sent_open
  pub received : FineOpen b m.received_open

abbrev pub front_ok : PeerUpNotification → List ℕ → Bool
front_ok m b = front_writable b m.local_addr m.sent_open m.received_open

pub front_of : (m : PeerUpNotification) (b : List ℕ) → front_ok m b ≡ true → FineFront m b
front_of m b e =
    let address = m.local_addr in
    let a = (and-eq-true_iff (address_writable address) _).0 e in
    let s = (and-eq-true_iff (open_writable b m.sent_open) (open_writable b m.received_open)).0 a.1 in
    record {
      address_is =
          sym (address_shown address.afi address.octets)
          ∙ (equals_is_equality (shown_ip address.afi address.octets) address).0 a.0;
      sent = open-of b m.sent_open s.0;
      received = open-of b m.received_open s.1;
    }

pub front_small : (m : PeerUpNotification) (b : List ℕ) → front_ok m b ≡ true → (m.sent_open.length < 65536) × (m.received_open.length < 65536)
front_small m b e = let f = front_of m b e in (omega (arith, f.sent.size_fits), omega (arith, f.received.size_fits))

-- ---- the whole record
pub record Writes (m : PeerUpNotification) (b : List ℕ) : Type 0 where
  pub front : FineFront m b
  pub table : Kept writer places m.count m.tlvs (length b)

-- the front and the TLVs apart
pub writable_parts : (m : PeerUpNotification) (b : List ℕ) → writable m b ≡ (front_ok m b && tlvs_writable m (length b))
writable_parts m b =
    let a = address_writable m.local_addr in
    let s = open_writable b m.sent_open in
    let r = open_writable b m.received_open in
    let t = tlvs_writable m (length b) in
    ap (λ (x : Bool). a && x) (sym (and_assoc s r t)) ∙ sym (and_assoc a (s && r) t)

pub writes_of : (m : PeerUpNotification) (b : List ℕ) → writable m b ≡ true → Writes m b
writes_of m b e =
    let p = (and-eq-true_iff (front_ok m b) (tlvs_writable m (length b))).0 (sym (writable_parts m b) ∙ e) in
    record { front = front_of m b p.0; table = kept_of writer places m.count m.tlvs (length b) p.1 }

-- what each test of the code says of the whole
module _ (m : PeerUpNotification) (b : List ℕ) where
  pub too_many : places < m.count → writable m b ≡ false
  too_many h = writable_parts m b ∙ ap (λ (x : Bool). front_ok m b && pick x false (all_ok writer (length b) (kept m))) (lt-ltb places m.count h) ∙ and-false (front_ok m b)

  pub front_bad : front_ok m b ≡ false → writable m b ≡ false
  front_bad e = writable_parts m b ∙ ap (λ (x : Bool). x && tlvs_writable m (length b)) e

  pub tlvs_decide : m.count ≤ places → front_ok m b ≡ true → writable m b ≡ all_ok writer (length b) (kept m)
  tlvs_decide h e =
      writable_parts m b ∙ ap₂ (λ (x y : Bool). x && pick y false (all_ok writer (length b) (kept m))) e (le-ltb places m.count h)

-- ---- its bytes: those before the TLVs, and then the TLVs
module _ (m : PeerUpNotification) (b : List ℕ) (p : Bytes b) (w : FineFront m b) where
  octets_are : replicate (skipped_for m.local_addr.afi) 0 ++ drop (skipped_for m.local_addr.afi) m.local_addr.octets ≡ m.local_addr.octets
  octets_are = ap (λ (a : IpAddr). a.octets) w.address_is

  pub bytes_are : bytes_of m b ≡ front_bytes m b ++ joined writer b (kept m)
  unfolding be
  bytes_are =
      let k = skipped_for m.local_addr.afi in
      let sent = viewed b m.sent_open in
      let received = viewed b m.received_open in
      let tlvs = joined writer b (kept m) in
      let s = open_back sent (one_of p m.sent_open w.sent) in
      let r = open_back received (one_of p m.received_open w.received) in
      let ports = be 2 m.local_port ++ be 2 m.remote_port in
      let messages : message_bytes (open_of sent) ++ (message_bytes (open_of received) ++ tlvs) ≡ (sent ++ received) ++ tlvs =
      ap₂ (λ (x y : List ℕ). x ++ (y ++ tlvs)) s r ∙ sym (append_assoc sent received tlvs) in
      sym (append_assoc (replicate k 0) (drop k m.local_addr.octets) (ports ++ (message_bytes (open_of sent) ++ (message_bytes (open_of received) ++ tlvs))))
      ∙ ap₂ (λ (x y : List ℕ). x ++ (ports ++ y)) octets_are messages
      ∙ sym (append_assoc m.local_addr.octets (ports ++ (sent ++ received)) tlvs)
      ∙ ap (λ (x : List ℕ). x ++ tlvs) (sym (append_assoc m.local_addr.octets ports (sent ++ received)))

length_endpoints : (a : IpAddr) (local remote : ℕ) → length a.octets ≡ 16 → length (endpoint_bytes a local remote) ≡ 20
unfolding be
length_endpoints a local remote n = length-append a.octets (be 2 local ++ be 2 remote) ∙ omega (arith, n)

pub length_opens : (b : List ℕ) (sent received : View) → FineOpen b sent → FineOpen b received
    → length (open_bytes b sent received) ≡ sent.length + received.length
length_opens b sent received s r =
    length-append (viewed b sent) (viewed b received) ∙ ap₂ ◌+◌ (view_long b sent s.within) (view_long b received r.within)

module _ (m : PeerUpNotification) (b : List ℕ) (w : FineFront m b) (sixteen : length m.local_addr.octets ≡ 16) where
  pub length_front : length (front_bytes m b) ≡ front_length m
  length_front =
      length-append (endpoint_bytes m.local_addr m.local_port m.remote_port) (open_bytes b m.sent_open m.received_open)
      ∙ ap₂ ◌+◌ (length_endpoints m.local_addr m.local_port m.remote_port sixteen)
      (length_opens b m.sent_open m.received_open w.sent w.received)

  pub length_bytes : Bytes b → length (bytes_of m b) ≡ front_length m + length (joined writer b (kept m))
  length_bytes p =
      ap length (bytes_are m b p w) ∙ length-append (front_bytes m b) (joined writer b (kept m))
      ∙ ap (λ (n : ℕ). n + length (joined writer b (kept m))) length_front

-- ---- one put after the other
pub put_ends : (a : IpAddr) (local remote : ℕ) (out o1 o2 o3 : List ℕ) → length a.octets ≡ 16 → 20 ≤ length out
    → o1 ≡ put_at out 0 a.octets → o2 ≡ put_at o1 16 (be 2 local) → o3 ≡ put_at o2 18 (be 2 remote)
    → o3 ≡ sets out 0 (endpoint_bytes a local remote)
unfolding be
put_ends a local remote out o1 o2 o3 n h e1 e2 e3 =
    let m1 : length o1 ≡ length out = ap length e1 ∙ length_put out 0 a.octets in
    put_then out o1 o3 0 16 a.octets (be 2 local ++ be 2 remote) (omega (arith, n, h)) e1 (omega (arith, n))
    (put_then o1 o2 o3 16 18 (be 2 local) (be 2 remote) (omega (arith, m1, h)) e2 refl e3)
    ∙ put_fits out 0 (endpoint_bytes a local remote) (omega (arith, length_endpoints a local remote n, h))

pub put_both : (b : List ℕ) (sent received : View) (out o1 o2 x y : List ℕ) (k : ℕ) → x ≡ viewed b sent → y ≡ viewed b received → k ≡ 20 + length x
    → 20 + length (open_bytes b sent received) ≤ length out → o1 ≡ put_at out 20 x → o2 ≡ put_at o1 k y
    → o2 ≡ sets out 20 (open_bytes b sent received)
put_both b sent received out o1 o2 x y k ex ey ek h e1 e2 =
    let d = length-append (viewed b sent) (viewed b received) in
    put_then out o1 o2 20 k (viewed b sent) (viewed b received) (omega (arith, d, h)) (e1 ∙ ap (put_at out 20) ex) (ek ∙ ap (λ (l : List ℕ). 20 + length l) ex)
    (e2 ∙ ap (put_at o1 k) ey)
    ∙ put_fits out 20 (open_bytes b sent received) (omega (arith, h))

pub front_put : (m : PeerUpNotification) (b out o1 o2 : List ℕ) → length m.local_addr.octets ≡ 16
    → o1 ≡ sets out 0 (endpoint_bytes m.local_addr m.local_port m.remote_port)
    → o2 ≡ sets o1 20 (open_bytes b m.sent_open m.received_open) → o2 ≡ sets out 0 (front_bytes m b)
front_put m b out o1 o2 sixteen e1 e2 =
    let ends = endpoint_bytes m.local_addr m.local_port m.remote_port in
    let opens = open_bytes b m.sent_open m.received_open in
    e2 ∙ ap₂ (λ (o : List ℕ) (k : ℕ). sets o k opens) e1 (sym (zero-add (length ends) ∙ length_endpoints m.local_addr m.local_port m.remote_port sixteen))
    ∙ sym (sets_append ends opens out 0)

-- ---- the whole: how many bytes a writable record takes, and that they are put
module _ (m : PeerUpNotification) (b : List ℕ) (p : Bytes b) (sixteen : length m.local_addr.octets ≡ 16) where
  pub bytes_long : writable m b ≡ true → length (bytes_of m b) ≡ front_length m + sizes writer (kept m)
  bytes_long e =
      let w = writes_of m b e in
      length_bytes m b w.front sixteen p ∙ ap (λ (n : ℕ). front_length m + n) (length_joined writer (bodied entries) b (kept m) w.table.fine)

  -- the fixed part and the OPENs put in front, and the table behind them
  pub put_whole : FineFront m b → (out o1 o2 o3 : List ℕ) → o1 ≡ sets out 0 (endpoint_bytes m.local_addr m.local_port m.remote_port)
      → o2 ≡ sets o1 20 (open_bytes b m.sent_open m.received_open) → o3 ≡ sets o2 (front_length m) (joined writer b (kept m)) → o3 ≡ sets out 0 (bytes_of m b)
  put_whole w out o1 o2 o3 e1 e2 e3 =
      let t = joined writer b (kept m) in
      let at : front_length m ≡ 0 + length (front_bytes m b) = sym (zero-add (length (front_bytes m b)) ∙ length_front m b w sixteen) in
      e3 ∙ ap₂ (λ (o : List ℕ) (i : ℕ). sets o i t) (front_put m b out o1 o2 sixteen e1 e2) at ∙ sym (sets_append (front_bytes m b) t out 0)
      ∙ ap (sets out 0) (sym (bytes_are m b p w))

-- ---- the table is refused, or put and then what stands in front of it
module _ (m : PeerUpNotification) (b : List ℕ) (p : Bytes b) (sixteen : length m.local_addr.octets ≡ 16) (few : m.count ≤ places) (fine : front_ok m b ≡ true)
    (out o : List ℕ) (a : WriteAnswer)
    (asked : a ≡ table_answer writer (front_length m) (kept m) b out) (left : o ≡ table_written writer (front_length m) (kept m) b out) where
  long : length (front_bytes m b) ≡ front_length m
  long = length_front m b (front_of m b fine) sixteen

  whole : {o' : List ℕ} → Wrote (all_ok writer (length b) (kept m)) (front_bytes m b ++ joined writer b (kept m)) out a o' → Wrote (writable m b) (bytes_of m b) out a o'
  whole w = rw (tlvs_decide m b few fine, bytes_are m b p (front_of m b fine)) w

  pub refused_whole : (r : Refusal) → a ≡ Err r → Wrote (writable m b) (bytes_of m b) out a o
  refused_whole r e = whole (refused_behind (bodied entries) (front_bytes m b) (front_length m) (kept m) b out o a long asked left e)

  pub room : {n : ℕ} → a ≡ Ok n → front_length m ≤ length o
  room e = front_fits (bodied entries) (front_bytes m b) (front_length m) (kept m) b out o a long asked left e

  pub wrote_whole : {n : ℕ} → a ≡ Ok n → {o1 o2 : List ℕ} → o1 ≡ sets o 0 (endpoint_bytes m.local_addr m.local_port m.remote_port)
      → o2 ≡ sets o1 20 (open_bytes b m.sent_open m.received_open) → Wrote (writable m b) (bytes_of m b) out a o2
  wrote_whole e {o1} {o2} e1 e2 =
      whole (put_before (bodied entries) (front_bytes m b) (front_length m) (kept m) b out o a long asked left e (front_put m b o o1 o2 sixteen e1 e2))
