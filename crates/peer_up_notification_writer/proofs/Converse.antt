-- No record is refused that would be read back as itself, where its views lie inside the buffer. Assumes nothing.
use mathlib.Core.Path.{◌≡◌, sym, ap, ◌∙◌, subst}
use mathlib.Core.Bool.{true, ◌&&◌, and-eq-true_iff}
use mathlib.Core.List.{List}
use Prim.Native.Nat.{ℕ, ◌+◌, ◌-◌, ◌≤◌, ◌<◌}
use native.Mathlib.Omega.{arith}
use borrow.Author.Tests.{le-ltb}
use lib.ListN.{length, drop, get_or, replicate, length-replicate}
use lib.Seq.{drop_at}
use Rattle.wire.specs.Bytes.{Bytes}
use Rattle.wire.specs.Parts.{EachGood}
use Rattle.wire.specs.Tlv.{Tlv, put_tlv, size_of}
use Rattle.wire.specs.View.{viewed}
use Rattle.wire.specs.declared.View.{View}
use Rattle.wire.proofs.Bytes.{bytes_append, bytes_be, bytes_take, bytes_drop, num_lt}
use Rattle.wire.proofs.Views.{bytes_viewed, octets_zeros}
use Rattle.wire.specs.Exactly.{Shows}
use Rattle.writing.specs.Table.{parts}
use Rattle.writing.proofs.Tlv.{view_long}
use Rattle.writing.proofs.Trip.{table_back, table_fine}
use Rattle.tlv_table.proofs.Table.{all-bytes}
use Rattle.tlv_table.proofs.Written.{good_part}
use Rattle.addresses.specs.Address.{shown_ip}
use Rattle.models.specs.declared.IpAddr.{IpAddr}
use Rattle.models.proofs.Promises.{equals_is_equality}
use Rattle.per_peer_type.specs.declared.BmpPeerType.{BmpPeerType}
use Rattle.peer_up_notification.specs.Grammar.{message_bytes, ReadTlv, skipped_for, Reading, join, places}
use Rattle.peer_up_notification.specs.Shown.{ReadPeerUp, message_in, info_of, zero_tlv, entry, tlvs_at, shown_address, shown, kept}
use Rattle.peer_up_notification.specs.Told.{open_of}
use Rattle.peer_up_notification.specs.Read.{reader}
use Rattle.peer_up_notification_writer.specs.Write.{part_of, address_writable, open_writable, writer, bytes_of, tlvs_writable, writable, Typed, SameTlv, Same}
use Rattle.peer_up_notification.specs.declared.PeerUpNotificationTlv.{PeerUpNotificationTlv}
use Rattle.peer_up_notification.specs.declared.PeerUpNotification.{PeerUpNotification}
use Rattle.peer_up_notification.proofs.Address.{address_shown}
use Rattle.peer_up_notification.proofs.Opens.{OneMessage, one_message}
use Rattle.peer_up_notification_writer.specs.Entries.{entries}
use Rattle.peer_up_notification_writer.proofs.Written.{open_from}
use Rattle.peer_up_notification.proofs.Shows.{ViewAt, ShowsParts}
use Rattle.peer_up_notification_writer.proofs.Trip.{ReadsBack}

-- what the reader does not ask of a record, and the writer does: its views lie inside the buffer
abbrev Within : List ℕ → View → Type 0
Within b v = v.place + v.length ≤ length b

pub record Inside (m : PeerUpNotification) (b : List ℕ) : Type 0 where
  pub sent_inside : Within b m.sent_open
  pub received_inside : Within b m.received_open
  pub tlvs_inside : (i : ℕ) → i < m.count → Within b (info_of (get_or m.tlvs i zero_tlv))

-- a view that shows a message is writable
fine_open : {b : List ℕ} → Bytes b → (v : View) → Within b v → OneMessage (viewed b v) → open_writable b v ≡ true
fine_open {b} p v inside o =
    let n = view_long b v inside in
    let small = num_lt 2 16 o.are_bytes in
    open_from b v (record {
      within = inside;
      has-header = omega (arith, n, o.has-header);
      size_fits = omega (arith, n, small, o.size_is);
      size_is = o.size_is ∙ n;
    })

-- an item that is shown as an entry is that entry's
one_part : (b s : List ℕ) (at : ℕ) (x : Tlv) (t : PeerUpNotificationTlv) → ViewAt s at x → SameTlv t b (entry at x) s → x ≡ part_of b t
one_part b s at x t v e =
    let kind_is : x.kind ≡ t.kind = sym e.kind_same in
    let value-is = sym (e.bytes_same ∙ v) in
    λ i. record { kind = kind_is i; size = sym e.len_same i; value = value-is i }

-- ---- what would be written are bytes
bytes_open : {x : List ℕ} → Bytes x → Bytes (message_bytes (open_of x))
bytes_open p = bytes_append (bytes_take 16 p) (bytes_append (bytes_be 2 _) (bytes_drop 18 p))

pub bytes_written : (m : PeerUpNotification) (b : List ℕ) → Bytes b → Typed m → Bytes (bytes_of m b)
bytes_written m b p t =
    let k = skipped_for m.local_addr.afi in
    bytes_append (octets_zeros k).are_bytes
    (bytes_append (bytes_drop k t.octets.are_bytes)
    (bytes_append (bytes_be 2 m.local_port)
    (bytes_append (bytes_be 2 m.remote_port)
    (bytes_append (bytes_open (bytes_viewed b m.sent_open p))
    (bytes_append (bytes_open (bytes_viewed b m.received_open p)) (all-bytes entries b p (kept m)))))))

-- ---- the whole record
module _ (peer : BmpPeerType) (m : PeerUpNotification) (b : List ℕ) (p : Bytes b) (t : Typed m) (inside : Inside m b) (q : Reading)
    (x : Shows (reader m.local_addr.afi peer) (bytes_of m b) q) (v : ShowsParts (bytes_of m b) (shown m.local_addr.afi peer q) q)
    (same : Same m b (message_in (shown m.local_addr.afi peer q)) (bytes_of m b)) where
  address-fits : address_writable m.local_addr ≡ true
  address-fits =
      let a = m.local_addr in
      let k = skipped_for a.afi in
      let octets : drop k a.octets ≡ q.address =
      ap (λ (y : IpAddr). drop k y.octets) same.address_same ∙ drop_at (replicate k 0) q.address k (length-replicate k 0) in
      (equals_is_equality (shown_ip a.afi a.octets) a).1
      (address_shown a.afi a.octets ∙ ap (shown_address a.afi) octets ∙ sym same.address_same)

  sent_fits : open_writable b m.sent_open ≡ true
  sent_fits =
      fine_open p m.sent_open inside.sent_inside
      (subst OneMessage (sym (same.sent_same ∙ v.sent_shown)) (one_message q.sent_open x.reading.is_good.sent_good))

  received_fits : open_writable b m.received_open ≡ true
  received_fits =
      fine_open p m.received_open inside.received_inside
      (subst OneMessage (sym (same.received_same ∙ v.received_shown)) (one_message q.received_open x.reading.is_good.received_good))

  tlvs_fit : tlvs_writable m (length b) ≡ true
  tlvs_fit =
      let s = bytes_of m b in
      let n : m.count ≡ length q.tlvs = same.count_same in
      let few : m.count ≤ places = omega (arith, n, x.reading.fits) in
      let each : q.tlvs ≡ parts writer b (kept m) =
      table_back writer size_of entry (ViewAt s) b (λ t u. SameTlv t b u s) zero_tlv (one_part b s)
      (replicate (places - length q.tlvs) zero_tlv) m.tlvs m.count (tlvs_at q) q.tlvs (omega (arith, t.table_long, few)) n v.tlvs_shown same.tlv_same in
      rw (le-ltb places m.count few)
      (table_fine writer ReadTlv (λ t. Within b (info_of t)) zero_tlv b q.tail (λ t l g h. good_part _ _ (info_of t) b g h) m.tlvs m.count
      (subst (λ (l : List Tlv). EachGood put_tlv ReadTlv l q.tail) each x.reading.is_good.each) inside.tlvs_inside)

  all_fits : writable m b ≡ true
  all_fits =
      let sent = open_writable b m.sent_open in
      let received = open_writable b m.received_open in
      let tlvs = tlvs_writable m (length b) in
      (and-eq-true_iff (address_writable m.local_addr) (sent && (received && tlvs))).1
      (address-fits, (and-eq-true_iff sent (received && tlvs)).1 (sent_fits, (and-eq-true_iff received tlvs).1 (received_fits, tlvs_fit)))

pub writable_from : (peer : BmpPeerType) (m : PeerUpNotification) (b : List ℕ) → Bytes b → Typed m → Inside m b → (q : Reading)
    → Shows (reader m.local_addr.afi peer) (bytes_of m b) q → ShowsParts (join q) (shown m.local_addr.afi peer q) q
    → ReadsBack peer m b (bytes_of m b) → writable m b ≡ true
writable_from peer m b p t inside q x v r =
    let afi = m.local_addr.afi in
    all_fits peer m b p t inside q x (subst (λ (z : List ℕ). ShowsParts z (shown afi peer q) q) x.reading.joined v)
    (subst (λ (a : ReadPeerUp). Same m b (message_in a) (bytes_of m b)) x.shown_so r.same)
