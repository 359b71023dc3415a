-- A record that was written and is read again. Assumes nothing.
use mathlib.Core.Path.{◌≡◌, refl, sym, ap, ◌∙◌, subst}
use mathlib.Core.List.{List}
use Prim.Native.Nat.{ℕ, ◌≤◌}
use native.Mathlib.Omega.{arith}
use lib.ListN.{length, length-drop}
use lib.Seq.{length-take-le}
use Rattle.wire.specs.Number as Number
use Rattle.wire.specs.Bytes.{Bytes, none}
use Rattle.wire.specs.Tlv.{size_of}
use Rattle.wire.specs.View.{viewed}
use Rattle.wire.proofs.Bytes.{bytes_drop}
use Rattle.wire.proofs.Views.{octets_zeros}
use Rattle.writing.proofs.Table.{length_joined, all_good, length_parts}
use Rattle.writing.proofs.Trip.{table_same, end_sizes}
use Rattle.tlv_table.proofs.Table.{bodied}
use Rattle.tlv_table.proofs.Written.{part_good}
use Rattle.per_peer_type.specs.declared.BmpPeerType.{BmpPeerType}
use Rattle.peer_up_notification.specs.Grammar.{ReadTlv, skipped_for, Good}
use Rattle.peer_up_notification.specs.Shown.{ReadPeerUp, refusal_of, stop_of, message_in, zero_tlv, entry, tlvs_at, shown, kept}
use Rattle.peer_up_notification.specs.Read.{read_peer_up}
use Rattle.peer_up_notification_writer.specs.Write.{writer, reading_of, bytes_of, Typed, SameTlv, Same}
use Rattle.peer_up_notification.specs.declared.PeerUpNotification.{PeerUpNotification}
use Rattle.peer_up_notification.proofs.Opens.{open_good, open_back}
use Rattle.peer_up_notification_writer.specs.Entries.{entries}
use Rattle.peer_up_notification_writer.proofs.Written.{one_of, Writes, length_bytes}
use Rattle.peer_up_notification.proofs.Shows.{address-field, ViewAt, ShowsParts}

pub good_of : (m : PeerUpNotification) (b : List ℕ) → Bytes b → Typed m → Writes m b → Good m.local_addr.afi (reading_of m b)
good_of m b p t w =
    let afi = m.local_addr.afi in
    let k = skipped_for afi in
    let octets = m.local_addr.octets in
    record {
      skipped_fits = octets_zeros k;
      address-fits = record { many = length-drop k octets ∙ omega (arith, t.octets.many, address-field afi); are_bytes = bytes_drop k t.octets.are_bytes };
      local_port_fits = t.local_port_fits;
      remote_port_fits = t.remote_port_fits;
      sent_good = open_good (viewed b m.sent_open) (one_of p m.sent_open w.front.sent);
      received_good = open_good (viewed b m.received_open) (one_of p m.received_open w.front.received);
      each = all_good writer ReadTlv b (λ t l o e. part_good _ _ _ b o p) (kept m) w.table.fine;
      tail_good = (omega arith, none);
    }

-- the bytes s are read as the record m, whose views point into b, to their end
pub record ReadsBack (peer : BmpPeerType) (m : PeerUpNotification) (b s : List ℕ) : Type 0 where
  pub read_good : (refusal_of (read_peer_up m.local_addr.afi peer s)).number ≡ Number.Good
  pub whole : stop_of (read_peer_up m.local_addr.afi peer s) ≡ length s
  pub same : Same m b (message_in (read_peer_up m.local_addr.afi peer s)) s

pub reads_back : (peer : BmpPeerType) (m : PeerUpNotification) (b : List ℕ) → Bytes b → Typed m → Writes m b
    → read_peer_up m.local_addr.afi peer (bytes_of m b) ≡ shown m.local_addr.afi peer (reading_of m b)
    → ShowsParts (bytes_of m b) (shown m.local_addr.afi peer (reading_of m b)) (reading_of m b)
    → ReadsBack peer m b (bytes_of m b)
reads_back peer m b p t w a v =
    let s = bytes_of m b in
    let fine = w.table.fine in
    let few : m.count ≤ length m.tlvs = omega (arith, t.table_long, w.table.few) in
    record {
      read_good = ap (λ (y : ReadPeerUp). (refusal_of y).number) a;
      whole = ap stop_of a
          ∙ end_sizes writer size_of entry (ViewAt s) b (λ n t o. refl) (kept m) (tlvs_at (reading_of m b)) fine
          ∙ omega (arith, length_bytes m b w.front t.octets.many p, length_joined writer (bodied entries) b (kept m) fine, w.front.sent.size_is, w.front.received.size_is);
      same = subst (λ (y : ReadPeerUp). Same m b (message_in y) s) (sym a) (record {
        address_same = sym w.front.address_is;
        local_port_same = refl;
        remote_port_same = refl;
        sent_same = sym (v.sent_shown ∙ open_back (viewed b m.sent_open) (one_of p m.sent_open w.front.sent));
        received_same = sym (v.received_shown ∙ open_back (viewed b m.received_open) (one_of p m.received_open w.front.received));
        count_same = sym (length_parts writer b (kept m) ∙ length-take-le m.count m.tlvs few);
        tlv_same = table_same writer size_of entry (ViewAt s) b (λ t u. SameTlv t b u s) zero_tlv
            (λ n at t o e. record { kind_same = refl; len_same = refl; bytes_same = sym e }) _ m.tlvs m.count (tlvs_at (reading_of m b)) few fine v.tlvs_shown;
      });
    }
