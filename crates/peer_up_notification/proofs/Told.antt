-- A good reading that fits is told by the answer that shows it. Assumes nothing.
use Prim.Native.Nat.{ℕ, ◌+◌, ◌-◌, ◌≤◌}
use mathlib.Core.Path.{◌≡◌, sym, ap, ◌∙◌}
use mathlib.Core.List.{List}
use native.Mathlib.Omega.{arith}
use lib.ListN.{length, drop, replicate, length-append, length-drop, length-replicate}
use lib.Seq.{drop_at}
use Rattle.wire.specs.View.{viewed}
use Rattle.wire.specs.Tlv.{Tlv, put_tlv, size_of}
use Rattle.wire.specs.Exactly.{Told}
use Rattle.wire.proofs.Tlv.{tlv_viewed}
use Rattle.wire.proofs.Walk.{each_at, items_told, tail_behind, end_within}
use Rattle.models.specs.declared.Afi.{Afi}
use Rattle.per_peer_type.specs.declared.BmpPeerType.{BmpPeerType}
use Rattle.peer_up_notification.specs.Grammar.{message_bytes, join_tlvs, skipped_for, ReadTlv, join, places}
use Rattle.peer_up_notification.specs.Shown.{entry, zero_tlv, received_at, tlvs_at}
use Rattle.peer_up_notification.specs.Told.{open_of, told_tlv}
use Rattle.peer_up_notification.specs.Read.{kit, reader}
use Rattle.peer_up_notification.proofs.Laws.{laws}
use Rattle.peer_up_notification.proofs.Opens.{message_long, open_join}
use Rattle.peer_up_notification.proofs.Shows.{sent-at, received-at}

tlv_told : (s : List ℕ) (at : ℕ) (t : Tlv) (r : List ℕ) → ReadTlv t r → drop at s ≡ put_tlv t r → told_tlv (viewed s) (entry at t) ≡ t
tlv_told s at t r g e =
    let value-is = tlv_viewed t r g s at e in
    λ i. record { kind = t.kind; size = t.size; value = value-is i }

pub told_back : (afi : Afi) (peer : BmpPeerType) → Told (reader afi peer)
told_back afi peer r g f =
    let s = join r in
    let at = tlvs_at r in
    let here = sym (received-at afi r g).behind_is in
    let behind : length s - received_at r ≡ r.received_open.size + length (join_tlvs r) =
    sym (length-drop (received_at r) s) ∙ ap length (sent-at afi r g).behind_is ∙ length-append (message_bytes r.received_open) (join_tlvs r)
    ∙ ap (λ (n : ℕ). n + length (join_tlvs r)) (message_long r.received_open g.received_good) in
    let start : at ≤ length s = omega (arith, behind, g.received_good.has-header) in
    let address_is = drop_at (replicate (skipped_for afi) 0) r.address (skipped_for afi) (length-replicate (skipped_for afi) 0) in
    let sent_is = ap open_of (sent-at afi r g).viewed_is ∙ open_join r.sent_open g.sent_good in
    let received_is = ap open_of (received-at afi r g).viewed_is ∙ open_join r.received_open g.received_good in
    let each = each_at kit laws (λ at t. told_tlv (viewed s) (entry at t) ≡ t) s (tlv_told s) r.tlvs r.tail at g.each here in
    let tlvs-are = items_told size_of entry (told_tlv (viewed s)) r.tlvs at (replicate (places - length r.tlvs) zero_tlv) each in
    record {
      told_so =
          λ i. record {
            skipped = r.skipped;
            address = address_is i;
            local_port = r.local_port;
            remote_port = r.remote_port;
            sent_open = sent_is i;
            received_open = received_is i;
            tlvs = tlvs-are i;
            tail = r.tail;
          };
      tail_so = tail_behind kit laws s r.tlvs r.tail at g.each here;
      tail_within = end_within kit laws s r.tlvs r.tail at g.each here start;
    }
