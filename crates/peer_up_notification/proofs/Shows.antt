-- What the reader shows: a good reading, with views that show its parts. Assumes nothing.
use mathlib.Core.Path.{◌≡◌, refl, sym, ap, ap₂, ◌∙◌}
use mathlib.Core.List.{List, ◌++◌, append_assoc}
use Prim.Native.Nat.{ℕ, ◌+◌, ◌-◌, ◌≤◌}
use native.Mathlib.Omega.{arith}
use borrow.Author.Tests.{le-leb, le-ltb}
use lib.ListN.{length, take, drop, length-append}
use lib.Seq.{take_at, drop_at, drop-drop}
use Rattle.wire.specs.Number as Number
use Rattle.wire.specs.Bytes.{be, value, num_at}
use Rattle.wire.specs.View.{view, viewed}
use Rattle.wire.specs.Parts.{AllAt}
use Rattle.wire.specs.Tlv.{Tlv, size_of}
use Rattle.wire.specs.Walk.{read_from}
use Rattle.wire.proofs.Bytes.{value_be, number_is}
use Rattle.wire.proofs.Tlv.{tlv_viewed}
use Rattle.wire.proofs.Walk.{read_complete, each_at}
use Rattle.addresses.specs.Address.{sixteen_at}
use Rattle.models.specs.declared.Afi.{Afi}
use Rattle.models.specs.declared.Afi.TheVariants.{Ipv4, Ipv6}
use Rattle.per_peer_type.specs.declared.BmpPeerType.{BmpPeerType}
use Rattle.peer_up_notification.specs.Grammar.{message_bytes, join_tlvs, join, skipped_for, address_for, Reading, Good, Fits}
use Rattle.peer_up_notification.specs.Warnings.{Head, warnings_of}
use Rattle.peer_up_notification.specs.Shown.{entry, info_of, sent_at, received_at, tlvs_at, shown_address, shown_front, ReadPeerUp, good_answer, stop_of, message_in, shown}
use Rattle.peer_up_notification.specs.Read.{front_of, kit, with_tlvs, with_received, with_sent, read_peer_up}
use Rattle.peer_up_notification.proofs.Address.{address_shown}
use Rattle.peer_up_notification.proofs.Names.{heads_shown}
use Rattle.peer_up_notification.proofs.Laws.{laws, tails}
use Rattle.peer_up_notification.proofs.Opens.{MessageAt, message-at}

-- the sixteen bytes of an address
pub address-field : (afi : Afi) → skipped_for afi + address_for afi ≡ 16
address-field Ipv4 = refl
address-field Ipv6 = refl

-- ---- where the parts of a good reading stand
module _ (afi : Afi) (r : Reading) (g : Good afi r) where
  abbrev field : List ℕ
  field = r.skipped ++ r.address

  abbrev messages : List ℕ
  messages = message_bytes r.sent_open ++ (message_bytes r.received_open ++ join_tlvs r)

  abbrev behind : List ℕ
  behind = be 2 r.local_port ++ (be 2 r.remote_port ++ messages)

  join_is : join r ≡ field ++ behind
  join_is = sym (append_assoc r.skipped r.address behind)

  field_long : length field ≡ 16
  field_long = length-append r.skipped r.address ∙ ap₂ ◌+◌ g.skipped_fits.many g.address-fits.many ∙ address-field afi

  pub field_at : take 16 (join r) ≡ field
  field_at = ap (take 16) join_is ∙ take_at field behind 16 field_long

  behind_at : drop 16 (join r) ≡ behind
  behind_at = ap (drop 16) join_is ∙ drop_at field behind 16 field_long

  pub local_port_at : num_at 2 (join r) 16 ≡ r.local_port
  unfolding be
  local_port_at = ap (λ (l : List ℕ). value (take 2 l)) behind_at ∙ value_be 2 r.local_port g.local_port_fits

  pub remote_port_at : num_at 2 (join r) 18 ≡ r.remote_port
  unfolding be
  remote_port_at =
      ap (λ (l : List ℕ). value (take 2 l)) (sym (drop-drop 2 16 (join r)) ∙ ap (drop 2) behind_at)
      ∙ value_be 2 r.remote_port g.remote_port_fits

  pub messages_at : drop sent_at (join r) ≡ messages
  unfolding be
  messages_at = sym (drop-drop 4 16 (join r)) ∙ ap (drop 4) behind_at

  pub long_enough : 20 ≤ length (join r)
  unfolding be
  long_enough = let n = ap length join_is ∙ length-append field behind in omega (arith, n, field_long)

  pub sent-at : MessageAt (join r) sent_at r.sent_open (message_bytes r.received_open ++ join_tlvs r)
  sent-at = message-at (join r) sent_at r.sent_open _ g.sent_good messages_at

  pub received-at : MessageAt (join r) (received_at r) r.received_open (join_tlvs r)
  received-at = message-at (join r) (received_at r) r.received_open _ g.received_good sent-at.behind_is

  -- ---- and how they are shown
  pub shown-front : front_of afi (join r) (view sent_at r.sent_open.size) (view (received_at r) r.received_open.size) ≡ shown_front afi r
  shown-front =
      let s = join r in
      let n = long_enough in
      let octets : sixteen_at s 0 ≡ field = rw (le-leb 16 (length s - 0) (omega arith)) field_at in
      let address : drop (skipped_for afi) (sixteen_at s 0) ≡ r.address =
      ap (drop (skipped_for afi)) octets ∙ drop_at r.skipped r.address (skipped_for afi) g.skipped_fits.many in
      let local-address = address_shown afi (sixteen_at s 0) ∙ ap (shown_address afi) address in
      let local-port = number_is 2 s 16 (omega arith) ∙ local_port_at in
      let remote-port = number_is 2 s 18 (omega arith) ∙ remote_port_at in
      λ i. record {
        local_addr = local-address i;
        local_port = local-port i;
        remote_port = remote-port i;
        sent_open = view sent_at r.sent_open.size;
        received_open = view (received_at r) r.received_open.size;
      }

  pub shown_tlvs : (peer : BmpPeerType) → Fits r
      → with_tlvs peer (shown_front afi r) (read_from kit (length (join r)) (tlvs_at r) (join r)) ≡ shown afi peer r
  shown_tlvs peer few =
      let a = read_complete kit laws tails (tlvs_at r) (join r) r.tlvs r.tail g.each g.tail_good (sym received-at.behind_is) few in
      ap (with_tlvs peer (shown_front afi r)) a.shown_so
      ∙ ap (λ (l : List Head). good_answer (stop_of (shown afi peer r)) (warnings_of peer l) (message_in (shown afi peer r))) (heads_shown (tlvs_at r) r.tlvs _)

  pub shown_all : (peer : BmpPeerType) → Fits r → length (join r) ≤ Number.limit → read_peer_up afi peer (join r) ≡ shown afi peer r
  shown_all peer few short =
      let s = join r in
      rw (le-ltb Number.limit (length s) short, le-ltb (length s) sent_at long_enough)
      (ap (with_sent afi peer s) sent-at.found_is
      ∙ ap (with_received afi peer s (view sent_at r.sent_open.size)) received-at.found_is
      ∙ ap (λ f. with_tlvs peer f (read_from kit (length s) (tlvs_at r) s)) shown-front ∙ shown_tlvs peer few)

-- ---- the view of a TLV that stands at a place shows its value
abbrev pub ViewAt : List ℕ → ℕ → Tlv → Type 0
ViewAt s at t = viewed s (info_of (entry at t)) ≡ t.value

-- the views of an answer to s show the parts of r
pub record ShowsParts (s : List ℕ) (a : ReadPeerUp) (r : Reading) : Type 0 where
  pub sent_shown : viewed s (message_in a).sent_open ≡ message_bytes r.sent_open
  pub received_shown : viewed s (message_in a).received_open ≡ message_bytes r.received_open
  pub tlvs_shown : AllAt size_of (ViewAt s) (tlvs_at r) r.tlvs

pub shows_parts : (afi : Afi) (peer : BmpPeerType) (r : Reading) → Good afi r → ShowsParts (join r) (shown afi peer r) r
shows_parts afi peer r g =
    record {
      sent_shown = (sent-at afi r g).viewed_is;
      received_shown = (received-at afi r g).viewed_is;
      tlvs_shown =
          each_at kit laws (ViewAt (join r)) (join r) (λ at t x w e. tlv_viewed t x w (join r) at e) r.tlvs r.tail (tlvs_at r)
          g.each (sym (received-at afi r g).behind_is);
    }
