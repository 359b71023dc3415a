-- The reading that an answer tells: its address, with the bytes that are skipped before it, its ports, the BGP messages that its views
-- show, the TLVs of its table below the count, and the tail.
use Rattle.std.specs.Prelude.{ℕ, List, take, drop}
use Rattle.wire.specs.Bytes.{num_at}
use Rattle.wire.specs.Parts.{items_in}
use Rattle.wire.specs.Tlv.{Tlv}
use Rattle.wire.specs.declared.View.{View}
use Rattle.models.specs.declared.IpAddr.{IpAddr}
use Rattle.peer_up_notification.specs.Grammar.{Message, skipped_for, Reading}
use Rattle.peer_up_notification.specs.Shown.{info_of, ReadPeerUp, message_in}
use Rattle.peer_up_notification.specs.declared.PeerUpNotificationTlv.{PeerUpNotificationTlv}
use Rattle.peer_up_notification.specs.declared.PeerUpNotification.{PeerUpNotification}

abbrev pub told_address : IpAddr → List ℕ
told_address ip = drop (skipped_for ip.afi) ip.octets

-- the bytes of a BGP message by its parts
abbrev pub open_of : List ℕ → Message
open_of s = record { marker = take 16 s; size = num_at 2 s 16; rest = drop 18 s }

abbrev pub told_tlv : (View → List ℕ) → PeerUpNotificationTlv → Tlv
told_tlv look t = record { kind = t.kind; size = t.info_len; value = look (info_of t) }

abbrev pub told_message : (View → List ℕ) → PeerUpNotification → List ℕ → List ℕ → Reading
told_message look m skipped tail =
    record {
      skipped = skipped;
      address = told_address m.local_addr;
      local_port = m.local_port;
      remote_port = m.remote_port;
      sent_open = open_of (look m.sent_open);
      received_open = open_of (look m.received_open);
      tlvs = items_in (told_tlv look) m.count m.tlvs;
      tail = tail;
    }

abbrev pub told : (View → List ℕ) → ReadPeerUp → List ℕ → List ℕ → Reading
told look a skipped tail = told_message look (message_in a) skipped tail
