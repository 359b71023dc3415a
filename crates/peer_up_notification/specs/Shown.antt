-- How a reading is shown in the answer, and what a refusal shows. Nothing here takes an input apart.
use Rattle.std.specs.Prelude.{ℕ, ◌+◌, ◌-◌, List, [], ◌∷◌, ◌++◌, length, take, replicate, get_or, Result, Ok, Err}
use Rattle.wire.specs.Refusal.{no_refusal}
use Rattle.wire.specs.View.{view, no_view}
use Rattle.wire.specs.Parts.{shown_from, end_from}
use Rattle.wire.specs.Tlv.{Tlv, size_of}
use Rattle.wire.specs.declared.Refusal.{Refusal}
use Rattle.wire.specs.declared.View.{View}
use Rattle.models.specs.Address.{unspecified}
use Rattle.models.specs.declared.Afi.{Afi}
use Rattle.models.specs.declared.IpAddr.{IpAddr}
use Rattle.per_peer_type.specs.declared.BmpPeerType.{BmpPeerType}
use Rattle.peer_up_notification.specs.Grammar.{skipped_for, Reading, places}
use Rattle.peer_up_notification.specs.Warnings.{warnings}
use Rattle.peer_up_notification.specs.declared.PeerUpTlvType.{PeerUpTlvType}
use Rattle.peer_up_notification.specs.declared.PeerUpTlvType.TheVariants.{String, SysDescr, SysName, VrTableName, AdminLabel, Unknown}
use Rattle.peer_up_notification.specs.declared.PeerUpNotificationTlv.{PeerUpNotificationTlv}
use Rattle.peer_up_notification.specs.declared.PeerUpNotification.{PeerUpNotification}
use Rattle.peer_up_notification.specs.declared.PeerUpAnswer.{PeerUpAnswer}

-- types 0 to 4 have names: 1 and 2 are those of the Initiation message, which shared its numbers with Peer Up before RFC 9736
abbrev pub names : List PeerUpTlvType
names = String ∷ SysDescr ∷ SysName ∷ VrTableName ∷ AdminLabel ∷ []

unfoldable pub type_of : ℕ → PeerUpTlvType
type_of n = get_or names n (Unknown n)

unfoldable pub kind_of : PeerUpTlvType → ℕ
kind_of String = 0
kind_of SysDescr = 1
kind_of SysName = 2
kind_of VrTableName = 3
kind_of AdminLabel = 4
kind_of (Unknown n) = n

-- the entry of three numbers: the type, the length, and the place of the value
abbrev pub shown_tlv : ℕ → ℕ → ℕ → PeerUpNotificationTlv
shown_tlv kind size place = record { kind = kind; info_len = size; place = place }

abbrev pub zero_tlv : PeerUpNotificationTlv
zero_tlv = shown_tlv 0 0 0

unfoldable pub zero_table : List PeerUpNotificationTlv
zero_table = replicate places zero_tlv

-- a TLV as the table shows it, where it starts at a place
abbrev pub entry : ℕ → Tlv → PeerUpNotificationTlv
entry at t = shown_tlv t.kind t.size (at + 4)

-- the view of an entry's value
abbrev pub info_of : PeerUpNotificationTlv → View
info_of t = view t.place t.info_len

-- an address with zeros before it, where bytes are skipped
abbrev pub shown_address : Afi → List ℕ → IpAddr
shown_address afi address = record { octets = replicate (skipped_for afi) 0 ++ address; afi = afi }

-- where the messages and the TLVs start
abbrev pub sent_at : ℕ
sent_at = 20

abbrev pub received_at : Reading → ℕ
received_at r = sent_at + r.sent_open.size

abbrev pub tlvs_at : Reading → ℕ
tlvs_at r = received_at r + r.received_open.size

-- what stands before the TLVs
pub record Front : Type 0 where
  pub local_addr : IpAddr
  pub local_port : ℕ
  pub remote_port : ℕ
  pub sent_open : View
  pub received_open : View

abbrev pub shown_front : Afi → Reading → Front
shown_front afi r =
    record {
      local_addr = shown_address afi r.address;
      local_port = r.local_port;
      remote_port = r.remote_port;
      sent_open = view sent_at r.sent_open.size;
      received_open = view (received_at r) r.received_open.size;
    }

-- a message of what stands before the TLVs, and a table of them with their count
abbrev pub message_of : Front → ℕ → List PeerUpNotificationTlv → PeerUpNotification
message_of f count table =
    record {
      local_addr = f.local_addr;
      local_port = f.local_port;
      remote_port = f.remote_port;
      sent_open = f.sent_open;
      received_open = f.received_open;
      tlvs = table;
      count = count;
    }

-- the entries of the table that are in use
abbrev pub kept : PeerUpNotification → List PeerUpNotificationTlv
kept m = take m.count m.tlvs

-- what the reader answers: the stop, the warnings and the message, or a refusal
abbrev pub ReadPeerUp : Type 0
ReadPeerUp = Result PeerUpAnswer Refusal

abbrev pub good_answer : ℕ → ℕ → PeerUpNotification → ReadPeerUp
good_answer end word message = Ok (record { stop = end; warnings = word; message = message })

abbrev pub refused_answer : Refusal → ReadPeerUp
refused_answer r = Err r

-- what an answer says: its refusal, the stop and the message. A refusal shows nothing: every number is zero, and the address is IPv4
abbrev pub refusal_of : ReadPeerUp → Refusal
refusal_of (Ok a) = no_refusal
refusal_of (Err r) = r

abbrev pub stop_of : ReadPeerUp → ℕ
stop_of (Ok a) = a.stop
stop_of (Err r) = 0

abbrev pub zero_front : Front
zero_front =
    record {
      local_addr = unspecified;
      local_port = 0;
      remote_port = 0;
      sent_open = no_view;
      received_open = no_view;
    }

abbrev pub message_in : ReadPeerUp → PeerUpNotification
message_in (Ok a) = a.message
message_in (Err r) = message_of zero_front 0 zero_table

-- the good answer: the TLVs in order, entries past the count zero, the stop where the last TLV ends and the tail starts
abbrev pub shown : Afi → BmpPeerType → Reading → ReadPeerUp
shown afi peer r =
    good_answer (end_from size_of (tlvs_at r) r.tlvs) (warnings peer r)
    (message_of (shown_front afi r) (length r.tlvs)
    (shown_from size_of entry (tlvs_at r) r.tlvs ++ replicate (places - length r.tlvs) zero_tlv))
