-- Which records are not writable, by the buffer that their views point into, as a list. It goes by no reader.
use Rattle.std.specs.Prelude.{ℕ, ◌<◌, ◌≡◌, List, length, take, get_or}
use Rattle.wire.specs.Bytes.{num_at}
use Rattle.wire.specs.View.{viewed}
use Rattle.wire.specs.declared.View.{View}
use Rattle.writing.specs.Unwritable.{ViewOutside, LengthTooLarge, TooMany, BgpTooShort, TlvTyped}
use Rattle.models.specs.Address.{UnusedNotZero}
use Rattle.peer_up_notification.specs.Shown.{zero_tlv}
use Rattle.peer_up_notification.specs.declared.PeerUpNotification.{PeerUpNotification}

-- an OPEN view whose own length field, the two bytes at its place 16, differs
abbrev pub OwnLengthDiffers : List ℕ → ℕ → Type 0
OwnLengthDiffers message length = num_at 2 message 16 ≡ length → ⊥

pub data OpenUnwritable (v : View) (b : List ℕ) : Type 0 where
  view_outside : ViewOutside v.place v.length (length b) → OpenUnwritable v b
  bgp_too_short : BgpTooShort v.length → OpenUnwritable v b
  length_too_large : LengthTooLarge v.length → OpenUnwritable v b
  own_length_differs : OwnLengthDiffers (viewed b v) v.length → OpenUnwritable v b

pub data Unwritable (m : PeerUpNotification) (b : List ℕ) : Type 0 where
  unused_not_zero : UnusedNotZero m.local_addr.afi (take 12 m.local_addr.octets) → Unwritable m b
  sent-open : OpenUnwritable m.sent_open b → Unwritable m b
  received-open : OpenUnwritable m.received_open b → Unwritable m b
  too_many : TooMany 32 m.count → Unwritable m b
  some_tlv_outside : (i : ℕ) → i < m.count → ViewOutside (get_or m.tlvs i zero_tlv).place (get_or m.tlvs i zero_tlv).info_len (length b)
      → Unwritable m b

-- what the types of their fields say of every TLV of a record
abbrev pub TlvsTyped : PeerUpNotification → Type 0
TlvsTyped m = (i : ℕ) → i < 32 → TlvTyped (get_or m.tlvs i zero_tlv).kind (get_or m.tlvs i zero_tlv).info_len
