-- Which records are not writable, by the length of the buffer that their views point into, as a list. It goes by no reader.
use Rattle.std.specs.Prelude.{ℕ, ◌-◌, ◌<◌, ◌≡◌, length, get_or}
use Rattle.writing.specs.Unwritable.{ViewOutside, TooMany, LastAndEmpty, TlvTyped}
use Rattle.initiation_message.specs.Shown.{zero_tlv}
use Rattle.initiation_message.specs.declared.InitiationTlv.{InitiationTlv}
use Rattle.initiation_message.specs.declared.InitiationMessage.{InitiationMessage}

-- a TLV, by the number of TLVs after it
pub data TlvUnwritable (t : InitiationTlv) (after room : ℕ) : Type 0 where
  view_outside : ViewOutside t.place t.info_len room → TlvUnwritable t after room
  last_and_empty : LastAndEmpty t.info_len after → TlvUnwritable t after room

pub data Unwritable (m : InitiationMessage) (room : ℕ) : Type 0 where
  too_many : TooMany 32 m.count → Unwritable m room
  some_tlv : (i : ℕ) → i < m.count → TlvUnwritable (get_or m.tlvs i zero_tlv) (m.count - i - 1) room → Unwritable m room

-- what the types of its fields say of every record
pub record Typed (m : InitiationMessage) : Type 0 where
  pub table_long : length m.tlvs ≡ 32
  pub each_typed : (i : ℕ) → i < 32 → TlvTyped (get_or m.tlvs i zero_tlv).kind (get_or m.tlvs i zero_tlv).info_len
