-- Which records are not writable, by the length of the buffer that their views point into, as a list. It goes by no reader.
use Rattle.std.specs.Prelude.{ℕ, ◌-◌, ◌<◌, ◌≡◌, length, get_or}
use Rattle.writing.specs.Unwritable.{AboveLast, ViewOutside, TooMany, LastAndEmpty, LengthNotTwo, TlvTyped}
use Rattle.termination_message.specs.Shown.{zero_tlv}
use Rattle.termination_message.specs.declared.TerminationTlv.{TerminationTlv}
use Rattle.termination_message.specs.declared.TerminationMessage.{TerminationMessage}

-- a TLV, by the number of TLVs after it: type 0 is a String, and its number a place; type 1 is a Reason, and its number a code
pub data TlvUnwritable (t : TerminationTlv) (after room : ℕ) : Type 0 where
  unknown_type : AboveLast 1 t.kind → TlvUnwritable t after room
  view_outside : t.kind ≡ 0 → ViewOutside t.number t.info_len room → TlvUnwritable t after room
  last_and_empty : LastAndEmpty t.info_len after → TlvUnwritable t after room
  reason_not_two : t.kind ≡ 1 → LengthNotTwo t.info_len → TlvUnwritable t after room
  unknown_reason : t.kind ≡ 1 → AboveLast 4 t.number → TlvUnwritable t after room

pub data Unwritable (m : TerminationMessage) (room : ℕ) : Type 0 where
  too_many : TooMany 32 m.count → Unwritable m room
  some_tlv : (i : ℕ) → i < m.count → TlvUnwritable (get_or m.tlvs i zero_tlv) (m.count - i - 1) room → Unwritable m room

-- what the types of its fields say of every record
pub record Typed (m : TerminationMessage) : Type 0 where
  pub table_long : length m.tlvs ≡ 32
  pub each_typed : (i : ℕ) → i < 32 → TlvTyped (get_or m.tlvs i zero_tlv).kind (get_or m.tlvs i zero_tlv).info_len
