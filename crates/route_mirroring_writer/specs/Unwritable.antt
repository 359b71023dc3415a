-- Which records are not writable, by the length of the buffer that their views point into, as a list. It goes by no reader.
use Rattle.std.specs.Prelude.{ℕ, ◌<◌, ◌≡◌, length, get_or}
use Rattle.writing.specs.Unwritable.{AboveLast, ViewOutside, TooMany, LengthNotTwo, BgpTooShort, TlvTyped}
use Rattle.route_mirroring.specs.Shown.{zero_tlv}
use Rattle.route_mirroring.specs.declared.RouteMirroringTlv.{RouteMirroringTlv}
use Rattle.route_mirroring.specs.declared.RouteMirroring.{RouteMirroring}

-- a TLV: type 0 is a BGP message, and its number a place; type 1 is information, and its number a code
pub data TlvUnwritable (t : RouteMirroringTlv) (room : ℕ) : Type 0 where
  unknown_type : AboveLast 1 t.kind → TlvUnwritable t room
  bgp_too_short : t.kind ≡ 0 → BgpTooShort t.info_len → TlvUnwritable t room
  view_outside : t.kind ≡ 0 → ViewOutside t.number t.info_len room → TlvUnwritable t room
  information_not_two : t.kind ≡ 1 → LengthNotTwo t.info_len → TlvUnwritable t room
  unknown_information : t.kind ≡ 1 → AboveLast 1 t.number → TlvUnwritable t room

pub data Unwritable (m : RouteMirroring) (room : ℕ) : Type 0 where
  too_many : TooMany 32 m.count → Unwritable m room
  some_tlv : (i : ℕ) → i < m.count → TlvUnwritable (get_or m.tlvs i zero_tlv) room → Unwritable m room

-- what the types of its fields say of every record
pub record Typed (m : RouteMirroring) : Type 0 where
  pub table_long : length m.tlvs ≡ 32
  pub each_typed : (i : ℕ) → i < 32 → TlvTyped (get_or m.tlvs i zero_tlv).kind (get_or m.tlvs i zero_tlv).info_len
