-- Which headers are not writable, by the length of the buffer that the views point into, as a list. It goes by no reader.
use Rattle.std.specs.Prelude.{ℕ, drop}
use Rattle.writing.specs.Unwritable.{NotTheOne, ViewOutside, LengthTooLarge}
use Rattle.models.specs.Address.{UnusedNotZero}
use Rattle.times.specs.Time.{NotItsWords}
use Rattle.openbmp.specs.declared.OpenBmpHeader.{OpenBmpHeader}

pub data Unwritable (h : OpenBmpHeader) (room : ℕ) : Type 0 where
  major_not_1 : NotTheOne 1 h.major_version → Unwritable h room
  minor_not_7 : NotTheOne 7 h.minor_version → Unwritable h room
  object_type_not_12 : NotTheOne 12 h.object_type → Unwritable h room
  not_its_words : NotItsWords h.timestamp h.seconds h.microseconds → Unwritable h room
  unused_not_zero : UnusedNotZero h.router_ip.afi (drop 4 h.router_ip.octets) → Unwritable h room
  admin_too_large : LengthTooLarge h.admin_id.length → Unwritable h room
  admin_outside : ViewOutside h.admin_id.place h.admin_id.length room → Unwritable h room
  group_too_large : LengthTooLarge h.router_group.length → Unwritable h room
  group_outside : ViewOutside h.router_group.place h.router_group.length room → Unwritable h room
