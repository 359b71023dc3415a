-- Which messages are not writable, by the length of the buffer that the view points into, as a list. It goes by no reader.
use Rattle.std.specs.Prelude.{ℕ}
use Rattle.writing.specs.Unwritable.{ViewOutside, BgpTooShort}
use Rattle.route_monitoring.specs.declared.RouteMonitoring.{RouteMonitoring}

pub data Unwritable (m : RouteMonitoring) (room : ℕ) : Type 0 where
  bgp_too_short : BgpTooShort m.bgp_message.length → Unwritable m room
  view_outside : ViewOutside m.bgp_message.place m.bgp_message.length room → Unwritable m room
