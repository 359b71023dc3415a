-- The tests of `writable` are those of the list. Assumes nothing.
use mathlib.Core.Logic.{◌⊎◌, inl, inr}
use Prim.Native.Nat.{ℕ}
use Rattle.writing.specs.Unwritable.{ViewOutside, BgpTooShort}
use Rattle.writing.proofs.Unwritable.{FalseWhere, restated, not_up_to, outside, either_picked}
use Rattle.route_monitoring_writer.specs.Write.{writable}
use Rattle.route_monitoring_writer.specs.Unwritable.{Unwritable, bgp_too_short, view_outside}
use Rattle.route_monitoring.specs.declared.RouteMonitoring.{RouteMonitoring}

pub listed : (m : RouteMonitoring) (room : ℕ) → FalseWhere (writable m room) (Unwritable m room)
listed m room = restated forth back (either_picked (not_up_to 19 m.bgp_message.length) (outside room m.bgp_message))
  where
    forth : BgpTooShort m.bgp_message.length ⊎ ViewOutside m.bgp_message.place m.bgp_message.length room → Unwritable m room
    forth (inl short) = bgp_too_short short
    forth (inr far) = view_outside far

    back : Unwritable m room → BgpTooShort m.bgp_message.length ⊎ ViewOutside m.bgp_message.place m.bgp_message.length room
    back (bgp_too_short short) = inl short
    back (view_outside far) = inr far
