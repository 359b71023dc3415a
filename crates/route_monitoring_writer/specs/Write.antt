-- What the writer writes: the message as it stands; which are writable; when two are the same.
use Rattle.std.specs.Prelude.{ℕ, ◌≡◌, Bool, false, List, leb}
use Rattle.wire.specs.Bytes.{pick}
use Rattle.wire.specs.View.{inside, viewed}
use Rattle.wire.specs.declared.View.{View}
use Rattle.route_monitoring.specs.declared.RouteMonitoring.{RouteMonitoring}

abbrev pub bytes_of : RouteMonitoring → List ℕ → List ℕ
bytes_of m b = viewed b m.bgp_message

-- the view has room for a BGP header, and lies inside the buffer
abbrev pub view_writable : View → ℕ → Bool
view_writable v room = pick (leb 19 v.length) (inside room v) false

abbrev pub writable : RouteMonitoring → ℕ → Bool
writable m room = view_writable m.bgp_message room

-- two are the same: the bytes that their views show are, each in its own buffer
abbrev pub Same : RouteMonitoring → List ℕ → RouteMonitoring → List ℕ → Type 0
Same m b n s = viewed b m.bgp_message ≡ viewed s n.bgp_message
