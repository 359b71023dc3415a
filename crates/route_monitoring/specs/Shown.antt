-- How a reading is shown in the answer, and what each answer says.
use Rattle.std.specs.Prelude.{ℕ, ◌+◌, length, Result, Ok, Err}
use Rattle.wire.specs.Refusal.{no_refusal}
use Rattle.wire.specs.View.{view, no_view}
use Rattle.wire.specs.declared.Refusal.{Refusal}
use Rattle.models.specs.declared.AsnLength.{AsnLength}
use Rattle.per_peer_type.specs.declared.BmpPeerType.{BmpPeerType}
use Rattle.route_monitoring.specs.Grammar.{Reading}
use Rattle.route_monitoring.specs.Warnings.{warnings_of}
use Rattle.route_monitoring.specs.declared.RouteMonitoring.{RouteMonitoring}

-- what the reader answers: the message, its end as the stop and the warnings, or why there is none
abbrev pub RouteMonitoringAnswer : Type 0
RouteMonitoringAnswer = Result (RouteMonitoring × ℕ × ℕ) Refusal

-- the good answer to a body of this length, which is all of it the message
abbrev pub good_of : AsnLength → BmpPeerType → ℕ → RouteMonitoringAnswer
good_of width t n = Ok (record { bgp_message = view 0 n }, n, warnings_of width t)

-- a BGP header has 19 bytes
abbrev pub shown : AsnLength → BmpPeerType → Reading → RouteMonitoringAnswer
shown width t r = good_of width t (19 + length r.rest)

-- what each answer says: its refusal, its stop, its warnings and its message, all zero where it refuses
abbrev pub refusal_of : RouteMonitoringAnswer → Refusal
refusal_of (Ok x) = no_refusal
refusal_of (Err r) = r

abbrev pub stop_of : RouteMonitoringAnswer → ℕ
stop_of (Ok x) = x.1
stop_of (Err r) = 0

abbrev pub warnings_in : RouteMonitoringAnswer → ℕ
warnings_in (Ok x) = x.2
warnings_in (Err r) = 0

abbrev pub zero_message : RouteMonitoring
zero_message = record { bgp_message = no_view }

abbrev pub message_of : RouteMonitoringAnswer → RouteMonitoring
message_of (Ok x) = x.0
message_of (Err r) = zero_message
