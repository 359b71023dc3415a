-- The reading that an answer tells: the parts of the BGP message that its view shows. There is no tail.
use Rattle.std.specs.Prelude.{ℕ, List, take, drop}
use Rattle.wire.specs.Bytes.{num_at}
use Rattle.wire.specs.Exactly.{Nothing}
use Rattle.wire.specs.declared.View.{View}
use Rattle.route_monitoring.specs.Grammar.{Reading}
use Rattle.route_monitoring.specs.Shown.{RouteMonitoringAnswer, message_of}

-- the parts of a message, where it is long enough
abbrev pub parts_of : List ℕ → Reading
parts_of s = record { marker = take 16 s; size = num_at 2 s 16; kind = num_at 1 s 18; rest = drop 19 s }

abbrev pub told : (View → List ℕ) → RouteMonitoringAnswer → Nothing → List ℕ → Reading
told look a x tail = parts_of (look (message_of a).bgp_message)
