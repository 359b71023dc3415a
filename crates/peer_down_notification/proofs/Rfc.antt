-- A body that conforms to RFC 7854 or RFC 9069 is read, and shown with what goes with its reason. Assumes nothing.
use mathlib.Core.Path.{refl, ap}
use mathlib.Core.List.{List, [], ◌++◌, append-nil}
use mathlib.Core.Logic.{inl, inr}
use Prim.Native.Nat.{ℕ, ◌≤◌}
use lib.ListN.{length}
use Rattle.wire.specs.Number as Number
use Rattle.wire.specs.Bytes.{be, Bytes, none}
use Rattle.wire.specs.Rfc.{together, information_bytes, InformationFits, bgp_bytes}
use Rattle.wire.specs.Exactly.{Shows}
use Rattle.wire.proofs.Bytes.{bytes_be}
use Rattle.wire.proofs.Rfc.{information-bytes, bgp-bytes, together_bytes}
use Rattle.wire.proofs.Exactly.{shows_good}
use Rattle.peer_down_notification.specs.Grammar.{data_bytes, Follows, the_rest, no_data}
use Rattle.peer_down_notification.specs.Read.{reader}
use Rattle.peer_down_notification.specs.Rfc.{Body, closed_here, closed_by_event, closed_there, lost, no_longer_monitored, loc_rib_down, reason_of, data_of, bytes, Conforms, reading}
use Rattle.peer_down_notification.proofs.Promises.{complete}

-- ---- what goes with each reason
follows : (b : Body) → Follows (reason_of b) (data_of b) []
follows (closed_here sent) = the_rest (inl refl) (bgp_bytes sent)
follows (closed_by_event code) = the_rest (inr (inl refl)) (be 2 code)
follows (closed_there received) = the_rest (inr (inr (inl refl))) (bgp_bytes received)
follows lost = no_data (inl refl) []
follows no_longer_monitored = no_data (inr refl) []
follows (loc_rib_down tlvs) = the_rest (inr (inr (inr refl))) (together information_bytes tlvs)

data-bytes : (b : Body) → Conforms b → Bytes (data_bytes (data_of b))
data-bytes (closed_here sent) c = bgp-bytes 3 sent c
data-bytes (closed_by_event code) c = bytes_be 2 code
data-bytes (closed_there received) c = bgp-bytes 3 received c
data-bytes lost c = none
data-bytes no_longer_monitored c = none
data-bytes (loc_rib_down tlvs) c = together_bytes InformationFits information_bytes information-bytes tlvs c

-- A conforming body is shown with what goes with its reason, and nothing left.
pub conforming_shown : (b : Body) → Conforms b → length (bytes b) ≤ Number.limit → Shows reader (bytes b) (reading b)
conforming_shown b c limit =
    shows_good reader complete (reading b) (record { follows = follows b; data-bytes = data-bytes b c; tail_bytes = none }) tt (bytes b)
    (ap (λ (r : List ℕ). be 1 (reason_of b) ++ r) (append-nil (data_bytes (data_of b)))) limit
