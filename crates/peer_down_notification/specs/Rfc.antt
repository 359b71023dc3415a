-- RFC 7854, section 4.9, and for reason 6 RFC 9069, section 5.3: after the per-peer header a Peer Down notification has a reason of 1 byte, and
-- then what goes with it:
--
--     1   the local system closed the session    the NOTIFICATION (BGP type 3) that it sent
--     2   the local system closed the session    the code of the FSM event, 2 bytes; 0 where there was none
--     3   the remote system closed the session   the NOTIFICATION that came
--     4   the remote system closed the session   nothing: no NOTIFICATION came
--     5   the peer is no longer monitored        nothing
--     6   a Loc-RIB went down                    information TLVs
use Rattle.std.specs.Prelude.{ℕ, ◌^◌, ◌<◌, List, [], ◌++◌}
use Rattle.wire.specs.Bytes.{be}
use Rattle.wire.specs.Rfc.{together, Each, Information, information_bytes, InformationFits, BgpMessage, bgp_bytes, IsBgp}
use Rattle.peer_down_notification.specs.Grammar.{Data, absent, present, data_bytes, Reading}

pub data Body : Type 0 where
  closed_here : (sent : BgpMessage) → Body
  closed_by_event : (code : ℕ) → Body
  closed_there : (received : BgpMessage) → Body
  lost : Body
  no_longer_monitored : Body
  loc_rib_down : (tlvs : List Information) → Body

abbrev pub reason_of : Body → ℕ
reason_of (closed_here sent) = 1
reason_of (closed_by_event code) = 2
reason_of (closed_there received) = 3
reason_of lost = 4
reason_of no_longer_monitored = 5
reason_of (loc_rib_down tlvs) = 6

abbrev pub data_of : Body → Data
data_of (closed_here sent) = present (bgp_bytes sent)
data_of (closed_by_event code) = present (be 2 code)
data_of (closed_there received) = present (bgp_bytes received)
data_of lost = absent
data_of no_longer_monitored = absent
data_of (loc_rib_down tlvs) = present (together information_bytes tlvs)

abbrev pub bytes : Body → List ℕ
bytes b = be 1 (reason_of b) ++ data_bytes (data_of b)

abbrev pub Conforms : Body → Type 0
Conforms (closed_here sent) = IsBgp 3 sent
Conforms (closed_by_event code) = code < 2 ^ 16
Conforms (closed_there received) = IsBgp 3 received
Conforms lost = Unit {0}
Conforms no_longer_monitored = Unit {0}
Conforms (loc_rib_down tlvs) = Each InformationFits tlvs

-- ---- what the plain reading makes of it: what goes with the reason, and nothing left
abbrev pub reading : Body → Reading
reading b = record { reason = reason_of b; data_part = data_of b; tail = [] }
