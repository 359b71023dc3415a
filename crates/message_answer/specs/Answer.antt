-- What follows the common header of a message is answered with: that it is read, or the refusal of the first part that is refused, of the
-- per-peer header and the body. Its place counts from the start of that part.
use Rattle.std.specs.Prelude.{ℕ, List, drop, Result, Ok, Err}
use Rattle.wire.specs.Refusal.{no_refusal}
use Rattle.wire.specs.declared.Refusal.{Refusal}
use Rattle.common_header.specs.declared.BmpMsgType.{BmpMsgType}
use Rattle.common_header.specs.declared.BmpMsgType.TheVariants.{RouteMonitoring, StatisticsReport, PeerDownNotification, PeerUpNotification, InitiationMessage, TerminationMessage, RouteMirroringMessage}
use Rattle.per_peer_record.specs.Header.{afi_of, asn_length_of}
use Rattle.per_peer_record.specs.declared.BmpPerPeerHeader.{BmpPerPeerHeader}
use Rattle.per_peer_header.specs.Read.{read_per_peer_header}
use Rattle.per_peer_header.specs.Shown.{PerPeerHeaderResult}
use Rattle.route_monitoring.specs.Read.{read_route_monitoring}
use Rattle.stats_report.specs.Read.{read_stats}
use Rattle.peer_down_notification.specs.Read.{read_peer_down}
use Rattle.peer_up_notification.specs.Read.{read_peer_up}
use Rattle.initiation_message.specs.Read.{read_initiation}
use Rattle.termination_message.specs.Read.{read_termination}
use Rattle.route_mirroring.specs.Read.{read_mirroring}
use Rattle.message_answer.specs.declared.PeerBody.{PeerBody}
use Rattle.message_answer.specs.declared.PeerBody.TheVariants.{Monitoring, Statistics, Down, Up, Mirroring}

abbrev pub Answer : Type 0
Answer = Result (Unit {0}) Refusal

-- what an answer says: its refusal, and the number of that, both zero where it is read
abbrev pub refusal_of : Answer → Refusal
refusal_of (Ok x) = no_refusal
refusal_of (Err r) = r

abbrev pub number : Answer → ℕ
number a = (refusal_of a).number

-- whether something is read, without what is read
abbrev pub judged : {A : Type 0} → Result A Refusal → Answer
judged (Ok x) = Ok tt
judged (Err r) = Err r

-- the answer to a body; what its reader is given beside the bytes comes from the header
unfoldable pub body_answer : PeerBody → BmpPerPeerHeader → List ℕ → Answer
body_answer Monitoring h s = judged (read_route_monitoring (asn_length_of h) h.peer_type s)
body_answer Statistics h s = judged (read_stats s)
body_answer Down h s = judged (read_peer_down s)
body_answer Up h s = judged (read_peer_up (afi_of h) h.peer_type s)
body_answer Mirroring h s = judged (read_mirroring s)

-- that of the header where it is refused, else that of the body, which starts at the header's stop
abbrev pub behind : PeerBody → List ℕ → PerPeerHeaderResult → Answer
behind b s (Ok a) = body_answer b a.header (drop a.stop s)
behind b s (Err r) = Err r

abbrev pub peer_answer : PeerBody → List ℕ → Answer
peer_answer b s = behind b s (read_per_peer_header s)

unfoldable pub answer_of : BmpMsgType → List ℕ → Answer
answer_of RouteMonitoring s = peer_answer Monitoring s
answer_of StatisticsReport s = peer_answer Statistics s
answer_of PeerDownNotification s = peer_answer Down s
answer_of PeerUpNotification s = peer_answer Up s
answer_of InitiationMessage s = judged (read_initiation s)
answer_of TerminationMessage s = judged (read_termination s)
answer_of RouteMirroringMessage s = peer_answer Mirroring s
