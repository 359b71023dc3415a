-- What follows the common header of a message (RFC 7854, section 4), by the grammars of its parts:
--
--     types 0, 1, 2, 3, 6   a per-peer header (section 4.2), and as its tail the body
--     types 4, 5            the body
--
-- A body may end in a tail of its own, as its grammar says. Nothing here goes by a reader.
use Rattle.std.specs.Prelude.{ℕ, ◌≤◌, ◌≡◌, List, length, Result, Ok}
use Rattle.wire.specs.Number as Number
use Rattle.wire.specs.Exactly.{Readable}
use Rattle.wire.specs.declared.Refusal.{Refusal}
use Rattle.models.specs.declared.Afi.{Afi}
use Rattle.models.specs.declared.Afi.TheVariants.{Ipv4, Ipv6}
use Rattle.common_header.specs.declared.BmpMsgType.{BmpMsgType}
use Rattle.common_header.specs.declared.BmpMsgType.TheVariants.{RouteMonitoring, StatisticsReport, PeerDownNotification, PeerUpNotification, InitiationMessage, TerminationMessage, RouteMirroringMessage}
use Rattle.per_peer_header.specs.Grammar as Header
use Rattle.per_peer_header.specs.Grammar.{AddressField, ipv4, ipv6, unused}
use Rattle.route_monitoring.specs.Grammar as Monitoring
use Rattle.stats_report.specs.Grammar as Statistics
use Rattle.peer_down_notification.specs.Grammar as Down
use Rattle.peer_up_notification.specs.Grammar as Up
use Rattle.initiation_message.specs.Grammar as Initiation
use Rattle.termination_message.specs.Grammar as Termination
use Rattle.route_mirroring.specs.Grammar as Mirroring

-- the family of the local address in a Peer Up is that of the address in its header; a Loc-RIB, which has none there, counts as IPv4
abbrev pub family_of : AddressField → Afi
family_of (ipv4 skipped address) = Ipv4
family_of (ipv6 address) = Ipv6
family_of (unused skipped) = Ipv4

-- the body of each type that stands behind a per-peer header h; only that of a Peer Up goes by what h says
pub data Body (h : Header.Reading) : BmpMsgType → List ℕ → Type 0 where
  route-monitoring : {s : List ℕ} → Readable Monitoring.grammar s → Body h RouteMonitoring s
  statistics : {s : List ℕ} → Readable Statistics.grammar s → Body h StatisticsReport s
  peer-down : {s : List ℕ} → Readable Down.grammar s → Body h PeerDownNotification s
  peer-up : {s : List ℕ} → Readable (Up.grammar (family_of h.address)) s → Body h PeerUpNotification s
  route-mirroring : {s : List ℕ} → Readable Mirroring.grammar s → Body h RouteMirroringMessage s

pub data Message : BmpMsgType → List ℕ → Type 0 where
  initiation : {s : List ℕ} → Readable Initiation.grammar s → Message InitiationMessage s
  termination : {s : List ℕ} → Readable Termination.grammar s → Message TerminationMessage s
  of_a_peer : {t : BmpMsgType} {s : List ℕ} (h : Header.Reading) → Header.Good h → Header.join h ≡ s → Body h t h.tail → Message t s

pub record HasReading (t : BmpMsgType) (s : List ℕ) : Type 0 where
  pub not_too_long : length s ≤ Number.limit
  pub message : Message t s

-- an answer is Ok exactly where there is a reading, and so is its number 0
abbrev pub OkExactly : BmpMsgType → List ℕ → Result (Unit {0}) Refusal → Type 0
OkExactly t s a = (a ≡ Ok tt → HasReading t s) × (HasReading t s → a ≡ Ok tt)

abbrev pub GoodExactly : BmpMsgType → List ℕ → ℕ → Type 0
GoodExactly t s n = (n ≡ Number.Good → HasReading t s) × (HasReading t s → n ≡ Number.Good)
