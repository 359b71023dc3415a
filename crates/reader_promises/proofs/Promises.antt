-- For each header and body, and for a message on a stream: the reader accepts exactly the inputs that have a reading in its grammar that
-- fits the tables, the answer shows that reading, and no input has two; and what the answer shows, with what is fixed, what is skipped and
-- the tail, joined in order, is the input again. What this means is said once, in wire's `Exactly`. Assumes nothing.
use mathlib.Core.Path.{refl}
use Rattle.wire.specs.Exactly.{Exactly}
use Rattle.wire.specs.Refuses.{Refuses}
use Rattle.wire.specs.Waits.{WaitsBut, Waits, MissingTells}
use Rattle.wire.proofs.Exactly.{exactly_from}
use Rattle.models.specs.declared.Afi.{Afi}
use Rattle.models.specs.declared.AsnLength.{AsnLength}
use Rattle.per_peer_type.specs.declared.BmpPeerType.{BmpPeerType}
use Rattle.common_header.specs.Fields as CommonFields
use Rattle.common_header.specs.Read as CommonHeader
use Rattle.common_header.proofs.Promises as CommonHeaderPromises
use Rattle.per_peer_header.specs.Read as PerPeerHeader
use Rattle.per_peer_header.proofs.Promises as PerPeerHeaderPromises
use Rattle.splitter.specs.Read as Message
use Rattle.splitter.proofs.Laws.{shown_good}
use Rattle.splitter.proofs.Promises as MessagePromises
use Rattle.initiation_message.specs.Read as Initiation
use Rattle.initiation_message.proofs.Promises as InitiationPromises
use Rattle.termination_message.specs.Read as Termination
use Rattle.termination_message.proofs.Promises as TerminationPromises
use Rattle.route_monitoring.specs.Read as Monitoring
use Rattle.route_monitoring.proofs.Promises as MonitoringPromises
use Rattle.route_mirroring.specs.Read as Mirroring
use Rattle.route_mirroring.proofs.Promises as MirroringPromises
use Rattle.stats_report.specs.Read as Statistics
use Rattle.stats_report.proofs.Promises as StatisticsPromises
use Rattle.peer_down_notification.specs.Read as PeerDown
use Rattle.peer_down_notification.proofs.Promises as PeerDownPromises
use Rattle.peer_up_notification.specs.Cuts.{OpenBegun}
use Rattle.peer_up_notification.specs.Read as PeerUp
use Rattle.peer_up_notification.proofs.Promises as PeerUpPromises
use Rattle.openbmp.specs.Read as OpenBmp
use Rattle.openbmp.proofs.Promises as OpenBmpPromises

-- the fields of a common header of any type (RFC 7854, section 4.1)
pub common_fields_exactly : Exactly CommonFields.reader
common_fields_exactly = exactly_from CommonFields.reader CommonHeaderPromises.fields_sound CommonHeaderPromises.fields_complete CommonHeaderPromises.fields_told_back CommonHeaderPromises.fields_unique (λ r. refl)

-- the common header, whose type is known
pub common_header_exactly : Exactly CommonHeader.reader
common_header_exactly = exactly_from CommonHeader.reader CommonHeaderPromises.sound CommonHeaderPromises.complete CommonHeaderPromises.told_back CommonHeaderPromises.unique (λ r. refl)

-- the per-peer header (section 4.2)
pub per_peer_header_exactly : Exactly PerPeerHeader.reader
per_peer_header_exactly = exactly_from PerPeerHeader.reader PerPeerHeaderPromises.sound PerPeerHeaderPromises.complete PerPeerHeaderPromises.told_back PerPeerHeaderPromises.unique (λ r. refl)

-- a message on a stream, as the splitter cuts it off
pub message_exactly : Exactly Message.reader
message_exactly = exactly_from Message.reader MessagePromises.sound MessagePromises.complete MessagePromises.told_back MessagePromises.unique shown_good

-- Initiation (section 4.3)
pub initiation_exactly : Exactly Initiation.reader
initiation_exactly = exactly_from Initiation.reader InitiationPromises.sound InitiationPromises.complete InitiationPromises.told_back InitiationPromises.unique (λ r. refl)

-- Termination (section 4.5)
pub termination_exactly : Exactly Termination.reader
termination_exactly = exactly_from Termination.reader TerminationPromises.sound TerminationPromises.complete TerminationPromises.told_back TerminationPromises.unique (λ r. refl)

-- Route Monitoring (section 4.6), for each AS length and type of peer
pub monitoring_exactly : (width : AsnLength) (peer : BmpPeerType) → Exactly (Monitoring.reader width peer)
monitoring_exactly width peer = exactly_from (Monitoring.reader width peer) (MonitoringPromises.sound width peer) (MonitoringPromises.complete width peer) (MonitoringPromises.told_back width peer) MonitoringPromises.unique (λ r. refl)

-- Route Mirroring (section 4.7)
pub mirroring_exactly : Exactly Mirroring.reader
mirroring_exactly = exactly_from Mirroring.reader MirroringPromises.sound MirroringPromises.complete MirroringPromises.told_back MirroringPromises.unique (λ r. refl)

-- Statistics Report (section 4.8)
pub statistics_exactly : Exactly Statistics.reader
statistics_exactly = exactly_from Statistics.reader StatisticsPromises.sound StatisticsPromises.complete StatisticsPromises.told_back StatisticsPromises.unique (λ r. refl)

-- Peer Down (section 4.9)
pub peer_down_exactly : Exactly PeerDown.reader
peer_down_exactly = exactly_from PeerDown.reader PeerDownPromises.sound PeerDownPromises.complete PeerDownPromises.told_back PeerDownPromises.unique (λ r. refl)

-- Peer Up (section 4.10), for each family of its address and type of peer
pub peer_up_exactly : (afi : Afi) (peer : BmpPeerType) → Exactly (PeerUp.reader afi peer)
peer_up_exactly afi peer = exactly_from (PeerUp.reader afi peer) (PeerUpPromises.sound afi peer) (PeerUpPromises.complete afi peer) (PeerUpPromises.told_back afi peer) (PeerUpPromises.unique afi) (λ r. refl)

-- the OpenBMP header
pub open_bmp_exactly : Exactly OpenBmp.reader
open_bmp_exactly = exactly_from OpenBmp.reader OpenBmpPromises.sound OpenBmpPromises.complete OpenBmpPromises.told_back OpenBmpPromises.unique (λ r. refl)

-- ---- what each refuses with: the numbers that its `numbers` lists, each for some input, and no other; a refusal shows nothing else
pub common_fields_refuses : Refuses CommonFields.reader
common_fields_refuses = CommonHeaderPromises.fields_refuses

pub common_header_refuses : Refuses CommonHeader.reader
common_header_refuses = CommonHeaderPromises.refuses

pub per_peer_header_refuses : Refuses PerPeerHeader.reader
per_peer_header_refuses = PerPeerHeaderPromises.refuses

pub message_refuses : Refuses Message.reader
message_refuses = MessagePromises.refuses

pub initiation_refuses : Refuses Initiation.reader
initiation_refuses = InitiationPromises.refuses

pub termination_refuses : Refuses Termination.reader
termination_refuses = TerminationPromises.refuses

pub monitoring_refuses : (width : AsnLength) (peer : BmpPeerType) → Refuses (Monitoring.reader width peer)
monitoring_refuses = MonitoringPromises.refuses

pub mirroring_refuses : Refuses Mirroring.reader
mirroring_refuses = MirroringPromises.refuses

pub statistics_refuses : Refuses Statistics.reader
statistics_refuses = StatisticsPromises.refuses

pub peer_down_refuses : Refuses PeerDown.reader
peer_down_refuses = PeerDownPromises.refuses

pub peer_up_refuses : (afi : Afi) (peer : BmpPeerType) → Refuses (PeerUp.reader afi peer)
peer_up_refuses = PeerUpPromises.refuses

pub open_bmp_refuses : Refuses OpenBmp.reader
open_bmp_refuses = OpenBmpPromises.refuses

-- ---- what is missing in a Cut: who waits for as many bytes waits neither too long nor in vain; an OPEN may be Cut twice at one place
pub common_fields_waits : Waits CommonFields.reader
common_fields_waits = CommonHeaderPromises.fields_waits

pub common_header_waits : Waits CommonHeader.reader
common_header_waits = CommonHeaderPromises.waits

pub per_peer_header_waits : Waits PerPeerHeader.reader
per_peer_header_waits = PerPeerHeaderPromises.waits

pub message_waits : Waits Message.reader
message_waits = MessagePromises.waits

pub initiation_waits : Waits Initiation.reader
initiation_waits = InitiationPromises.waits

pub termination_waits : Waits Termination.reader
termination_waits = TerminationPromises.waits

pub monitoring_waits : (width : AsnLength) (peer : BmpPeerType) → Waits (Monitoring.reader width peer)
monitoring_waits = MonitoringPromises.waits

pub mirroring_waits : Waits Mirroring.reader
mirroring_waits = MirroringPromises.waits

pub statistics_waits : Waits Statistics.reader
statistics_waits = StatisticsPromises.waits

pub peer_down_waits : Waits PeerDown.reader
peer_down_waits = PeerDownPromises.waits

pub peer_up_waits : (afi : Afi) (peer : BmpPeerType) → WaitsBut OpenBegun (PeerUp.reader afi peer)
peer_up_waits = PeerUpPromises.waits

pub open_bmp_waits : Waits OpenBmp.reader
open_bmp_waits = OpenBmpPromises.waits

-- ---- and that a refusal says that bytes are missing exactly where it is a Cut
pub common_fields_missing_tells : MissingTells CommonFields.reader
common_fields_missing_tells = CommonHeaderPromises.fields_missing_tells

pub common_header_missing_tells : MissingTells CommonHeader.reader
common_header_missing_tells = CommonHeaderPromises.missing_tells

pub per_peer_header_missing_tells : MissingTells PerPeerHeader.reader
per_peer_header_missing_tells = PerPeerHeaderPromises.missing_tells

pub message_missing_tells : MissingTells Message.reader
message_missing_tells = MessagePromises.missing_tells

pub initiation_missing_tells : MissingTells Initiation.reader
initiation_missing_tells = InitiationPromises.missing_tells

pub termination_missing_tells : MissingTells Termination.reader
termination_missing_tells = TerminationPromises.missing_tells

pub monitoring_missing_tells : (width : AsnLength) (peer : BmpPeerType) → MissingTells (Monitoring.reader width peer)
monitoring_missing_tells = MonitoringPromises.missing_tells

pub mirroring_missing_tells : MissingTells Mirroring.reader
mirroring_missing_tells = MirroringPromises.missing_tells

pub statistics_missing_tells : MissingTells Statistics.reader
statistics_missing_tells = StatisticsPromises.missing_tells

pub peer_down_missing_tells : MissingTells PeerDown.reader
peer_down_missing_tells = PeerDownPromises.missing_tells

pub peer_up_missing_tells : (afi : Afi) (peer : BmpPeerType) → MissingTells (PeerUp.reader afi peer)
peer_up_missing_tells = PeerUpPromises.missing_tells

pub open_bmp_missing_tells : MissingTells OpenBmp.reader
open_bmp_missing_tells = OpenBmpPromises.missing_tells
