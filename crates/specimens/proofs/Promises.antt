-- Every specimen is answered as it must be. Assumes nothing.
use mathlib.Core.List.{map}
use mathlib.Core.Path.{◌≡◌, refl}
use Rattle.wire.specs.Bytes.{value}
use Rattle.wire.specs.Walk.{walk, fill}
use Rattle.common_header.specs.Shown as Common
use Rattle.common_header.specs.Fields.{read_fields}
use Rattle.initiation_message.specs.Read.{step}
use Rattle.peer_down_notification.specs.Shown as PeerDown
use Rattle.peer_down_notification.specs.Read.{has_data}
use Rattle.route_mirroring.specs.Shown as Mirroring
use Rattle.route_mirroring.specs.Read as MirroringRead
use Rattle.termination_message.specs.Shown as Termination
use Rattle.termination_message.specs.Read as TerminationRead
use Rattle.stats_data.specs.Shown as StatsData
use Rattle.stats_data.specs.Read.{value_of}
use Rattle.stats_report.specs.Read as StatisticsRead
use Rattle.specimens.specs.Listed.{Listed, listed}
use Rattle.specimens.specs.List.{Specimen, specimens}

abbrev answered : Specimen → Listed
answered x = listed x.reader x.bytes

abbrev expected : Specimen → Listed
expected x = x.answer

-- One theorem over the whole list.
pub specimens_hold : map answered specimens ≡ map expected specimens
unfolding value walk fill read_fields Common.type_of Common.kind_of step PeerDown.reason_of PeerDown.kind_of has_data MirroringRead.step MirroringRead.message_step MirroringRead.information_step Mirroring.info_of Mirroring.code_of TerminationRead.step Termination.reason_of Termination.code_of StatsData.data_of value_of StatisticsRead.step
specimens_hold = refl
