-- An answer of any reader in one form, so that examples for all of them stand in one list.
use Rattle.std.specs.Prelude.{ℕ, List, [], ◌∷◌, take, Ok, Err}
use Rattle.wire.specs.Refusal.{no_refusal}
use Rattle.wire.specs.View.{viewed}
use Rattle.wire.specs.declared.Refusal.{Refusal}
use Rattle.common_header.specs.Shown as Common
use Rattle.common_header.specs.Read.{read_common_header}
use Rattle.initiation_message.specs.Shown as Initiation
use Rattle.initiation_message.specs.Read.{read_initiation}
use Rattle.initiation_message.specs.declared.InitiationTlv.{InitiationTlv}
use Rattle.peer_down_notification.specs.Grammar.{Data, absent, present}
use Rattle.peer_down_notification.specs.Shown as PeerDown
use Rattle.peer_down_notification.specs.Read.{read_peer_down}
use Rattle.peer_down_notification.specs.Shown.{data_of}
use Rattle.route_mirroring.specs.Shown as Mirroring
use Rattle.route_mirroring.specs.Read.{read_mirroring}
use Rattle.route_mirroring.specs.declared.RouteMirroringValue.{RouteMirroringValue}
use Rattle.route_mirroring.specs.declared.RouteMirroringValue.TheVariants.{BgpMessage, Information}
use Rattle.route_mirroring.specs.declared.RouteMirroringTlv.{RouteMirroringTlv}
use Rattle.termination_message.specs.Shown as Termination
use Rattle.termination_message.specs.Read.{read_termination}
use Rattle.termination_message.specs.declared.TerminationTlvValue.{TerminationTlvValue}
use Rattle.termination_message.specs.declared.TerminationTlv.{TerminationTlv}
use Rattle.stats_report.specs.Shown as Statistics
use Rattle.stats_data.specs.Grammar.{Value, counter, gauge, afi_safi_gauge, raw}
use Rattle.stats_data.specs.Shown.{value_in}
use Rattle.stats_report.specs.Read.{read_stats}
use Rattle.stats_report.specs.declared.StatCounter.{StatCounter}

-- refusal, stop, tail's start and fields; a value that views show is the list of its bytes
pub record Listed : Type 0 where
  pub refusal : Refusal
  pub stop : ℕ
  pub tail : ℕ
  pub fields : List (List ℕ)

-- a good answer, by its stop, the tail's start and the fields
abbrev pub good : ℕ → ℕ → List (List ℕ) → Listed
good stop tail fields = record { refusal = no_refusal; stop = stop; tail = tail; fields = fields }

-- a refusal, with the fields of an all-zero record
abbrev pub refused : Refusal → List (List ℕ) → Listed
refused r zero-fields = record { refusal = r; stop = 0; tail = 0; fields = zero-fields }

abbrev pub number : ℕ → List ℕ
number n = n ∷ []

pub data Reader : Type 0 where
  common : Reader
  statistics : Reader
  initiation : Reader
  termination : Reader
  peer-down : Reader
  mirroring : Reader

-- version, length, type
abbrev pub listed_common : Common.CommonHeaderAnswer → Listed
listed_common a =
    record {
      refusal = Common.refusal_of a;
      stop = Common.stop_of a;
      tail = Common.stop_of a;
      fields = number (Common.header_of a).version ∷ number (Common.header_of a).msg_len ∷ number (Common.kind_of (Common.header_of a).msg_type) ∷ [];
    }

-- the count, and of each record type, length, form (0 counter, 1 gauge, 2 per AFI and SAFI, 3 raw) and what the form has
abbrev pub listed_form : Value → List (List ℕ) → List (List ℕ)
listed_form (counter n) l = number 0 ∷ number n ∷ l
listed_form (gauge n) l = number 1 ∷ number n ∷ l
listed_form (afi_safi_gauge afi safi n) l = number 2 ∷ number afi ∷ number safi ∷ number n ∷ l
listed_form (raw b) l = number 3 ∷ b ∷ l

abbrev pub listed_counters : List ℕ → List StatCounter → List (List ℕ)
listed_counters s [] = []
listed_counters s (t ∷ l) =
    number t.kind ∷ number t.stat_len ∷ listed_form (value_in s (Statistics.data_in t)) (listed_counters s l)

abbrev pub listed_statistics : List ℕ → Statistics.ReadStats → Listed
listed_statistics s (Ok a) =
    good a.stop a.stop (number a.report.stats_count ∷ listed_counters s (take a.report.count a.report.counters))
listed_statistics s (Err r) = refused r (number 0 ∷ [])

-- of each TLV below the count type, length and value
abbrev pub listed_tlvs : List ℕ → List InitiationTlv → List (List ℕ)
listed_tlvs s [] = []
listed_tlvs s (t ∷ l) = number t.kind ∷ number t.info_len ∷ viewed s (Initiation.info_of t) ∷ listed_tlvs s l

abbrev pub listed_initiation : List ℕ → Initiation.ReadInitiation → Listed
listed_initiation s (Ok a) = good a.stop a.tail (listed_tlvs s (take a.message.count a.message.tlvs))
listed_initiation s (Err r) = refused r []

-- of each TLV below the count type, length, and the string's bytes or the reason's number
abbrev pub listed_ending : List ℕ → TerminationTlvValue → ℕ → List (List ℕ) → List (List ℕ)
listed_ending s (TerminationTlvValue.String v) size l = number 0 ∷ number size ∷ viewed s v ∷ l
listed_ending s (TerminationTlvValue.Reason r) size l = number 1 ∷ number size ∷ number (Termination.code_of r) ∷ l

abbrev pub listed_endings : List ℕ → List TerminationTlv → List (List ℕ)
listed_endings s [] = []
listed_endings s (t ∷ l) = listed_ending s (Termination.value_of t) t.info_len (listed_endings s l)

abbrev pub listed_termination : List ℕ → Termination.ReadTermination → Listed
listed_termination s (Ok a) = good a.stop a.tail (listed_endings s (take a.message.count a.message.tlvs))
listed_termination s (Err r) = refused r []

-- the reason, whether there is data (1 or 0), and the data
abbrev pub listed_data : Data → List (List ℕ)
listed_data absent = number 0 ∷ []
listed_data (present b) = number 1 ∷ b ∷ []

abbrev pub listed_peer_down : List ℕ → PeerDown.PeerDownAnswer → Listed
listed_peer_down s a =
    record {
      refusal = PeerDown.refusal_of a;
      stop = PeerDown.stop_of a;
      tail = PeerDown.stop_of a;
      fields = number (PeerDown.kind_of (PeerDown.notification_of a).reason) ∷ listed_data (data_of s (PeerDown.notification_of a).«data»);
    }

-- of each TLV below the count type, length, and the message's bytes or the information's code
abbrev pub listed_value : List ℕ → RouteMirroringValue → ℕ → List (List ℕ) → List (List ℕ)
listed_value s (BgpMessage v) size l = number 0 ∷ number size ∷ viewed s v ∷ l
listed_value s (Information i) size l = number 1 ∷ number size ∷ number (Mirroring.code_of i) ∷ l

abbrev pub listed_mirrored : List ℕ → List RouteMirroringTlv → List (List ℕ)
listed_mirrored s [] = []
listed_mirrored s (t ∷ l) = listed_value s (Mirroring.value_of t) t.info_len (listed_mirrored s l)

abbrev pub listed_mirroring : List ℕ → Mirroring.ReadMirroring → Listed
listed_mirroring s (Ok a) = good a.stop a.stop (listed_mirrored s (take a.message.count a.message.tlvs))
listed_mirroring s (Err r) = refused r []

abbrev pub listed : Reader → List ℕ → Listed
listed common s = listed_common (read_common_header s)
listed initiation s = listed_initiation s (read_initiation s)
listed peer-down s = listed_peer_down s (read_peer_down s)
listed mirroring s = listed_mirroring s (read_mirroring s)
listed termination s = listed_termination s (read_termination s)
listed statistics s = listed_statistics s (read_stats s)
