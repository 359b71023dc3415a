-- A body is read exactly where it has a reading, for each body. Assumes nothing.
use Prim.Native.Nat.{ℕ, ◌≤◌}
use mathlib.Core.Path.{◌≡◌, refl, sym, ap, ◌∙◌, subst}
use mathlib.Core.List.{List}
use lib.ListN.{length}
use Rattle.std.specs.declared.result.Result.{Result}
use Rattle.std.specs.declared.result.Result.TheVariants.{Ok, Err}
use Rattle.wire.specs.Number as Number
use Rattle.wire.specs.Bytes.{Bytes}
use Rattle.wire.specs.Exactly.{Readable}
use Rattle.wire.specs.Refusal.{no_refusal}
use Rattle.wire.specs.declared.Refusal.{Refusal}
use Rattle.models.specs.declared.Afi.{Afi}
use Rattle.common_header.specs.declared.BmpMsgType.{BmpMsgType}
use Rattle.common_header.specs.declared.BmpMsgType.TheVariants.{RouteMonitoring, StatisticsReport, PeerDownNotification, PeerUpNotification, RouteMirroringMessage}
use Rattle.per_peer_record.specs.Header.{asn_length_of}
use Rattle.per_peer_header.specs.Grammar as Header
use Rattle.per_peer_header.specs.Grammar.{AddressField, ipv4, ipv6, unused}
use Rattle.per_peer_header.specs.Shown.{shown_address, shown_header}
use Rattle.peer_up_notification.specs.Grammar as Up
use Rattle.route_monitoring.specs.Read.{read_route_monitoring}
use Rattle.stats_report.specs.Read.{read_stats}
use Rattle.peer_down_notification.specs.Read.{read_peer_down}
use Rattle.peer_up_notification.specs.Read.{read_peer_up}
use Rattle.route_mirroring.specs.Read.{read_mirroring}
use Rattle.reader_promises.proofs.Promises.{monitoring_exactly, statistics_exactly, peer_down_exactly, peer_up_exactly, mirroring_exactly}
use Rattle.message_answer.specs.Grammar.{family_of, Body, route-monitoring, statistics, peer-down, peer-up, route-mirroring}
use Rattle.message_answer.specs.Answer.{number, judged, body_answer}
use Rattle.message_answer.specs.declared.PeerBody.{PeerBody}
use Rattle.message_answer.specs.declared.PeerBody.TheVariants.{Monitoring, Statistics, Down, Mirroring}

-- ---- a reader's answer, without what is read, has its refusal
abbrev pub refusal_in : {A : Type 0} → Result A Refusal → Refusal
refusal_in (Ok x) = no_refusal
refusal_in (Err r) = r

pub number_judged : {A : Type 0} (x : Result A Refusal) → number (judged x) ≡ (refusal_in x).number
number_judged (Ok x) = refl
number_judged (Err r) = refl

-- ---- the bodies behind a header
abbrev pub type_of : PeerBody → BmpMsgType
type_of Monitoring = RouteMonitoring
type_of Statistics = StatisticsReport
type_of Down = PeerDownNotification
type_of PeerBody.Up = PeerUpNotification
type_of Mirroring = RouteMirroringMessage

family_shown : (a : AddressField) → (shown_address a).afi ≡ family_of a
family_shown (ipv4 skipped address) = refl
family_shown (ipv6 address) = refl
family_shown (unused skipped) = refl

module _ (h : Header.Reading) where
  pub body_sound : (b : PeerBody) (s : List ℕ) → Bytes s → length s ≤ Number.limit → number (body_answer b (shown_header h) s) ≡ Number.Good → Body h (type_of b) s
  unfolding body_answer
  body_sound Monitoring s p short e =
      route-monitoring ((monitoring_exactly (asn_length_of (shown_header h)) (shown_header h).peer_type).only_readings s p short (sym (number_judged (read_route_monitoring (asn_length_of (shown_header h)) (shown_header h).peer_type s)) ∙ e))
  body_sound Statistics s p short e = statistics (statistics_exactly.only_readings s p short (sym (number_judged (read_stats s)) ∙ e))
  body_sound Down s p short e = peer-down (peer_down_exactly.only_readings s p short (sym (number_judged (read_peer_down s)) ∙ e))
  body_sound PeerBody.Up s p short e =
      peer-up (subst (λ (afi : Afi). Readable (Up.grammar afi) s) (family_shown h.address)
      ((peer_up_exactly (shown_address h.address).afi (shown_header h).peer_type).only_readings s p short (sym (number_judged (read_peer_up (shown_address h.address).afi (shown_header h).peer_type s)) ∙ e)))
  body_sound Mirroring s p short e = route-mirroring (mirroring_exactly.only_readings s p short (sym (number_judged (read_mirroring s)) ∙ e))

  pub body_complete : (b : PeerBody) (s : List ℕ) → Body h (type_of b) s → length s ≤ Number.limit → body_answer b (shown_header h) s ≡ Ok tt
  unfolding body_answer
  body_complete Monitoring s (route-monitoring x) short =
      ap judged ((monitoring_exactly (asn_length_of (shown_header h)) (shown_header h).peer_type).shows_it s short x.0 x.1)
  body_complete Statistics s (statistics x) short = ap judged (statistics_exactly.shows_it s short x.0 x.1)
  body_complete Down s (peer-down x) short = ap judged (peer_down_exactly.shows_it s short x.0 x.1)
  body_complete PeerBody.Up s (peer-up x) short =
      let y = subst (λ (afi : Afi). Readable (Up.grammar afi) s) (sym (family_shown h.address)) x in
      ap judged ((peer_up_exactly (shown_address h.address).afi (shown_header h).peer_type).shows_it s short y.0 y.1)
  body_complete Mirroring s (route-mirroring x) short = ap judged (mirroring_exactly.shows_it s short x.0 x.1)
