-- Every number is below 256, as it has to be in a byte. Assumes nothing.
use Prim.Native.Nat.{ℕ, ◌<◌}
use mathlib.Core.Path.{refl, sym, subst}
use mathlib.Core.List.{List}
use lib.ListN.{drop}
use Rattle.std.specs.declared.result.Result.{Result}
use Rattle.std.specs.declared.result.Result.TheVariants.{Ok, Err}
use Rattle.wire.specs.declared.Refusal.{Refusal}
use Rattle.wire.proofs.Refuses.{numbers_below}
use Rattle.per_peer_record.specs.Header.{afi_of, asn_length_of}
use Rattle.per_peer_record.specs.declared.BmpPerPeerHeader.{BmpPerPeerHeader}
use Rattle.per_peer_header.specs.Shown.{PerPeerHeaderResult}
use Rattle.per_peer_header.specs.Read.{read_per_peer_header}
use Rattle.route_monitoring.specs.Read.{read_route_monitoring}
use Rattle.stats_report.specs.Read.{read_stats}
use Rattle.peer_down_notification.specs.Read.{read_peer_down}
use Rattle.peer_up_notification.specs.Read.{read_peer_up}
use Rattle.route_mirroring.specs.Read.{read_mirroring}
use Rattle.initiation_message.specs.Read.{read_initiation}
use Rattle.termination_message.specs.Read.{read_termination}
use Rattle.reader_promises.proofs.Promises.{per_peer_header_refuses, initiation_refuses, termination_refuses, monitoring_refuses, mirroring_refuses, statistics_refuses, peer_down_refuses, peer_up_refuses}
use Rattle.message_answer.specs.Answer.{number, judged, body_answer, behind, peer_answer}
use Rattle.message_answer.specs.declared.PeerBody.{PeerBody}
use Rattle.message_answer.specs.declared.PeerBody.TheVariants.{Monitoring, Statistics, Down, Up, Mirroring}
use Rattle.message_answer.proofs.Bodies.{refusal_in, number_judged}

small : {A : Type 0} (x : Result A Refusal) → (refusal_in x).number < 256 → number (judged x) < 256
small x h = subst (λ (n : ℕ). n < 256) (sym (number_judged x)) h

pub initiation_small : (s : List ℕ) → number (judged (read_initiation s)) < 256
initiation_small s = small (read_initiation s) (numbers_below _ initiation_refuses 256 refl s)

pub termination_small : (s : List ℕ) → number (judged (read_termination s)) < 256
termination_small s = small (read_termination s) (numbers_below _ termination_refuses 256 refl s)

body_small : (b : PeerBody) (h : BmpPerPeerHeader) (s : List ℕ) → number (body_answer b h s) < 256
unfolding body_answer
body_small Monitoring h s = small (read_route_monitoring (asn_length_of h) h.peer_type s) (numbers_below _ (monitoring_refuses (asn_length_of h) h.peer_type) 256 refl s)
body_small Statistics h s = small (read_stats s) (numbers_below _ statistics_refuses 256 refl s)
body_small Down h s = small (read_peer_down s) (numbers_below _ peer_down_refuses 256 refl s)
body_small Up h s = small (read_peer_up (afi_of h) h.peer_type s) (numbers_below _ (peer_up_refuses (afi_of h) h.peer_type) 256 refl s)
body_small Mirroring h s = small (read_mirroring s) (numbers_below _ mirroring_refuses 256 refl s)

pub peer_small : (b : PeerBody) (s : List ℕ) → number (peer_answer b s) < 256
peer_small b s = go (read_per_peer_header s) (numbers_below _ per_peer_header_refuses 256 refl s)
  where
    go : (x : PerPeerHeaderResult) → (refusal_in x).number < 256 → number (behind b s x) < 256
    go (Ok a) h = body_small b a.header (drop a.stop s)
    go (Err r) h = h
