-- What a user of a message's answer relies on. Assumes nothing.
use Prim.Native.Nat.{ℕ, ◌≤◌, ◌<◌}
use mathlib.Core.Path.{◌≡◌, refl, sym, ap, ◌∙◌, subst}
use mathlib.Core.List.{List}
use lib.ListN.{length}
use Rattle.std.specs.declared.result.Result.TheVariants.{Ok}
use Rattle.wire.specs.Number as Number
use Rattle.wire.specs.Bytes.{Bytes}
use Rattle.wire.proofs.Determined.{determined}
use Rattle.wire.proofs.Exactly.{not_too_long}
use Rattle.common_header.specs.declared.BmpMsgType.{BmpMsgType}
use Rattle.common_header.specs.declared.BmpMsgType.TheVariants.{RouteMonitoring, StatisticsReport, PeerDownNotification, PeerUpNotification, InitiationMessage, TerminationMessage, RouteMirroringMessage}
use Rattle.per_peer_header.specs.Grammar as Header
use Rattle.initiation_message.specs.Read.{read_initiation}
use Rattle.initiation_message.specs.Shown.{ReadInitiation}
use Rattle.termination_message.specs.Read.{read_termination}
use Rattle.termination_message.specs.Shown.{ReadTermination}
use Rattle.reader_promises.proofs.Promises.{initiation_exactly, termination_exactly}
use Rattle.message_answer.specs.Grammar.{Body, Message, initiation, termination, of_a_peer, HasReading, OkExactly, GoodExactly}
use Rattle.message_answer.specs.Answer.{Answer, number, judged, peer_answer, answer_of}
use Rattle.message_answer.specs.declared.PeerBody.{PeerBody}
use Rattle.message_answer.specs.declared.PeerBody.TheVariants.{Monitoring, Statistics, Down, Up, Mirroring}
use Rattle.message_answer.proofs.Header.{peer_ok, peer_sound}
use Rattle.message_answer.proofs.Small.{initiation_small, termination_small, peer_small}
use Rattle.message_answer.proofs.Bodies.{number_judged, type_of, body_sound, body_complete}

-- ---- what has the number 0 has a reading
of_peer : (b : PeerBody) (s : List ℕ) → Bytes s → number (peer_answer b s) ≡ Number.Good → HasReading (type_of b) s
of_peer b s p e =
    let x = peer_sound b s p e in
    record {
      not_too_long = x.short;
      message = of_a_peer x.header x.header_good x.joined (body_sound x.header b x.header.tail x.header_good.tail_bytes x.tail_short x.body-number);
    }

pub answer_sound : (t : BmpMsgType) (s : List ℕ) → Bytes s → number (answer_of t s) ≡ Number.Good → HasReading t s
unfolding answer_of
answer_sound RouteMonitoring s p e = of_peer Monitoring s p e
answer_sound StatisticsReport s p e = of_peer Statistics s p e
answer_sound PeerDownNotification s p e = of_peer Down s p e
answer_sound PeerUpNotification s p e = of_peer Up s p e
answer_sound InitiationMessage s p e =
    let short = (not_too_long (λ (a : ReadInitiation). number (judged a)) _ _ (length s) refl e).0 in
    record { not_too_long = short; message = initiation (initiation_exactly.only_readings s p short (sym (number_judged (read_initiation s)) ∙ e)) }
answer_sound TerminationMessage s p e =
    let short = (not_too_long (λ (a : ReadTermination). number (judged a)) _ _ (length s) refl e).0 in
    record { not_too_long = short; message = termination (termination_exactly.only_readings s p short (sym (number_judged (read_termination s)) ∙ e)) }
answer_sound RouteMirroringMessage s p e = of_peer Mirroring s p e

-- ---- what has a reading is read
from_peer : (b : PeerBody) (s : List ℕ) (h : Header.Reading) → Header.Good h → Header.join h ≡ s → Body h (type_of b) h.tail
    → length s ≤ Number.limit → peer_answer b s ≡ Ok tt
from_peer b s h g joined x short =
    let n = subst (λ (l : List ℕ). length l ≤ Number.limit) (sym joined) short in
    subst (λ (l : List ℕ). peer_answer b l ≡ Ok tt) joined (peer_ok b h g n (body_complete h b h.tail x))

pub answer_complete : (t : BmpMsgType) (s : List ℕ) → Message t s → length s ≤ Number.limit → answer_of t s ≡ Ok tt
unfolding answer_of
answer_complete RouteMonitoring s (of_a_peer h g joined x) n = from_peer Monitoring s h g joined x n
answer_complete StatisticsReport s (of_a_peer h g joined x) n = from_peer Statistics s h g joined x n
answer_complete PeerDownNotification s (of_a_peer h g joined x) n = from_peer Down s h g joined x n
answer_complete PeerUpNotification s (of_a_peer h g joined x) n = from_peer Up s h g joined x n
answer_complete InitiationMessage s (of_a_peer h g joined x) n = elim x [ ]
answer_complete InitiationMessage s (initiation x) n = ap judged (initiation_exactly.shows_it s n x.0 x.1)
answer_complete TerminationMessage s (of_a_peer h g joined x) n = elim x [ ]
answer_complete TerminationMessage s (termination x) n = ap judged (termination_exactly.shows_it s n x.0 x.1)
answer_complete RouteMirroringMessage s (of_a_peer h g joined x) n = from_peer Mirroring s h g joined x n

-- A message is read exactly where header and body have readings that fit their tables, and there are not too many bytes.
pub answer_ok : (t : BmpMsgType) (s : List ℕ) → Bytes s → OkExactly t s (answer_of t s)
answer_ok t s p = (λ e. answer_sound t s p (ap number e), λ x. answer_complete t s x.message x.not_too_long)

-- The number is 0 exactly there too.
pub answer_good : (t : BmpMsgType) (s : List ℕ) → Bytes s → GoodExactly t s (number (answer_of t s))
answer_good t s p = (answer_sound t s p, λ x. ap number (answer_complete t s x.message x.not_too_long))

-- The number is one byte.
pub answer_small : (t : BmpMsgType) (s : List ℕ) → number (answer_of t s) < 256
unfolding answer_of
answer_small RouteMonitoring s = peer_small Monitoring s
answer_small StatisticsReport s = peer_small Statistics s
answer_small PeerDownNotification s = peer_small Down s
answer_small PeerUpNotification s = peer_small Up s
answer_small InitiationMessage s = initiation_small s
answer_small TerminationMessage s = termination_small s
answer_small RouteMirroringMessage s = peer_small Mirroring s

-- Any two answers that the contract allows are equal.
pub answer_determined : (t : BmpMsgType) (s : List ℕ) (a b : Answer) → a ≡ answer_of t s → b ≡ answer_of t s → a ≡ b
answer_determined t s a b = determined
