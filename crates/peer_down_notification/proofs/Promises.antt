-- What a user of the Peer Down body relies on. It has no table, so every good reading fits. Assumes nothing.
use mathlib.Core.Path.{◌≡◌, sym, ap, ◌∙◌}
use mathlib.Core.Bool.{Bool}
use mathlib.Core.List.{List}
use Prim.Native.Nat.{ℕ}
use native.Mathlib.Omega.{arith}
use Rattle.wire.specs.Bytes.{be}
use Rattle.wire.proofs.Determined.{determined}
use Rattle.wire.specs.Refuses.{Refuses}
use Rattle.wire.specs.Waits.{Waits, MissingTells}
use Rattle.wire.specs.Exactly.{Sound, Complete, Told, Unique}
use Rattle.peer_down_notification.specs.Grammar.{Reading, join, grammar}
use Rattle.peer_down_notification.specs.Shown.{PeerDownAnswer, kind_of, shown_data, shown, data_of}
use Rattle.peer_down_notification.specs.Read.{has_data, parts_of, read_peer_down, reader}
use Rattle.peer_down_notification.specs.declared.PeerDownReason.{PeerDownReason}
use Rattle.peer_down_notification.proofs.Laws.{known_of, reason_there, parts_join, Accepted, parts_good, accepted, shows_parts, data_shown}
use Rattle.peer_down_notification.proofs.Told as ToldProofs
use Rattle.peer_down_notification.proofs.Refusals as Refusals
use Rattle.peer_down_notification.proofs.Waits as Waiting

-- What the reader accepts has a good reading, which it shows.
pub sound : Sound reader
sound s p e =
    let a = accepted s e in
    let g = parts_good s p a in
    (parts_of s, record { reading = record { is_good = g.0; fits = tt; joined = g.1 }; shown_so = shows_parts s a })

-- Every good reading is accepted, and shown.
pub complete : Complete reader
unfolding be
complete r g f short =
    let a : Accepted (join r) =
    record {
      short = short;
      one = omega arith;
      known = rw (reason_there r g) (known_of r.reason r.data_part r.tail g.follows);
    } in
    shows_parts (join r) a ∙ ap shown (parts_join r g)

-- Every good reading is told by the answer that shows it.
pub told_back : Told reader
told_back = ToldProofs.told_back

-- A refusal shows nothing but itself, and has one of the reader's numbers; each of these is given for some input.
pub refuses : Refuses reader
refuses = Refusals.refuses

-- Who waits for as many bytes as a Cut says are missing waits neither too long nor in vain.
pub waits : Waits reader
waits = Waiting.waits

-- Bytes are missing exactly where the refusal is a Cut.
pub missing_tells : MissingTells reader
missing_tells = Waiting.missing_tells

-- No input has two readings.
pub unique : Unique grammar
unique r q g h e = sym (parts_join r g) ∙ ap parts_of e ∙ parts_join q h

-- The view of the data, in the answer that shows a reading, shows that reading's data.
pub views : (r : Reading) → data_of (join r) (shown_data r.data_part) ≡ r.data_part
views r = data_shown r.reason r.data_part r.tail

-- ---- any two answers that the contracts allow are equal
pub number_determined : (x : PeerDownReason) (a b : ℕ) → a ≡ kind_of x → b ≡ kind_of x → a ≡ b
number_determined x a b = determined

pub has_data_determined : (x : PeerDownReason) (rest : ℕ) (a b : Bool) → a ≡ has_data (kind_of x) rest → b ≡ has_data (kind_of x) rest → a ≡ b
has_data_determined x rest a b = determined

pub parse_determined : (s : List ℕ) (a b : PeerDownAnswer) → a ≡ read_peer_down s → b ≡ read_peer_down s → a ≡ b
parse_determined s a b = determined
