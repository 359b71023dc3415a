-- What a user of the Route Monitoring body relies on. It has no table, so every good reading fits. Assumes nothing.
use mathlib.Core.Bool.{Bool, true, false}
use mathlib.Core.Path.{◌≡◌, refl, sym, ap, ◌∙◌}
use mathlib.Core.List.{List, []}
use Prim.Native.Nat.{ℕ, ◌+◌}
use native.Mathlib.Omega.{arith}
use lib.ListN.{length, drop, length-drop}
use lib.Seq.{take-length, drop-length}
use Rattle.wire.specs.Bytes.{pick}
use Rattle.wire.specs.View.{view, viewed}
use Rattle.wire.proofs.Views.{viewed_inside}
use Rattle.wire.proofs.Determined.{determined}
use Rattle.wire.specs.Refuses.{Refuses}
use Rattle.wire.specs.Waits.{Waits, MissingTells}
use Rattle.wire.specs.Exactly.{Sound, Complete, Told, Unique}
use Rattle.models.specs.Warnings.{count_ones}
use Rattle.models.specs.declared.AsnLength.{AsnLength}
use Rattle.per_peer_type.specs.declared.BmpPeerType.{BmpPeerType}
use Rattle.route_monitoring.specs.Grammar.{Reading, join, Good, grammar}
use Rattle.route_monitoring.specs.Warnings.{short_as, warnings_of}
use Rattle.route_monitoring.specs.Shown.{RouteMonitoringAnswer, good_of, shown, message_of}
use Rattle.route_monitoring.specs.Told.{parts_of}
use Rattle.route_monitoring.specs.Read.{read_route_monitoring, reader}
use Rattle.route_monitoring.proofs.Laws.{length_join, parts_join, join_parts, parts_good, accepted, shows_all}
use Rattle.route_monitoring.proofs.Refusals as Refusals
use Rattle.route_monitoring.proofs.Waits as Waiting

-- a view of all that there is shows it
pub viewed_all : (s : List ℕ) → viewed s (view 0 (length s)) ≡ s
viewed_all s = viewed_inside s (view 0 (length s)) (omega arith) ∙ take-length s

-- ---- the reader, whatever AS length and peer type it is given
module _ (width : AsnLength) (t : BmpPeerType) where
  -- What the reader accepts has a good reading, which it shows.
  pub sound : Sound (reader width t)
  sound s p e =
      let a = accepted s width t e in
      let n : length s ≡ 19 + length (parts_of s).rest = omega (arith, length-drop 19 s, a.long) in (
        parts_of s,
        record {
          reading = record { is_good = parts_good p a.long; fits = tt; joined = join_parts p a.long };
          shown_so = shows_all s width t a ∙ ap (good_of width t) n;
        },
      )

  -- Every good reading is accepted, and shown.
  pub complete : Complete (reader width t)
  complete r g f short =
      let n = length_join r g in
      shows_all (join r) width t (record { short = short; long = omega arith }) ∙ ap (good_of width t) n

-- A refusal shows nothing but itself, and has one of the reader's numbers; each of these is given for some input.
pub refuses : (width : AsnLength) (t : BmpPeerType) → Refuses (reader width t)
refuses = Refusals.refuses

-- Who waits for as many bytes as a Cut says are missing waits neither too long nor in vain.
pub waits : (width : AsnLength) (t : BmpPeerType) → Waits (reader width t)
waits = Waiting.waits

-- Bytes are missing exactly where the refusal is a Cut.
pub missing_tells : (width : AsnLength) (t : BmpPeerType) → MissingTells (reader width t)
missing_tells = Waiting.missing_tells

-- No input has two readings.
pub unique : Unique grammar
unique r q g h e = sym (parts_join r g) ∙ ap parts_of e ∙ parts_join q h

-- The view in the answer that shows a reading shows all of that reading.
pub views : (width : AsnLength) (t : BmpPeerType) (r : Reading) → Good r → viewed (join r) (message_of (shown width t r)).bgp_message ≡ join r
views width t r g = ap (λ (n : ℕ). viewed (join r) (view 0 n)) (sym (length_join r g)) ∙ viewed_all (join r)

-- Every good reading is told by the answer that shows it.
pub told_back : (width : AsnLength) (t : BmpPeerType) → Told (reader width t)
told_back width t r g f =
    let end : drop (19 + length r.rest) (join r) ≡ [] = ap (λ (n : ℕ). drop n (join r)) (sym (length_join r g)) ∙ drop-length (join r) in
    record { told_so = ap parts_of (views width t r g) ∙ parts_join r g; tail_so = end; tail_within = omega (arith, length_join r g) }

-- The ones of the word are as many as the warnings that are given.
pub warnings_counted : (width : AsnLength) (t : BmpPeerType) → count_ones 32 (warnings_of width t) ≡ pick (short_as width t) 1 0
warnings_counted width t = go (short_as width t)
  where
    go : (a : Bool) → count_ones 32 (pick a 4 0) ≡ pick a 1 0
    go true = refl
    go false = refl

-- ---- any two answers that the contracts allow are equal
pub parse_determined : (s : List ℕ) (width : AsnLength) (t : BmpPeerType) (a b : RouteMonitoringAnswer)
    → a ≡ read_route_monitoring width t s → b ≡ read_route_monitoring width t s → a ≡ b
parse_determined s width t a b = determined
