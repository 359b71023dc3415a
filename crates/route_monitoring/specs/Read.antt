-- What the reader answers, for every input.
use Rattle.std.specs.Prelude.{List, [], ◌∷◌, ℕ, length, ltb, Err}
use Rattle.wire.specs.Number as Number
use Rattle.wire.specs.Bytes.{pick}
use Rattle.wire.specs.Refusal.{refusal, cut_at}
use Rattle.wire.specs.Exactly.{Reader}
use Rattle.models.specs.declared.AsnLength.{AsnLength}
use Rattle.per_peer_type.specs.declared.BmpPeerType.{BmpPeerType}
use Rattle.route_monitoring.specs.Told as Told
use Rattle.route_monitoring.specs.Grammar.{grammar}
use Rattle.route_monitoring.specs.Shown.{RouteMonitoringAnswer, good_of, shown, refusal_of, stop_of}

abbrev pub read_route_monitoring : AsnLength → BmpPeerType → List ℕ → RouteMonitoringAnswer
read_route_monitoring width t s =
    pick (ltb Number.limit (length s)) (Err (refusal Number.TooLong 0))
    (pick (ltb (length s) 19) (Err (cut_at (length s) 0 19)) (good_of width t (length s)))

-- the numbers that it refuses with
abbrev pub numbers : List ℕ
numbers = Number.TooLong ∷ Number.Cut ∷ []

-- the reader with its arguments fixed, and the grammar that it is held against
abbrev pub reader : AsnLength → BmpPeerType → Reader
reader width t =
    record {
      grammar = grammar;
      Answer = RouteMonitoringAnswer;
      read = read_route_monitoring width t;
      shown = shown width t;
      tail_at = stop_of;
      told = Told.told;
      refused = Err;
      refusal_of = refusal_of;
      numbers = numbers;
    }
