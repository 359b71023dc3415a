-- What the reader answers, for every input.
use Rattle.std.specs.Prelude.{ℕ, ◌+◌, ◌-◌, Bool, true, false, List, [], ◌∷◌, length, drop, ltb, eqb, Some, None, Result, Ok, Err}
use Rattle.wire.specs.Number as Number
use Rattle.wire.specs.Bytes.{pick, has, num_at}
use Rattle.wire.specs.Refusal.{refusal, cut_at}
use Rattle.wire.specs.View.{view}
use Rattle.wire.specs.declared.Refusal.{Refusal}
use Rattle.wire.specs.Exactly.{Reader}
use Rattle.peer_down_notification.specs.Grammar.{absent, present, Reading, grammar}
use Rattle.peer_down_notification.specs.Told as Told
use Rattle.peer_down_notification.specs.Shown.{PeerDownAnswer, reason_of, shown, refusal_of, stop_of}
use Rattle.peer_down_notification.specs.declared.PeerDownReason.{PeerDownReason}

-- the reason that a number stands for, where it has a name
abbrev pub named : ℕ → Result PeerDownReason Refusal
named kind = pick (ltb 6 kind) (Err (refusal Number.UnknownKind 0)) (Ok (reason_of kind))

-- whether a reason has data where this many bytes follow it
unfoldable pub has_data : ℕ → ℕ → Bool
has_data kind rest = pick (eqb kind 0) (ltb 0 rest) (pick (eqb kind 4) false (pick (eqb kind 5) false true))

-- a reason and the bytes behind it taken apart, by whether they are its data
abbrev pub apart : Bool → ℕ → List ℕ → Reading
apart true kind rest = record { reason = kind; data_part = present rest; tail = [] }
apart false kind rest = record { reason = kind; data_part = absent; tail = rest }

abbrev pub parts_of : List ℕ → Reading
parts_of s = apart (has_data (num_at 1 s 0) (length s - 1)) (num_at 1 s 0) (drop 1 s)

-- the good answer to a reason that this many bytes follow
abbrev pub good_of : ℕ → ℕ → PeerDownAnswer
good_of kind rest =
    pick (has_data kind rest) (Ok (record { reason = reason_of kind; «data» = Some (view 1 rest) }, 1 + rest))
    (Ok (record { reason = reason_of kind; «data» = None }, 1))

abbrev pub read_peer_down : List ℕ → PeerDownAnswer
read_peer_down s =
    pick (ltb Number.limit (length s)) (Err (refusal Number.TooLong 0))
    (pick (has 1 s 0)
    (pick (ltb 6 (num_at 1 s 0)) (Err (refusal Number.UnknownKind 0)) (good_of (num_at 1 s 0) (length s - 1)))
    (Err (cut_at (length s) 0 1)))

-- the numbers that it refuses with
abbrev pub numbers : List ℕ
numbers = Number.TooLong ∷ Number.Cut ∷ Number.UnknownKind ∷ []

-- the reader, and the grammar that it is held against
abbrev pub reader : Reader
reader =
    record {
      grammar = grammar;
      Answer = PeerDownAnswer;
      read = read_peer_down;
      shown = shown;
      tail_at = stop_of;
      told = Told.told;
      refused = Err;
      refusal_of = refusal_of;
      numbers = numbers;
    }
