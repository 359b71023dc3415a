-- What the steps of the code are held to: the bytes of a piece taken in runs, each up to the next judgement.
use Rattle.std.specs.Prelude.{ℕ, ◌+◌, ◌≤◌, ◌≡◌, List, ◌++◌, ltb, eqb, length, take, Option, Some, None, Result, Ok, Err}
use Rattle.wire.specs.Number as Number
use Rattle.wire.specs.Bytes.{pick}
use Rattle.wire.specs.declared.Refusal.{Refusal}
use Rattle.receiver.specs.Receive.{Judgement, room, longest_piece, refused_as, judge_of, took_of, settled, taken, refused, receive_of}
use Rattle.receiver.specs.declared.Outcome.{Outcome}
use Rattle.receiver.specs.declared.Receiver.{Receiver}
use Rattle.receiver.specs.declared.Received.{Received}

-- so many bytes of the lent buffer are held, and are the start of a message that lacks some
pub record Held (b : List ℕ) (held missing : ℕ) : Type 0 where
  pub size : length b ≡ room
  pub fits : held ≤ room
  pub waits : judge_of (take held b) ≡ Ok (Outcome.Waiting missing)

-- the checks of a call: they let it take bytes, or they refuse it, as the whole call is to be answered
abbrev pub Enters : List ℕ → Receiver → List ℕ → Result ℕ Refusal → Type 0
Enters b st xs (Ok missing) = Held b st.held missing × ((length xs ≤ longest_piece) × (receive_of b st xs ≡ taken (take st.held b) xs))
Enters b st xs (Err r) = receive_of b st xs ≡ refused st r

-- a refusal of the splitter, where there is room for so many bytes more
abbrev pub by_room : Refusal → ℕ → Judgement
by_room r left = refused_as (ltb left r.missing) r

-- how many bytes those lack that wait for more
abbrev pub missing_in : Judgement → Option ℕ
missing_in (Ok (Outcome.Waiting missing)) = Some missing
missing_in (Ok (Outcome.Message header v)) = None
missing_in (Ok (Outcome.Skipped fields v)) = None
missing_in (Err r) = None

-- the rest of a piece, of which some bytes were taken before
abbrev pub taken_after : ℕ → List ℕ → List ℕ → Received
taken_after before h xs = settled (before + took_of h xs) (h ++ take (took_of h xs) xs)

-- ---- how long a run is
-- at a boundary, by what the whole piece is judged to be: all of it where it waits, the message, or what brings the refusal
abbrev pub refused_run : ℕ → ℕ
refused_run number = pick (eqb number Number.BadVersion) 1 6

abbrev pub first_run : Judgement → ℕ → ℕ
first_run (Ok (Outcome.Waiting missing)) there = there
first_run (Ok (Outcome.Message header v)) there = v.length
first_run (Ok (Outcome.Skipped fields v)) there = v.length
first_run (Err r) there = refused_run r.number
