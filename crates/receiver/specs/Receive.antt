-- What a receiver answers to a call, for every buffer, state and piece (docs/RULES.md, "Receiver").
use Rattle.std.specs.Prelude.{ℕ, suc, ◌≤◌, ◌<◌, ◌≡◌, Bool, true, false, not, List, [], ◌∷◌, ◌++◌, ltb, eqb, length, take, Option, Some, None, Result, Ok, Err}
use Rattle.std.proofs.Math.Seq.{paste}
use Rattle.wire.specs.Number as Number
use Rattle.wire.specs.Bytes.{pick, num_at}
use Rattle.wire.specs.Refusal.{refusal}
use Rattle.wire.specs.declared.Refusal.{Refusal}
use Rattle.splitter.specs.Shown.{SplitAnswer}
use Rattle.splitter.specs.Read.{split_of}
use Rattle.splitter.specs.declared.Split.{Split}
use Rattle.receiver.specs.declared.Outcome.{Outcome}
use Rattle.receiver.specs.declared.Receiver.{Receiver}
use Rattle.receiver.specs.declared.Received.{Received}

-- the size of the buffer, which is the longest message that it holds, and the longest piece
abbrev pub room : ℕ
room = 65536

abbrev pub longest_piece : ℕ
longest_piece = 4096

-- ---- the bytes since the last boundary
-- what they are, or why they are none
abbrev pub Judgement : Type 0
Judgement = Result Outcome Refusal

-- their header is there, and its length field says more than the buffer holds
abbrev pub too_big : List ℕ → Bool
too_big h = pick (ltb (length h) 6) false (ltb room (num_at 4 h 1))

abbrev pub stream_too_big : Refusal
stream_too_big = refusal Number.StreamTooBig 1

-- the bytes that it is given for: a whole header of version 3 with a length from 65,537 to 1,048,576 (a promise of the receiver)
pub record SaysTooBig (h : List ℕ) : Type 0 where
  pub six : 6 ≤ length h
  pub version_3 : num_at 1 h 0 ≡ 3
  pub above_buffer : room < num_at 4 h 1
  pub within_limit : num_at 4 h 1 ≤ Number.limit

-- a refusal of the splitter, by whether the message would be too big: what is Cut is the start of one, unless it would
abbrev pub refused_as : Bool → Refusal → Judgement
refused_as big r =
    pick (eqb r.number Number.Cut)
    (pick big (Err stream_too_big) (Ok (Outcome.Waiting r.missing)))
    (Err r)

-- what they are, as the splitter says
abbrev pub outcome_of : List ℕ → SplitAnswer → Judgement
outcome_of h (Ok (Split.Message header v)) = Ok (Outcome.Message header v)
outcome_of h (Ok (Split.Skipped fields v)) = Ok (Outcome.Skipped fields v)
outcome_of h (Err r) = refused_as (too_big h) r

unfoldable pub judge_of : List ℕ → Judgement
judge_of h = outcome_of h (split_of h)

abbrev pub waiting : Judgement → Bool
waiting (Ok (Outcome.Waiting missing)) = true
waiting (Ok (Outcome.Message header v)) = false
waiting (Ok (Outcome.Skipped fields v)) = false
waiting (Err r) = false

-- ---- the bytes of a piece
-- how many are taken where the bytes h are held: one after the other, as long as those since the last boundary wait for more
unfoldable pub took_of : List ℕ → List ℕ → ℕ
took_of h [] = 0
took_of h (x ∷ xs) = suc (pick (waiting (judge_of (h ++ (x ∷ [])))) (took_of (h ++ (x ∷ [])) xs) 0)

-- so many bytes are held, and no refusal stands
abbrev pub holding : ℕ → Receiver
holding n = record { held = n; standing = None }

-- the state in which a session begins, and begins again
abbrev pub fresh : Receiver
fresh = holding 0

-- the state after so many bytes since the last boundary: a message leaves none of them held, and a refusal stands
abbrev pub state_of : ℕ → Judgement → Receiver
state_of n (Ok (Outcome.Waiting missing)) = holding n
state_of n (Ok (Outcome.Message header v)) = fresh
state_of n (Ok (Outcome.Skipped fields v)) = fresh
state_of n (Err r) = record { held = n; standing = Some r }

-- so many bytes of the piece were taken, now there are so many since the last boundary, and they are this
abbrev pub settled_by : ℕ → ℕ → Judgement → Received
settled_by took n o = record { took = took; outcome = o; state = state_of n o }

abbrev pub settled : ℕ → List ℕ → Received
settled took h = settled_by took (length h) (judge_of h)

-- the bytes h are held, and xs is the piece
abbrev pub taken : List ℕ → List ℕ → Received
taken h xs = settled (took_of h xs) (h ++ take (took_of h xs) xs)

-- ---- a call
-- it takes nothing, and leaves the state as it was
abbrev pub refused : Receiver → Refusal → Received
refused st r = record { took = 0; outcome = Err r; state = st }

-- the first n bytes of the buffer are there, and are the start of an unfinished message
abbrev pub unfinished : List ℕ → ℕ → Bool
unfinished b n = pick (ltb (length b) n) false (waiting (judge_of (take n b)))

-- a refusal that stands is given again; where none does, the call goes on
abbrev pub unless_standing : Receiver → Option Refusal → Received → Received
unless_standing st (Some r) a = refused st r
unless_standing st None a = a

unfoldable pub receive_of : List ℕ → Receiver → List ℕ → Received
receive_of b st xs =
    pick (not (eqb (length b) room)) (refused st (refusal Number.NoRoom 0))
    (pick (ltb longest_piece (length xs)) (refused st (refusal Number.TooLong 0))
    (unless_standing st st.standing
    (pick (not (unfinished b st.held)) (refused st (refusal Number.BadField 0))
    (taken (take st.held b) xs))))

-- the buffer after the call: the bytes taken stand behind those held before, and no other byte has changed
abbrev pub buffer_of : List ℕ → Receiver → List ℕ → List ℕ
buffer_of b st xs = paste b st.held xs (receive_of b st xs).took
