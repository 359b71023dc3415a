-- A session: the bytes of a stream come in pieces, and a caller puts each piece to the receiver, again from where the call stopped.
use Rattle.std.specs.Prelude.{ℕ, ◌≤◌, ◌≡◌, List, [], ◌∷◌, ◌++◌, eqb, length, take, drop, Option, Some, None, Ok, Err}
use Rattle.wire.specs.Number as Number
use Rattle.wire.specs.Bytes.{pick}
use Rattle.wire.specs.Refusal.{refusal}
use Rattle.wire.specs.Rfc.{Each}
use Rattle.wire.specs.View.{viewed}
use Rattle.wire.specs.Walk.{Step, stop, bad, item, End, tail, fault, Walked, Kit, walk}
use Rattle.wire.specs.declared.Refusal.{Refusal}
use Rattle.splitter.specs.Read.{split_of}
use Rattle.splitter.specs.Stream.{Message, known, skipped, as_step, messages_by}
use Rattle.receiver.specs.Receive.{Judgement, room, longest_piece, too_big, stream_too_big, fresh, receive_of, buffer_of}
use Rattle.receiver.specs.declared.Outcome.{Outcome}
use Rattle.receiver.specs.declared.Receiver.{Receiver}

-- ---- the stream, as the splitter sees it
-- a Cut is no fault: what is missing has not come yet
abbrev pub or_waits : Step Message → Step Message
or_waits stop = stop
or_waits (bad r) = pick (eqb r.number Number.Cut) stop (bad r)
or_waits (item m) = item m

-- at a boundary the splitter is asked about the next bytes, at most as many as the buffer holds
abbrev pub step : List ℕ → Step Message
step s = or_waits (as_step (take room s) (split_of (take room s)))

abbrev pub kit : Kit
kit = messages_by step

-- the messages one after the other, up to bytes that wait for more or a refusal
abbrev pub split : List ℕ → Walked Message
split s = walk kit (length s) s

-- the refusal that then stands: the splitter's, or StreamTooBig where the header that waits says too much
abbrev pub standing_at : End → Option Refusal
standing_at (tail z) = pick (too_big z) (Some stream_too_big) None
standing_at (fault r) = Some r

-- ---- the caller
-- what it has: the buffer that it lends, the receiver's state, and the messages that were handed out
pub record Session : Type 0 where
  pub buffer : List ℕ
  pub state : Receiver
  pub messages : List Message

-- at the start, and again after a reset: whatever stands in the buffer
abbrev pub begun : List ℕ → Session
begun b = record { buffer = b; state = fresh; messages = [] }

-- what a call hands out: the bytes that its view shows of the buffer
abbrev pub handed : List ℕ → Judgement → List Message
handed b (Ok (Outcome.Waiting missing)) = []
handed b (Ok (Outcome.Message header v)) = known header (viewed b v) ∷ []
handed b (Ok (Outcome.Skipped fields v)) = skipped fields (viewed b v) ∷ []
handed b (Err r) = []

-- one call; the buffer is the one that the calls before have left
abbrev pub call : Session → List ℕ → Session
call c xs =
    record {
      buffer = buffer_of c.buffer c.state xs;
      state = (receive_of c.buffer c.state xs).state;
      messages = c.messages ++ handed (buffer_of c.buffer c.state xs) (receive_of c.buffer c.state xs).outcome;
    }

-- how many bytes it takes
abbrev pub took : Session → List ℕ → ℕ
took c xs = (receive_of c.buffer c.state xs).took

-- the bytes held
abbrev pub held_bytes : Session → List ℕ
held_bytes c = take c.state.held c.buffer

-- any calls, with any pieces: where they have led, and all bytes that they took, in order
pub data Called (b : List ℕ) : Session → List ℕ → Type 0 where
  not_yet : Called b (begun b) []
  once_more : {c : Session} {s : List ℕ} → Called b c s → (xs : List ℕ) → Called b (call c xs) (s ++ take (took c xs) xs)

-- ---- a stream in pieces: joined, in order, they are the stream (`flatten`)
-- none is longer than a call takes
abbrev pub Pieces : List (List ℕ) → Type 0
Pieces ps = Each (λ (p : List ℕ). length p ≤ longest_piece) ps

-- A caller puts each piece again from where the call stopped, till it is used up, and then the next. Where a refusal stands it may pass over what is left of a
-- piece, and so over all pieces that are left.
pub data Puts : Session → List (List ℕ) → Session → Type 0 where
  all_put : {c : Session} → Puts c [] c
  used_up : {c d : Session} {ps : List (List ℕ)} → Puts c ps d → Puts c ([] ∷ ps) d
  put_again : {c d : Session} {p : List ℕ} {ps : List (List ℕ)} → Puts (call c p) (drop (took c p) p ∷ ps) d → Puts c (p ∷ ps) d
  passes_over : {c d : Session} {p : List ℕ} {ps : List (List ℕ)} {r : Refusal} → c.state.standing ≡ Some r → Puts c ps d → Puts c (p ∷ ps) d

-- ---- the refusals that stand, each with how many bytes have brought it: the first, or all six of a header
pub data Brings : Refusal → ℕ → Type 0 where
  wrong_version : Brings (refusal Number.BadVersion 0) 1
  length_below_6 : Brings (refusal Number.BadMessageLength 1) 6
  length_above_limit : Brings (refusal Number.TooLong 1) 6
  length_above_buffer : Brings stream_too_big 6

-- ---- what a session shows of a stream: the messages that the splitter hands out or skips, in order, and the refusal that then stands
pub record Follows (c : Session) (s : List ℕ) : Type 0 where
  pub messages_are : c.messages ≡ (split s).items
  pub standing_is : c.state.standing ≡ standing_at (split s).end
