-- The listing of a BMP stream: the messages that are split off it one after the other, and the text that says so.
use Rattle.std.specs.Prelude.{ℕ, ◌+◌, List, [], ◌∷◌, ◌++◌, length, drop, ltb, eqb, Option, Some, None}
use Rattle.wire.specs.Number as Number
use Rattle.wire.specs.Bytes.{pick}
use Rattle.wire.specs.Refusal.{refusal}
use Rattle.wire.specs.Walk.{Step, stop, End, tail, fault, Walked, Kit, walk}
use Rattle.common_header.specs.declared.BmpCommonHeader.{BmpCommonHeader}
use Rattle.splitter.specs.Read.{split_of}
use Rattle.splitter.specs.Stream.{Message, known, skipped, fields_of, length_of, as_step, messages_by}
use Rattle.message_answer.specs.Answer.{number, answer_of}
use Rattle.listing.specs.Text.{heading, message_line, refused_line, end_line}

-- the longest stream that is listed
abbrev pub longest : ℕ
longest = 65536

-- the number of a message: its type says how what follows the six bytes of the common header is read
abbrev pub number_of : BmpCommonHeader → List ℕ → ℕ
number_of h b = number (answer_of h.msg_type (drop 6 b))

-- what a message is answered with, none where it is skipped; of such a one no byte behind the header is looked at
abbrev pub answer : Message → Option ℕ
answer (known h b) = Some (number_of h b)
answer (skipped f b) = None

-- ---- the messages of a stream
-- the splitter is asked while bytes are left
abbrev pub step : List ℕ → Step Message
step s = pick (eqb (length s) 0) stop (as_step s (split_of s))

abbrev pub kit : Kit
kit = messages_by step

-- the messages, and where the walk ended: at the stream's end, or at a refusal of the splitter. A stream that is too long is
-- refused before any message
abbrev pub found : List ℕ → Walked Message
found s = pick (ltb longest (length s)) (record { items = []; end = fault (refusal Number.TooLong 0) }) (walk kit (length s) s)

-- ---- the text
-- a line for each message, the first of them at a place
abbrev pub lines : ℕ → List Message → End → List ℕ
lines at [] (tail z) = end_line at
lines at [] (fault r) = refused_line at r.number ++ end_line at
lines at (m ∷ l) e = message_line at (fields_of m).kind (length_of m) (answer m) ++ lines (at + length_of m) l e

unfoldable pub text : List ℕ → List ℕ
text s = heading ++ lines 0 (found s).items (found s).end

-- no stream of bytes has a longer text: 25 bytes of heading, 3 for each byte of the stream (a message has at least 6, and its
-- line at most 17 where its length has one digit, 21 where it has more), 13 for a refusal, 10 for the last line
abbrev pub enough : ℕ
enough = 196656
