-- What the reader answers, for every input.
use Rattle.std.specs.Prelude.{ℕ, ◌-◌, List, [], ◌∷◌, length, take, drop, leb, ltb, eqb, Result}
use Rattle.wire.specs.Number as Number
use Rattle.wire.specs.Bytes.{pick, num_at}
use Rattle.wire.specs.Refusal.{refusal, cut_at}
use Rattle.wire.specs.TlvAt.{tail_of, stop_at, tlv_widths}
use Rattle.wire.specs.Walk as Walk
use Rattle.wire.specs.Walk.{stop, bad, item, Kit, Out, good, refused, read_from}
use Rattle.wire.specs.Exactly.{Reader}
use Rattle.wire.specs.declared.Refusal.{Refusal}
use Rattle.walk.specs.Walk.{kit_of}
use Rattle.walk.specs.Lent.{step_of}
use Rattle.walk.specs.declared.lent.Step.{Step}
use Rattle.termination_message.specs.Grammar.{Tlv, string, reason, size_of, places, grammar}
use Rattle.termination_message.specs.Told as Told
use Rattle.termination_message.specs.Shown.{entry, zero_tlv, ReadTermination, good_answer, refused_answer, refusal_of, tail_at, shown}
use Rattle.termination_message.specs.declared.TerminationTlv.{TerminationTlv}

-- the TLVs as they are taken off the front of some bytes, where they are all there
abbrev pub string_in : List ℕ → Tlv
string_in s = string (num_at 2 s 2) (take (num_at 2 s 2) (drop 4 s))

abbrev pub reason_in : List ℕ → Tlv
reason_in s = reason (num_at 2 s 2) (num_at 2 s 4)

-- while more than 4 bytes are left: the type is judged, then the length; a Reason takes two bytes whatever its length is
unfoldable pub step : List ℕ → Walk.Step Tlv
step s =
    pick (leb (length s) 4) stop
    (pick (ltb 1 (num_at 2 s 0)) (bad (refusal Number.UnknownKind 0))
    (pick (ltb (length s - 4) (num_at 2 s 2)) stop
    (pick (eqb (num_at 2 s 0) 0) (item (string_in s))
    (pick (ltb (length s - 4) 2) (bad (cut_at (length s) 4 2))
    (pick (ltb 4 (num_at 2 s 4)) (bad (refusal Number.UnknownKind 4)) (item (reason_in s)))))))

-- the widths of the parts of the TLV at the front, as far as a Cut goes by them: a Reason's value needs two bytes
abbrev pub widths_in : List ℕ → List ℕ
widths_in s = tlv_widths 2

abbrev pub kit : Kit
kit = kit_of Tlv TerminationTlv step size_of entry zero_tlv places

-- where a walk stops that finds no TLV in some bytes, which stand at a place: behind a head whose value is not all there
abbrev pub stop_behind : ℕ → List ℕ → ℕ
stop_behind at s = stop_at at (tail_of s)

-- one step at a place, as the code answers it, and the entry that it leaves
abbrev pub StepAnswer : Type 0
StepAnswer = Result Step Refusal × TerminationTlv

abbrev pub step_at : List ℕ → ℕ → TerminationTlv → StepAnswer
step_at s at e = step_of entry size_of stop_behind at (drop at s) e (step (drop at s))

abbrev pub answer : Out TerminationTlv → ReadTermination
answer (good n at table z) = good_answer n at table (tail_of z)
answer (refused r) = refused_answer r

abbrev pub read_termination : List ℕ → ReadTermination
read_termination s =
    pick (ltb Number.limit (length s)) (refused_answer (refusal Number.TooLong 0)) (answer (read_from kit (length s) 0 s))

-- the numbers that it refuses with
abbrev pub numbers : List ℕ
numbers = Number.TooLong ∷ Number.Cut ∷ Number.UnknownKind ∷ Number.TooMany ∷ []

-- the reader, and the grammar that it is held against
abbrev pub reader : Reader
reader =
    record {
      grammar = grammar;
      Answer = ReadTermination;
      read = read_termination;
      shown = shown;
      tail_at = tail_at;
      told = Told.told;
      refused = refused_answer;
      refusal_of = refusal_of;
      numbers = numbers;
    }
