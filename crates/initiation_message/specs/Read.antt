-- What the reader answers, for every input.
use Rattle.std.specs.Prelude.{ℕ, ◌-◌, List, [], ◌∷◌, length, drop, leb, ltb, Result}
use Rattle.wire.specs.Number as Number
use Rattle.wire.specs.Bytes.{pick, num_at}
use Rattle.wire.specs.Refusal.{refusal}
use Rattle.wire.specs.Tlv.{Tlv, size_of}
use Rattle.wire.specs.TlvAt.{tlv_of, tail_of, stop_at}
use Rattle.wire.specs.Walk as Walk
use Rattle.wire.specs.Walk.{stop, item, Kit, Out, good, refused, read_from}
use Rattle.wire.specs.Exactly.{Reader}
use Rattle.wire.specs.declared.Refusal.{Refusal}
use Rattle.walk.specs.Walk.{kit_of}
use Rattle.walk.specs.Lent.{step_of}
use Rattle.walk.specs.declared.lent.Step.{Step}
use Rattle.initiation_message.specs.Told as Told
use Rattle.initiation_message.specs.Grammar.{places, grammar}
use Rattle.initiation_message.specs.Shown.{entry, zero_tlv, ReadInitiation, good_answer, refused_answer, refusal_of, tail_at, shown}
use Rattle.initiation_message.specs.declared.InitiationTlv.{InitiationTlv}

-- while more than 4 bytes are left: a TLV that is all there, or the end
unfoldable pub step : List ℕ → Walk.Step Tlv
step s = pick (leb (length s) 4) stop (pick (ltb (length s - 4) (num_at 2 s 2)) stop (item (tlv_of s)))

abbrev pub kit : Kit
kit = kit_of Tlv InitiationTlv step size_of entry zero_tlv places

-- where a walk stops that finds no TLV in some bytes, which stand at a place: behind a head whose value is not all there
abbrev pub stop_behind : ℕ → List ℕ → ℕ
stop_behind at s = stop_at at (tail_of s)

-- one step at a place, as the code answers it, and the entry that it leaves; there is no fault
abbrev pub Stepped : Type 0
Stepped = Result Step Refusal × InitiationTlv

abbrev pub step_at : List ℕ → ℕ → InitiationTlv → Stepped
step_at s at e = step_of entry size_of stop_behind at (drop at s) e (step (drop at s))

abbrev pub answer : Out InitiationTlv → ReadInitiation
answer (good n at table z) = good_answer n at table (tail_of z)
answer (refused r) = refused_answer r

abbrev pub read_initiation : List ℕ → ReadInitiation
read_initiation s =
    pick (ltb Number.limit (length s)) (refused_answer (refusal Number.TooLong 0)) (answer (read_from kit (length s) 0 s))

-- the numbers that it refuses with
abbrev pub numbers : List ℕ
numbers = Number.TooLong ∷ Number.TooMany ∷ []

-- the reader, and the grammar that it is held against
abbrev pub reader : Reader
reader =
    record {
      grammar = grammar;
      Answer = ReadInitiation;
      read = read_initiation;
      shown = shown;
      tail_at = tail_at;
      told = Told.told;
      refused = refused_answer;
      refusal_of = refusal_of;
      numbers = numbers;
    }
