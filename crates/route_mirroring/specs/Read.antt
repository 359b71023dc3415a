-- What the reader answers, for every input.
use Rattle.std.specs.Prelude.{ℕ, ◌-◌, List, [], ◌∷◌, length, drop, leb, ltb, eqb, Result}
use Rattle.wire.specs.Number as Number
use Rattle.wire.specs.Bytes.{pick, num_at}
use Rattle.wire.specs.Refusal.{refusal, cut_at}
use Rattle.wire.specs.TlvAt.{tlv_of, tlv_widths}
use Rattle.wire.specs.Walk as Walk
use Rattle.wire.specs.Walk.{stop, bad, item, Kit, Out, good, refused, read_from}
use Rattle.wire.specs.Exactly.{Reader}
use Rattle.wire.specs.declared.Refusal.{Refusal}
use Rattle.walk.specs.Walk.{kit_of}
use Rattle.walk.specs.Lent.{step_of}
use Rattle.walk.specs.declared.lent.Step.{Step}
use Rattle.route_mirroring.specs.Grammar.{Tlv, bgp_message, information, places, size_of, grammar}
use Rattle.route_mirroring.specs.Told as Told
use Rattle.route_mirroring.specs.Shown.{entry, zero_tlv, ReadMirroring, good_answer, refused_answer, refusal_of, stop_of, shown}
use Rattle.route_mirroring.specs.declared.RouteMirroringTlv.{RouteMirroringTlv}

-- each kind of TLV, where it is all there
abbrev pub message_of : List ℕ → Tlv
message_of s = bgp_message (tlv_of s).size (tlv_of s).value

abbrev pub information_of : List ℕ → Tlv
information_of s = information (num_at 2 s 2) (num_at 2 s 4)

-- a BGP message: its length is judged first, at the length's place
unfoldable pub message_step : List ℕ → Walk.Step Tlv
message_step s =
    pick (ltb (num_at 2 s 2) 19) (bad (refusal Number.BgpLength 2))
    (pick (ltb (length s - 4) (num_at 2 s 2)) (bad (cut_at (length s) 4 (num_at 2 s 2))) (item (message_of s)))

-- information: the length has no say
unfoldable pub information_step : List ℕ → Walk.Step Tlv
information_step s =
    pick (ltb (length s - 4) 2) (bad (cut_at (length s) 4 2))
    (pick (ltb 1 (num_at 2 s 4)) (bad (refusal Number.UnknownKind 4)) (item (information_of s)))

-- while more than 4 bytes are left: the type, and then what it asks for
unfoldable pub step : List ℕ → Walk.Step Tlv
step s =
    pick (leb (length s) 4) stop
    (pick (ltb 1 (num_at 2 s 0)) (bad (refusal Number.BadTlvType 0))
    (pick (eqb (num_at 2 s 0) 0) (message_step s) (information_step s)))

-- the widths of the parts of the TLV at the front: a BGP message has its length, information two bytes
abbrev pub widths_in : List ℕ → List ℕ
widths_in s = tlv_widths (pick (eqb (num_at 2 s 0) 0) (num_at 2 s 2) 2)

abbrev pub kit : Kit
kit = kit_of Tlv RouteMirroringTlv step size_of entry zero_tlv places

-- where a walk stops that finds no TLV more: where it stands
abbrev pub stop_at : ℕ → List ℕ → ℕ
stop_at at s = at

-- one step at a place, as the code answers it, and the entry that it leaves: the whole, or that of one type
abbrev pub Stepped : Type 0
Stepped = Result Step Refusal × RouteMirroringTlv

abbrev pub stepped : (List ℕ → Walk.Step Tlv) → List ℕ → ℕ → RouteMirroringTlv → Stepped
stepped look s at e = step_of entry size_of stop_at at (drop at s) e (look (drop at s))

abbrev pub step_at : List ℕ → ℕ → RouteMirroringTlv → Stepped
step_at s at e = stepped step s at e

abbrev pub answer : Out RouteMirroringTlv → ReadMirroring
answer (good n at table z) = good_answer n at table
answer (refused r) = refused_answer r

abbrev pub read_mirroring : List ℕ → ReadMirroring
read_mirroring s =
    pick (ltb Number.limit (length s)) (refused_answer (refusal Number.TooLong 0)) (answer (read_from kit (length s) 0 s))

-- the numbers that it refuses with
abbrev pub numbers : List ℕ
numbers = Number.TooLong ∷ Number.Cut ∷ Number.UnknownKind ∷ Number.BadTlvType ∷ Number.BgpLength ∷ Number.TooMany ∷ []

-- the reader, and the grammar that it is held against
abbrev pub reader : Reader
reader =
    record {
      grammar = grammar;
      Answer = ReadMirroring;
      read = read_mirroring;
      shown = shown;
      tail_at = stop_of;
      told = Told.told;
      refused = refused_answer;
      refusal_of = refusal_of;
      numbers = numbers;
    }
