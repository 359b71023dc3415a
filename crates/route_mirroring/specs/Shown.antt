-- How a reading is shown in the answer. Nothing here takes an input apart.
use Rattle.std.specs.Prelude.{ℕ, ◌+◌, ◌-◌, List, [], ◌∷◌, ◌++◌, length, replicate, get_or, eqb, Result, Ok, Err}
use Rattle.wire.specs.Bytes.{pick}
use Rattle.wire.specs.Refusal.{no_refusal}
use Rattle.wire.specs.View.{view}
use Rattle.wire.specs.Parts.{shown_from, end_from}
use Rattle.wire.specs.declared.Refusal.{Refusal}
use Rattle.route_mirroring.specs.Grammar.{Tlv, bgp_message, information, Reading, size_of, places}
use Rattle.route_mirroring.specs.declared.RouteMirroringInfo.{RouteMirroringInfo}
use Rattle.route_mirroring.specs.declared.RouteMirroringInfo.TheVariants.{ErroredPdu, MessageLost}
use Rattle.route_mirroring.specs.declared.RouteMirroringValue.{RouteMirroringValue}
use Rattle.route_mirroring.specs.declared.RouteMirroringValue.TheVariants.{BgpMessage, Information}
use Rattle.route_mirroring.specs.declared.RouteMirroringTlv.{RouteMirroringTlv}
use Rattle.route_mirroring.specs.declared.RouteMirroringAnswer.{RouteMirroringAnswer}

-- codes 0 and 1 by their numbers; what is above, which no reader shows, gets the last name
abbrev pub names : List RouteMirroringInfo
names = ErroredPdu ∷ MessageLost ∷ []

unfoldable pub info_of : ℕ → RouteMirroringInfo
info_of n = get_or names n MessageLost

unfoldable pub code_of : RouteMirroringInfo → ℕ
code_of ErroredPdu = 0
code_of MessageLost = 1

-- the value of an entry: a BGP message's view where the type is 0, and else information by its code
abbrev pub value_of : RouteMirroringTlv → RouteMirroringValue
value_of t = pick (eqb t.kind 0) (BgpMessage (view t.number t.info_len)) (Information (info_of t.number))

abbrev pub zero_tlv : RouteMirroringTlv
zero_tlv = record { kind = 0; info_len = 0; number = 0 }

-- a TLV as the table shows it, where it starts at a place
abbrev pub entry : ℕ → Tlv → RouteMirroringTlv
entry at (bgp_message size value) = record { kind = 0; info_len = size; number = at + 4 }
entry at (information size code) = record { kind = 1; info_len = size; number = code }

-- what the reader answers: the stop and the message, or a refusal
abbrev pub ReadMirroring : Type 0
ReadMirroring = Result RouteMirroringAnswer Refusal

abbrev pub good_answer : ℕ → ℕ → List RouteMirroringTlv → ReadMirroring
good_answer count end table = Ok (record { stop = end; message = record { tlvs = table; count = count } })

abbrev pub refused_answer : Refusal → ReadMirroring
refused_answer r = Err r

-- what an answer says: its refusal, and the stop, which is zero where it refuses
abbrev pub refusal_of : ReadMirroring → Refusal
refusal_of (Ok a) = no_refusal
refusal_of (Err r) = r

abbrev pub stop_of : ReadMirroring → ℕ
stop_of (Ok a) = a.stop
stop_of (Err r) = 0

-- the good answer: the TLVs in order, entries past the count zero, the stop where the last TLV ends and the tail starts
abbrev pub shown : Reading → ReadMirroring
shown r =
    good_answer (length r.tlvs) (end_from size_of 0 r.tlvs)
    (shown_from size_of entry 0 r.tlvs ++ replicate (places - length r.tlvs) zero_tlv)
