-- How a reading is shown in the answer. Nothing here takes an input apart.
use Rattle.std.specs.Prelude.{ℕ, ◌+◌, ◌-◌, List, [], ◌∷◌, ◌++◌, length, replicate, get_or, Result, Ok, Err}
use Rattle.wire.specs.Refusal.{no_refusal}
use Rattle.wire.specs.View.{view}
use Rattle.wire.specs.Parts.{shown_from, end_from}
use Rattle.wire.specs.TlvAt.{stop_at}
use Rattle.wire.specs.Tlv.{Tlv, size_of, Tail}
use Rattle.wire.specs.declared.Refusal.{Refusal}
use Rattle.wire.specs.declared.View.{View}
use Rattle.initiation_message.specs.Grammar.{Reading, places}
use Rattle.initiation_message.specs.declared.InitiationTlvType.{InitiationTlvType}
use Rattle.initiation_message.specs.declared.InitiationTlvType.TheVariants.{String, SysDescr, SysName, VrTableName, AdminLabel, Unknown}
use Rattle.initiation_message.specs.declared.InitiationTlv.{InitiationTlv}
use Rattle.initiation_message.specs.declared.InitiationAnswer.{InitiationAnswer}

-- types 0 to 4 have names
abbrev pub names : List InitiationTlvType
names = String ∷ SysDescr ∷ SysName ∷ VrTableName ∷ AdminLabel ∷ []

unfoldable pub type_of : ℕ → InitiationTlvType
type_of n = get_or names n (Unknown n)

unfoldable pub kind_of : InitiationTlvType → ℕ
kind_of String = 0
kind_of SysDescr = 1
kind_of SysName = 2
kind_of VrTableName = 3
kind_of AdminLabel = 4
kind_of (Unknown n) = n

abbrev pub zero_tlv : InitiationTlv
zero_tlv = record { kind = 0; info_len = 0; place = 0 }

-- a TLV as the table shows it, where it starts at a place
abbrev pub entry : ℕ → Tlv → InitiationTlv
entry at t = record { kind = t.kind; info_len = t.size; place = at + 4 }

-- the view of an entry's value
abbrev pub info_of : InitiationTlv → View
info_of t = view t.place t.info_len

-- what the reader answers: a record, or the refusal alone
abbrev pub ReadInitiation : Type 0
ReadInitiation = Result InitiationAnswer Refusal

abbrev pub good_answer : ℕ → ℕ → List InitiationTlv → Tail → ReadInitiation
good_answer count end table t =
    Ok (record { stop = stop_at end t; tail = end; message = record { tlvs = table; count = count } })

abbrev pub refused_answer : Refusal → ReadInitiation
refused_answer r = Err r

-- what an answer says: its refusal, its stop and where its tail starts, both zero where it refuses
abbrev pub refusal_of : ReadInitiation → Refusal
refusal_of (Ok a) = no_refusal
refusal_of (Err r) = r

abbrev pub stop_of : ReadInitiation → ℕ
stop_of (Ok a) = a.stop
stop_of (Err r) = 0

abbrev pub tail_at : ReadInitiation → ℕ
tail_at (Ok a) = a.tail
tail_at (Err r) = 0

-- the good answer: the TLVs in order, entries past the count zero, the tail's start where the last TLV ends
abbrev pub shown : Reading → ReadInitiation
shown r =
    good_answer (length r.tlvs) (end_from size_of 0 r.tlvs)
    (shown_from size_of entry 0 r.tlvs ++ replicate (places - length r.tlvs) zero_tlv) r.tail
