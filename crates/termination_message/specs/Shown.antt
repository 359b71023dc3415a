-- How a reading is shown in the answer. Nothing here takes an input apart.
use Rattle.std.specs.Prelude.{ℕ, ◌+◌, ◌-◌, List, [], ◌∷◌, ◌++◌, eqb, length, replicate, get_or, Result, Ok, Err}
use Rattle.wire.specs.Bytes.{pick}
use Rattle.wire.specs.Refusal.{no_refusal}
use Rattle.wire.specs.View.{view}
use Rattle.wire.specs.Parts.{shown_from, end_from}
use Rattle.wire.specs.TlvAt.{stop_at}
use Rattle.wire.specs.Tlv.{Tail}
use Rattle.wire.specs.declared.Refusal.{Refusal}
use Rattle.wire.specs.declared.View.{View}
use Rattle.termination_message.specs.Grammar.{Tlv, string, reason, size_of, Reading, places}
use Rattle.termination_message.specs.declared.TerminationTlvType.{TerminationTlvType}
use Rattle.termination_message.specs.declared.TerminationTlvValue.{TerminationTlvValue}
use Rattle.termination_message.specs.declared.TerminationReason.{TerminationReason}
use Rattle.termination_message.specs.declared.TerminationReason.TheVariants.{AdministrativelyClosed, UnspecifiedReason, OutOfResources, RedundantConnection, PermanentlyAdministrativelyClosed}
use Rattle.termination_message.specs.declared.TerminationTlv.{TerminationTlv}
use Rattle.termination_message.specs.declared.TerminationAnswer.{TerminationAnswer}

-- a TLV's type is that of its value
unfoldable pub type_of : TerminationTlvValue → TerminationTlvType
type_of (TerminationTlvValue.String v) = TerminationTlvType.String
type_of (TerminationTlvValue.Reason r) = TerminationTlvType.Reason

-- the reasons 0 to 3 by their numbers; 4 is the last, and what is above it, which the reader refuses, has its name too
abbrev pub names : List TerminationReason
names = AdministrativelyClosed ∷ UnspecifiedReason ∷ OutOfResources ∷ RedundantConnection ∷ []

unfoldable pub reason_of : ℕ → TerminationReason
reason_of n = get_or names n PermanentlyAdministrativelyClosed

unfoldable pub code_of : TerminationReason → ℕ
code_of AdministrativelyClosed = 0
code_of UnspecifiedReason = 1
code_of OutOfResources = 2
code_of RedundantConnection = 3
code_of PermanentlyAdministrativelyClosed = 4

-- the view of a String, whose number is its place
abbrev pub text_of : TerminationTlv → View
text_of t = view t.number t.info_len

-- what an entry's value is: type 0 is a String, every other a Reason, whose number is its code
abbrev pub value_of : TerminationTlv → TerminationTlvValue
value_of t = pick (eqb t.kind 0) (TerminationTlvValue.String (text_of t)) (TerminationTlvValue.Reason (reason_of t.number))

abbrev pub zero_tlv : TerminationTlv
zero_tlv = record { kind = 0; info_len = 0; number = 0 }

-- a TLV as the table shows it, where it starts at a place
abbrev pub entry : ℕ → Tlv → TerminationTlv
entry at (string size value) = record { kind = 0; info_len = size; number = at + 4 }
entry at (reason size code) = record { kind = 1; info_len = size; number = code }

-- what the reader answers: a record, or the refusal alone
abbrev pub ReadTermination : Type 0
ReadTermination = Result TerminationAnswer Refusal

abbrev pub good_answer : ℕ → ℕ → List TerminationTlv → Tail → ReadTermination
good_answer count end table t =
    Ok (record { stop = stop_at end t; tail = end; message = record { tlvs = table; count = count } })

abbrev pub refused_answer : Refusal → ReadTermination
refused_answer r = Err r

-- what an answer says: its refusal, its stop and where its tail starts, both zero where it refuses
abbrev pub refusal_of : ReadTermination → Refusal
refusal_of (Ok a) = no_refusal
refusal_of (Err r) = r

abbrev pub stop_of : ReadTermination → ℕ
stop_of (Ok a) = a.stop
stop_of (Err r) = 0

abbrev pub tail_at : ReadTermination → ℕ
tail_at (Ok a) = a.tail
tail_at (Err r) = 0

-- the good answer: the TLVs in order, entries past the count zero, the tail's start where the last TLV ends
abbrev pub shown : Reading → ReadTermination
shown r =
    good_answer (length r.tlvs) (end_from size_of 0 r.tlvs)
    (shown_from size_of entry 0 r.tlvs ++ replicate (places - length r.tlvs) zero_tlv) r.tail
