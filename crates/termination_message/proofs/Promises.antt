-- What a user of the Termination body relies on. Assumes nothing.
use mathlib.Core.Path.{◌≡◌, refl, ap}
use mathlib.Core.List.{List}
use Prim.Native.Nat.{ℕ, ◌≤◌, ◌<◌}
use borrow.Author.Tests.{le-ltb}
use lib.ListN.{length, drop, take}
use Rattle.wire.specs.Parts.{AllAt, end_from}
use Rattle.wire.specs.Tlv.{put_tail}
use Rattle.wire.proofs.Determined.{determined}
use Rattle.wire.proofs.Exactly.{not_too_long}
use Rattle.wire.proofs.Walk.{read_complete, each_at, read_accepted, read_too_many, tail_behind}
use Rattle.wire.proofs.Walk as Walk
use Rattle.wire.specs.Refuses.{Refuses}
use Rattle.wire.specs.Waits.{Waits, MissingTells}
use Rattle.wire.specs.Exactly.{Sound, Complete, Told, Unique}
use Rattle.wire.specs.Number as Number
use Rattle.wire.specs.Refusal.{refusal}
use Rattle.wire.specs.TlvAt.{unread}
use Rattle.wire.specs.Bytes.{Bytes}
use Rattle.wire.specs.Lacking.{CutAfter}
use Rattle.wire.proofs.Tlv.{stop_behind}
use Rattle.wire.proofs.Cuts.{cuts_in, body_cut}
use Rattle.termination_message.specs.Grammar.{size_of, Reading, join, Good, grammar, places, put, ReadTlv}
use Rattle.termination_message.specs.Shown.{type_of, reason_of, code_of, value_of, ReadTermination, refused_answer, refusal_of, stop_of, shown}
use Rattle.termination_message.specs.Read.{kit, read_termination, reader, answer, widths_in, step}
use Rattle.termination_message.specs.declared.TerminationReason.{TerminationReason}
use Rattle.termination_message.specs.declared.TerminationReason.TheVariants.{AdministrativelyClosed, UnspecifiedReason, OutOfResources, RedundantConnection, PermanentlyAdministrativelyClosed}
use Rattle.termination_message.specs.declared.TerminationTlv.{TerminationTlv}
use Rattle.termination_message.specs.declared.TerminationTlvType.{TerminationTlvType}
use Rattle.termination_message.specs.declared.TerminationTlvValue.{TerminationTlvValue}
use Rattle.termination_message.proofs.Laws.{faults, laws, tails}
use Rattle.termination_message.proofs.Shows.{shows_of, ValueAt, code_told, value_at}
use Rattle.termination_message.proofs.Told as ToldProofs
use Rattle.termination_message.proofs.Refusals as Refusals
use Rattle.termination_message.proofs.Waits as Waiting
use Rattle.termination_message.proofs.Cuts.{cuts}

-- What the reader accepts has a good reading that fits, and it shows that reading.
pub sound : Sound reader
sound s p e =
    let n = not_too_long (λ (a : ReadTermination). (refusal_of a).number) _ _ (length s) refl e in
    let a = read_accepted kit laws tails (λ (x : ReadTermination). (refusal_of x).number) answer faults (λ r. refl) 0 s p n.1 in
    (record { tlvs = a.0; tail = a.1 }, shows_of s n.0 a.0 a.1 a.2)

-- Every good reading that fits is accepted, and shown.
pub complete : Complete reader
complete r g f short =
    (shows_of (join r) short r.tlvs r.tail (read_complete kit laws tails 0 (join r) r.tlvs r.tail g.each g.tail_good refl f)).shown_so

-- Every good reading that fits is told by the answer that shows it.
pub told_back : Told reader
told_back = ToldProofs.told_back

-- A refusal shows nothing but itself, and has one of the reader's numbers; each of these is given for some input.
pub refuses : Refuses reader
refuses = Refusals.refuses

-- Who waits for as many bytes as a Cut says are missing waits neither too long nor in vain.
pub waits : Waits reader
waits = Waiting.waits

-- Bytes are missing exactly where the refusal is a Cut.
pub missing_tells : MissingTells reader
missing_tells = Waiting.missing_tells

-- A good reading of more TLVs than the table holds is refused with TooMany, at the first that has no room.
pub too_many : (r : Reading) → Good r → length (join r) ≤ Number.limit → places < length r.tlvs
    → read_termination (join r) ≡ refused_answer (refusal Number.TooMany (end_from size_of 0 (take places r.tlvs)))
too_many r g h many =
    rw (le-ltb Number.limit (length (join r)) h)
    (ap answer (read_too_many kit laws tails 0 (join r) r.tlvs r.tail g.each g.tail_good refl many))

-- What follows the stop is the tail, or what is there of the value of an oversized TLV.
pub stop_told : (r : Reading) → Good r → drop (stop_of (shown r)) (join r) ≡ unread r.tail
stop_told r g = stop_behind (join r) _ r.tail (tail_behind kit laws (join r) r.tlvs (put_tail r.tail) 0 g.each refl)

-- No input has two readings, whatever the table holds.
pub unique : Unique grammar
unique r q g h e =
    let u = Walk.unique kit laws tails r.tlvs q.tlvs r.tail q.tail g.each g.tail_good h.each h.tail_good e in
    λ i. record { tlvs = u.0 i; tail = u.1 i }

-- Each TLV's entry, in the answer that shows a good reading, shows its value: a String's view the bytes, a Reason's name the number.
pub views : (r : Reading) → Good r → AllAt size_of (ValueAt (join r)) 0 r.tlvs
views r g = each_at kit laws (ValueAt (join r)) (join r) (value_at (join r)) r.tlvs (put_tail r.tail) 0 g.each refl

-- The name of each code that the reader lets in stands for that code, and each name is that of its code.
pub reason_code : (n : ℕ) → n ≤ 4 → code_of (reason_of n) ≡ n
reason_code = code_told

pub code_reason : (x : TerminationReason) → reason_of (code_of x) ≡ x
unfolding reason_of code_of
code_reason AdministrativelyClosed = refl
code_reason UnspecifiedReason = refl
code_reason OutOfResources = refl
code_reason RedundantConnection = refl
code_reason PermanentlyAdministrativelyClosed = refl

-- A Cut is at the first part that is not whole, behind TLVs that are, with as many missing as it lacks.
pub refuses_cut : (s : List ℕ) → Bytes s → (refusal_of (read_termination s)).number ≡ Number.Cut → CutAfter put ReadTlv size_of widths_in 0 s (refusal_of (read_termination s))
refuses_cut =
    body_cut kit laws widths_in (λ z. cuts_in (widths_in z) (length z) (step z) (cuts z)) reader _ answer (λ s. refl) refl
    (λ n at table z. refl) (λ r. refl)

-- ---- any two answers that the contracts allow are equal
-- Two numbers that code may tell of the same reason are equal.
pub code_determined : (x : TerminationReason) (r q : ℕ) → r ≡ code_of x → q ≡ code_of x → r ≡ q
code_determined x r q = determined

-- Two values that info_value may tell of the same entry are equal.
pub info_value_determined : (t : TerminationTlv) (r q : TerminationTlvValue) → r ≡ value_of t → q ≡ value_of t → r ≡ q
info_value_determined t r q = determined

-- Two types that info_type may tell of the same value are equal.
pub info_type_determined : (x : TerminationTlvValue) (r q : TerminationTlvType) → r ≡ type_of x → q ≡ type_of x → r ≡ q
info_type_determined x r q = determined

-- Two answers of the reader to the same bytes are equal.
pub parse_determined : (s : List ℕ) (a b : ReadTermination) → a ≡ read_termination s → b ≡ read_termination s → a ≡ b
parse_determined s a b = determined
