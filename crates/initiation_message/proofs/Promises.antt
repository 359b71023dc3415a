-- What a user of the Initiation body relies on. Assumes nothing.
use mathlib.Core.Path.{◌≡◌, refl, ap}
use mathlib.Core.List.{List}
use Prim.Native.Nat.{ℕ, ◌≤◌, ◌<◌}
use borrow.Author.Tests.{le-ltb}
use lib.ListN.{length, drop, take}
use Rattle.wire.specs.Parts.{AllAt, end_from}
use Rattle.wire.specs.Tlv.{size_of, put_tail}
use Rattle.wire.proofs.Determined.{determined}
use Rattle.wire.proofs.Exactly.{not_too_long}
use Rattle.wire.proofs.Tlv.{tlv_viewed, stop_behind}
use Rattle.wire.proofs.Walk.{read_complete, each_at, read_accepted, read_too_many, tail_behind}
use Rattle.wire.proofs.Walk as Walk
use Rattle.wire.proofs.Arms.{number_of_name}
use Rattle.wire.specs.Refuses.{Refuses}
use Rattle.wire.specs.Waits.{Waits, MissingTells}
use Rattle.wire.specs.Exactly.{Sound, Complete, Told, Unique}
use Rattle.wire.specs.Number as Number
use Rattle.wire.specs.Refusal.{refusal}
use Rattle.wire.specs.TlvAt.{unread}
use Rattle.wire.specs.declared.View.{View}
use Rattle.initiation_message.specs.Grammar.{Reading, join, Good, grammar, places}
use Rattle.initiation_message.specs.Read.{kit, read_initiation, reader, answer}
use Rattle.initiation_message.specs.declared.InitiationTlv.{InitiationTlv}
use Rattle.initiation_message.specs.declared.InitiationTlvType.{InitiationTlvType}
use Rattle.initiation_message.specs.declared.InitiationTlvType.TheVariants.{Unknown}
use Rattle.initiation_message.specs.Shown.{ReadInitiation, refused_answer, refusal_of, stop_of, shown, names, type_of, kind_of, info_of}
use Rattle.initiation_message.proofs.Laws.{faults, laws, tails}
use Rattle.initiation_message.proofs.Shows.{shows_of, ViewAt}
use Rattle.initiation_message.proofs.Told as ToldProofs
use Rattle.initiation_message.proofs.Refusals as Refusals
use Rattle.initiation_message.proofs.Waits as Waiting

-- What the reader accepts has a good reading that fits, and it shows that reading.
pub sound : Sound reader
sound s p e =
    let n = not_too_long (λ (a : ReadInitiation). (refusal_of a).number) _ _ (length s) refl e in
    let a = read_accepted kit laws tails (λ (x : ReadInitiation). (refusal_of x).number) answer faults (λ r. refl) 0 s p n.1 in
    (record { tlvs = a.0; tail = a.1 }, shows_of s n.0 a.0 a.1 a.2)

-- Every good reading that fits is accepted, and shown.
pub complete : Complete reader
complete r g f short =
    (shows_of (join r) short r.tlvs r.tail (read_complete kit laws tails 0 (join r) r.tlvs r.tail g.each g.tail_good refl f)).shown_so

-- Every good reading that fits is told by the answer that shows it, and the tail.
pub told_back : Told reader
told_back = ToldProofs.told_back

-- A refusal shows nothing but itself, and has one of the reader's numbers; each of these is given for some input.
pub refuses : Refuses reader
refuses = Refusals.refuses

-- Who waits for as many bytes as a Cut says are missing waits neither too long nor in vain.
pub waits : Waits reader
waits = Waiting.waits

-- Bytes are missing exactly where the refusal is a Cut.
pub missing_tells : MissingTells reader
missing_tells = Waiting.missing_tells

-- A good reading of more TLVs than the table holds is refused with TooMany, at the first that has no room.
pub too_many : (r : Reading) → Good r → length (join r) ≤ Number.limit → places < length r.tlvs
    → read_initiation (join r) ≡ refused_answer (refusal Number.TooMany (end_from size_of 0 (take places r.tlvs)))
too_many r g h many =
    rw (le-ltb Number.limit (length (join r)) h)
    (ap answer (read_too_many kit laws tails 0 (join r) r.tlvs r.tail g.each g.tail_good refl many))

-- What follows the stop is the tail, or what is there of the value of an oversized TLV.
pub stop_told : (r : Reading) → Good r → drop (stop_of (shown r)) (join r) ≡ unread r.tail
stop_told r g = stop_behind (join r) _ r.tail (tail_behind kit laws (join r) r.tlvs (put_tail r.tail) 0 g.each refl)

-- No input has two readings, whatever the table holds.
pub unique : Unique grammar
unique r q g h e =
    let u = Walk.unique kit laws tails r.tlvs q.tlvs r.tail q.tail g.each g.tail_good h.each h.tail_good e in
    λ i. record { tlvs = u.0 i; tail = u.1 i }

-- The view of each TLV, in the answer that shows a good reading, shows that TLV's value.
pub views : (r : Reading) → Good r → AllAt size_of (ViewAt (join r)) 0 r.tlvs
views r g =
    each_at kit laws (ViewAt (join r)) (join r) (λ at t z h e. tlv_viewed t z h.well_formed (join r) at e)
    r.tlvs (put_tail r.tail) 0 g.each refl

-- Name and number stand for each other.
pub type_number : (n : ℕ) → kind_of (type_of n) ≡ n
unfolding type_of kind_of
type_number n = number_of_name kind_of n (Unknown n) names refl (λ h. refl)

-- ---- any two answers that the contracts allow are equal
-- Two numbers that number may tell of the same name are equal.
pub number_determined : (x : InitiationTlvType) (r q : ℕ) → r ≡ kind_of x → q ≡ kind_of x → r ≡ q
number_determined x r q = determined

-- Two names that info_type may tell of the same entry are equal.
pub info_type_determined : (t : InitiationTlv) (r q : InitiationTlvType) → r ≡ type_of t.kind → q ≡ type_of t.kind → r ≡ q
info_type_determined t r q = determined

-- Two views that info may tell of the same entry are equal.
pub info_determined : (t : InitiationTlv) (r q : View) → r ≡ info_of t → q ≡ info_of t → r ≡ q
info_determined t r q = determined

-- Two answers of the reader to the same bytes are equal.
pub parse_determined : (s : List ℕ) (a b : ReadInitiation) → a ≡ read_initiation s → b ≡ read_initiation s → a ≡ b
parse_determined s a b = determined
