-- What a user of the Route Mirroring body relies on. Assumes nothing.
use mathlib.Core.Path.{◌≡◌, refl, ap}
use mathlib.Core.List.{List}
use Prim.Native.Nat.{ℕ, ◌≤◌, ◌<◌}
use borrow.Author.Tests.{le-ltb}
use lib.ListN.{length, take}
use Rattle.wire.specs.Parts.{AllAt, end_from}
use Rattle.wire.proofs.Determined.{determined}
use Rattle.wire.proofs.Exactly.{not_too_long}
use Rattle.wire.proofs.Walk.{read_complete, each_at, read_accepted, read_too_many}
use Rattle.wire.proofs.Walk as Walk
use Rattle.wire.specs.Refuses.{Refuses}
use Rattle.wire.specs.Waits.{Waits, MissingTells}
use Rattle.wire.specs.Exactly.{Sound, Complete, Told, Unique}
use Rattle.wire.specs.Number as Number
use Rattle.wire.specs.Refusal.{refusal}
use Rattle.wire.specs.Bytes.{Bytes}
use Rattle.wire.specs.Lacking.{CutAfter}
use Rattle.wire.proofs.Cuts.{cuts_in, body_cut}
use Rattle.route_mirroring.specs.Grammar.{Reading, join, Good, size_of, grammar, places, put, ReadTlv}
use Rattle.route_mirroring.specs.Read.{kit, read_mirroring, reader, answer, widths_in, step}
use Rattle.route_mirroring.specs.declared.RouteMirroringInfo.{RouteMirroringInfo}
use Rattle.route_mirroring.specs.declared.RouteMirroringValue.{RouteMirroringValue}
use Rattle.route_mirroring.specs.declared.RouteMirroringTlv.{RouteMirroringTlv}
use Rattle.route_mirroring.specs.Shown.{info_of, code_of, value_of, ReadMirroring, refused_answer, refusal_of}
use Rattle.route_mirroring.proofs.Laws.{faults, laws, tails}
use Rattle.route_mirroring.proofs.Shows.{shows_of, ViewAt, code_told, view_at}
use Rattle.route_mirroring.proofs.Told as ToldProofs
use Rattle.route_mirroring.proofs.Refusals as Refusals
use Rattle.route_mirroring.proofs.Waits as Waiting
use Rattle.route_mirroring.proofs.Cuts.{cuts}

-- What the reader accepts has a good reading that fits, and it shows that reading.
pub sound : Sound reader
sound s p e =
    let n = not_too_long (λ (a : ReadMirroring). (refusal_of a).number) _ _ (length s) refl e in
    let a = read_accepted kit laws tails (λ (x : ReadMirroring). (refusal_of x).number) answer faults (λ r. refl) 0 s p n.1 in
    (record { tlvs = a.0; tail = a.1 }, shows_of s n.0 a.0 a.1 a.2)

-- Every good reading that fits is accepted, and shown.
pub complete : Complete reader
complete r g f short =
    (shows_of (join r) short r.tlvs r.tail (read_complete kit laws tails 0 (join r) r.tlvs r.tail g.each g.tail_good refl f)).shown_so

-- Every good reading that fits is told by the answer that shows it.
pub told_back : Told reader
told_back = ToldProofs.told_back

-- A refusal shows nothing but itself, and has one of the reader's numbers; each of these is given for some input.
pub refuses : Refuses reader
refuses = Refusals.refuses

-- Who waits for as many bytes as a Cut says are missing waits neither too long nor in vain.
pub waits : Waits reader
waits = Waiting.waits

-- Bytes are missing exactly where the refusal is a Cut.
pub missing_tells : MissingTells reader
missing_tells = Waiting.missing_tells

-- A good reading of more TLVs than the table holds is refused with TooMany, at the first that has no room.
pub too_many : (r : Reading) → Good r → length (join r) ≤ Number.limit → places < length r.tlvs
    → read_mirroring (join r) ≡ refused_answer (refusal Number.TooMany (end_from size_of 0 (take places r.tlvs)))
too_many r g h many =
    rw (le-ltb Number.limit (length (join r)) h)
    (ap answer (read_too_many kit laws tails 0 (join r) r.tlvs r.tail g.each g.tail_good refl many))

-- No input has two readings, whatever the table holds.
pub unique : Unique grammar
unique r q g h e =
    let u = Walk.unique kit laws tails r.tlvs q.tlvs r.tail q.tail g.each g.tail_good h.each h.tail_good e in
    λ i. record { tlvs = u.0 i; tail = u.1 i }

-- In the answer that shows a good reading, the view of each BGP message shows that message's bytes, and each information has its code.
pub views : (r : Reading) → Good r → AllAt size_of (ViewAt (join r)) 0 r.tlvs
views r g = each_at kit laws (ViewAt (join r)) (join r) (view_at (join r)) r.tlvs r.tail 0 g.each refl

-- Each code that the reader accepts is the number of its name.
pub code_number : (n : ℕ) → n ≤ 1 → code_of (info_of n) ≡ n
code_number = code_told

-- A Cut is at the first part that is not whole, behind TLVs that are, with as many missing as it lacks.
pub refuses_cut : (s : List ℕ) → Bytes s → (refusal_of (read_mirroring s)).number ≡ Number.Cut
    → CutAfter put ReadTlv size_of widths_in 0 s (refusal_of (read_mirroring s))
refuses_cut =
    body_cut kit laws widths_in (λ z. cuts_in (widths_in z) (length z) (step z) (cuts z)) reader _ answer (λ s. refl) refl
    (λ n at table z. refl) (λ r. refl)

-- ---- any two answers that the contracts allow are equal
-- Two codes that code may tell of the same information are equal.
pub code_determined : (x : RouteMirroringInfo) (r q : ℕ) → r ≡ code_of x → q ≡ code_of x → r ≡ q
code_determined x r q = determined

-- Two values that value may tell of the same entry are equal.
pub value_determined : (t : RouteMirroringTlv) (r q : RouteMirroringValue) → r ≡ value_of t → q ≡ value_of t → r ≡ q
value_determined t r q = determined

-- Two answers of the reader to the same bytes are equal.
pub parse_determined : (s : List ℕ) (a b : ReadMirroring) → a ≡ read_mirroring s → b ≡ read_mirroring s → a ≡ b
parse_determined s a b = determined
