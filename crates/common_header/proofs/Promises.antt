-- What a user of the common header relies on, and of its fields, whose type may be any number. There is no table, so every good reading fits.
-- Assumes nothing.
use mathlib.Core.Path.{◌≡◌, refl, sym, ap, ◌∙◌, subst}
use mathlib.Core.List.{List}
use Prim.Native.Nat.{ℕ, ◌≤◌}
use native.Mathlib.Omega.{arith}
use Rattle.std.specs.declared.result.Result.{Result}
use Rattle.wire.specs.Number as Number
use Rattle.wire.specs.Bytes.{be}
use Rattle.wire.specs.declared.Refusal.{Refusal}
use Rattle.wire.proofs.Bytes.{num_lt, bytes_drop}
use Rattle.wire.proofs.Arms.{number_of_name}
use Rattle.wire.proofs.Determined.{determined}
use Rattle.wire.specs.Refuses.{Refuses}
use Rattle.wire.specs.Waits.{Waits, MissingTells}
use Rattle.wire.specs.Exactly.{Sound, Complete, Told, Unique}
use Rattle.common_header.specs.Grammar.{Reading, join, any_type, grammar}
use Rattle.common_header.specs.Fields as Fields
use Rattle.common_header.specs.Fields.{CommonFieldsAnswer, parts_of, fields_of, read_common_fields}
use Rattle.common_header.specs.Shown.{CommonHeaderAnswer, names, type_of, type_named, kind_of, refusal_of}
use Rattle.common_header.specs.Read.{judged, after_fields, read_common_header, reader}
use Rattle.common_header.specs.declared.BmpMsgType.{BmpMsgType}
use Rattle.common_header.specs.declared.BmpMsgType.TheVariants.{RouteMonitoring, StatisticsReport, PeerDownNotification, PeerUpNotification, InitiationMessage, TerminationMessage, RouteMirroringMessage}
use Rattle.common_header.specs.declared.CommonFields.{CommonFields}
use Rattle.common_header.proofs.Laws.{length_join, parts_join, join_parts, Accepted, accepted, shows_parts, known_judged, judged_known, fields_accepted}
use Rattle.common_header.proofs.Refusals as Refusals
use Rattle.common_header.proofs.Waits as Waiting

-- ---- the fields
-- What their reader accepts has a good reading, of whatever type, which it shows.
pub fields_sound : Sound Fields.reader
fields_sound s p e =
    let a = accepted s e in (
      parts_of s,
      record {
        reading =
            record {
              is_good = record { version_is = a.three; length_fits = num_lt 4 1 p; kind_fits = num_lt 1 5 p; tail_bytes = bytes_drop 6 p };
              fits = tt;
              joined = join_parts p a.long;
            };
        shown_so = shows_parts s a;
      },
    )

-- Every good reading is accepted, and shown.
pub fields_complete : Complete Fields.reader
fields_complete r g f short =
    let e = parts_join r g in
    let a : Accepted (join r) =
    record { short = short; long = omega (arith, length_join r); three = ap (λ (q : Reading). q.version) e ∙ g.version_is } in
    shows_parts (join r) a ∙ ap Fields.shown e

-- Every good reading is told by the answer that shows it.
pub fields_told_back : Told Fields.reader
unfolding be
fields_told_back r g f = record { told_so = refl; tail_so = refl; tail_within = omega (arith, length_join r) }

-- No input has two readings.
pub fields_unique : Unique any_type
fields_unique r q g h e = sym (parts_join r g) ∙ ap parts_of e ∙ parts_join q h

-- A refusal shows nothing but itself, and has one of the reader's numbers; each of these is given for some input.
pub fields_refuses : Refuses Fields.reader
fields_refuses = Refusals.fields_refuses

-- Who waits for as many bytes as a Cut says are missing waits neither too long nor in vain.
pub fields_waits : Waits Fields.reader
fields_waits = Waiting.fields_waits

-- Bytes are missing exactly where the refusal is a Cut.
pub fields_missing_tells : MissingTells Fields.reader
fields_missing_tells = Waiting.fields_missing_tells

-- ---- the header
-- What the reader accepts has a good reading, which it shows.
pub sound : Sound reader
sound s p e =
    let x = fields_sound s p (fields_accepted (read_common_fields s) e) in
    let r = x.0 in
    let known : r.kind ≤ 6 =
    judged_known (fields_of r) (subst (λ (a : CommonFieldsAnswer). (refusal_of (after_fields a)).number ≡ Number.Good) x.1.shown_so e) in (
      r,
      record {
        reading = record { is_good = record { any-type = x.1.reading.is_good; kind_known = known }; fits = tt; joined = x.1.reading.joined };
        shown_so = ap after_fields x.1.shown_so ∙ known_judged (fields_of r) known;
      },
    )

-- Every good reading is accepted, and shown.
pub complete : Complete reader
complete r g f short = ap after_fields (fields_complete r g.any-type f short) ∙ known_judged (fields_of r) g.kind_known

-- A type that is known is told by its name.
pub kind_told : (n : ℕ) → n ≤ 6 → kind_of (type_of n) ≡ n
unfolding type_of kind_of
kind_told n h = number_of_name kind_of n RouteMirroringMessage names refl (λ k. omega arith)

-- Every good reading is told by the answer that shows it.
pub told_back : Told reader
unfolding be
told_back r g f =
    let kind_is = kind_told r.kind g.kind_known in
    record {
      told_so = λ i. record { version = r.version; length = r.length; kind = kind_is i; tail = r.tail };
      tail_so = refl;
      tail_within = omega (arith, length_join r);
    }

-- A refusal shows nothing but itself, and has one of the reader's numbers; each of these is given for some input.
pub refuses : Refuses reader
refuses = Refusals.refuses

-- Who waits for as many bytes as a Cut says are missing waits neither too long nor in vain.
pub waits : Waits reader
waits = Waiting.waits

-- Bytes are missing exactly where the refusal is a Cut.
pub missing_tells : MissingTells reader
missing_tells = Waiting.missing_tells

-- No input has two readings.
pub unique : Unique grammar
unique r q g h e = fields_unique r q g.any-type h.any-type e

-- ---- a type and its number
pub named : (t : BmpMsgType) → (type_of (kind_of t) ≡ t) × (kind_of t ≤ 6)
unfolding type_of kind_of
named RouteMonitoring = (refl, omega arith)
named StatisticsReport = (refl, omega arith)
named PeerDownNotification = (refl, omega arith)
named PeerUpNotification = (refl, omega arith)
named InitiationMessage = (refl, omega arith)
named TerminationMessage = (refl, omega arith)
named RouteMirroringMessage = (refl, omega arith)

-- A type's number is one of the seven.
pub kind_known : (t : BmpMsgType) → kind_of t ≤ 6
kind_known t = (named t).1

-- ---- any two answers that the contracts allow are equal
pub fields_determined : (s : List ℕ) (a b : CommonFieldsAnswer) → a ≡ read_common_fields s → b ≡ read_common_fields s → a ≡ b
fields_determined s a b = determined

pub header_determined : (f : CommonFields) (a b : CommonHeaderAnswer) → a ≡ judged f → b ≡ judged f → a ≡ b
header_determined f a b = determined

pub parse_determined : (s : List ℕ) (a b : CommonHeaderAnswer) → a ≡ read_common_header s → b ≡ read_common_header s → a ≡ b
parse_determined s a b = determined

pub type_determined : (n : ℕ) (a b : Result BmpMsgType Refusal) → a ≡ type_named n → b ≡ type_named n → a ≡ b
type_determined n a b = determined

pub kind_of_determined : (t : BmpMsgType) (n k : ℕ) → n ≡ kind_of t → k ≡ kind_of t → n ≡ k
kind_of_determined t n k = determined
