-- The three fields of a header of any type: what their reader answers, for every input.
use Rattle.std.specs.Prelude.{ℕ, List, [], ◌∷◌, length, drop, ltb, eqb, Result, Ok, Err}
use Rattle.wire.specs.Number as Number
use Rattle.wire.specs.Bytes.{pick, has, num_at}
use Rattle.wire.specs.Refusal.{refusal, no_refusal, cut_at}
use Rattle.wire.specs.Exactly.{Nothing, Reader}
use Rattle.wire.specs.declared.Refusal.{Refusal}
use Rattle.wire.specs.declared.View.{View}
use Rattle.common_header.specs.Grammar.{Reading, any_type}
use Rattle.common_header.specs.declared.CommonFields.{CommonFields}

-- an input taken apart, where it is long enough
abbrev pub parts_of : List ℕ → Reading
parts_of s = record { version = num_at 1 s 0; length = num_at 4 s 1; kind = num_at 1 s 5; tail = drop 6 s }

abbrev pub fields_of : Reading → CommonFields
fields_of r = record { version = r.version; msg_len = r.length; kind = r.kind }

-- the fields, or why they are refused
abbrev pub CommonFieldsAnswer : Type 0
CommonFieldsAnswer = Result CommonFields Refusal

-- the good answer
abbrev pub shown : Reading → CommonFieldsAnswer
shown r = Ok (fields_of r)

-- the version is judged before the rest is read
unfoldable pub read_fields : List ℕ → CommonFieldsAnswer
read_fields s =
    pick (has 1 s 0)
    (pick (eqb (num_at 1 s 0) 3)
    (pick (has 4 s 1)
    (pick (has 1 s 5) (shown (parts_of s))
    (Err (cut_at (length s) 5 1)))
    (Err (cut_at (length s) 1 4)))
    (Err (refusal Number.BadVersion 0)))
    (Err (cut_at (length s) 0 1))

abbrev pub read_common_fields : List ℕ → CommonFieldsAnswer
read_common_fields s = pick (ltb Number.limit (length s)) (Err (refusal Number.TooLong 0)) (read_fields s)

-- what each answer says: its refusal, its stop and its fields, all zero where it refuses
abbrev pub refusal_of : CommonFieldsAnswer → Refusal
refusal_of (Ok f) = no_refusal
refusal_of (Err r) = r

abbrev pub stop_of : CommonFieldsAnswer → ℕ
stop_of (Ok f) = 6
stop_of (Err r) = 0

abbrev pub zero_fields : CommonFields
zero_fields = record { version = 0; msg_len = 0; kind = 0 }

abbrev pub fields_in : CommonFieldsAnswer → CommonFields
fields_in (Ok f) = f
fields_in (Err r) = zero_fields

-- the reading that fields and a tail tell
abbrev pub reading_from : CommonFields → List ℕ → Reading
reading_from f tail = record { version = f.version; length = f.msg_len; kind = f.kind; tail = tail }

abbrev pub told : (View → List ℕ) → CommonFieldsAnswer → Nothing → List ℕ → Reading
told look a x tail = reading_from (fields_in a) tail

-- the numbers that it refuses with
abbrev pub numbers : List ℕ
numbers = Number.TooLong ∷ Number.Cut ∷ Number.BadVersion ∷ []

-- the reader, and the grammar that it is held against
abbrev pub reader : Reader
reader =
    record {
      grammar = any_type;
      Answer = CommonFieldsAnswer;
      read = read_common_fields;
      shown = shown;
      tail_at = stop_of;
      told = told;
      refused = Err;
      refusal_of = refusal_of;
      numbers = numbers;
    }
