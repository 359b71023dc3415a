-- How a reading is shown in the answer, and what each answer says.
use Rattle.std.specs.Prelude.{ℕ, ◌+◌, ◌≤◌, ◌<◌, ◌≡◌, ltb, Result, Ok, Err}
use Rattle.wire.specs.Bytes.{pick}
use Rattle.wire.specs.Refusal.{no_refusal}
use Rattle.wire.specs.View.{view, no_view}
use Rattle.wire.specs.declared.Refusal.{Refusal}
use Rattle.wire.specs.declared.View.{View}
use Rattle.common_header.specs.Fields.{fields_of, zero_fields}
use Rattle.common_header.specs.Shown.{type_of, header_from, fields_from}
use Rattle.common_header.specs.declared.CommonFields.{CommonFields}
use Rattle.splitter.specs.Grammar.{Reading, header_of}
use Rattle.splitter.specs.declared.Split.{Split}

-- the first message, or why there is none
abbrev pub SplitAnswer : Type 0
SplitAnswer = Result Split Refusal

-- a whole message: of types 0 to 6 with its common header, of any other skipped, with the header's fields
abbrev pub handed_out : CommonFields → View → SplitAnswer
handed_out f v = pick (ltb 6 f.kind) (Ok (Split.Skipped f v)) (Ok (Split.Message (header_from f) v))

-- the good answer: the message is the first bytes of the stream
abbrev pub shown : Reading → SplitAnswer
shown r = handed_out (fields_of (header_of r)) (view 0 r.length)

-- what each answer says: its refusal, its stop, its message and the fields of its header, all zero where it refuses
abbrev pub refusal_of : SplitAnswer → Refusal
refusal_of (Ok (Split.Message h v)) = no_refusal
refusal_of (Ok (Split.Skipped f v)) = no_refusal
refusal_of (Err r) = r

abbrev pub message_of : SplitAnswer → View
message_of (Ok (Split.Message h v)) = v
message_of (Ok (Split.Skipped f v)) = v
message_of (Err r) = no_view

abbrev pub stop_of : SplitAnswer → ℕ
stop_of a = (message_of a).place + (message_of a).length

abbrev pub fields_in : SplitAnswer → CommonFields
fields_in (Ok (Split.Message h v)) = fields_from h
fields_in (Ok (Split.Skipped f v)) = f
fields_in (Err r) = zero_fields

-- an answer goes by the type k that stands in the header: up to 6 the message has the name of that type, above that it is skipped
abbrev pub ByItsType : ℕ → SplitAnswer → Type 0
ByItsType k (Ok (Split.Message h v)) = (k ≤ 6) × (h.msg_type ≡ type_of k)
ByItsType k (Ok (Split.Skipped f v)) = (6 < k) × (f.kind ≡ k)
ByItsType k (Err r) = Unit {0}
