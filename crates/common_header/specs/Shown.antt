-- How a reading is shown in the answer, and what each answer says.
use Rattle.std.specs.Prelude.{ℕ, List, [], ◌∷◌, get_or, ltb, Result, Ok, Err}
use Rattle.wire.specs.Number as Number
use Rattle.wire.specs.Bytes.{pick}
use Rattle.wire.specs.Refusal.{refusal, no_refusal}
use Rattle.wire.specs.declared.Refusal.{Refusal}
use Rattle.common_header.specs.Grammar.{Reading}
use Rattle.common_header.specs.Fields.{fields_of}
use Rattle.common_header.specs.declared.CommonFields.{CommonFields}
use Rattle.common_header.specs.declared.BmpMsgType.{BmpMsgType}
use Rattle.common_header.specs.declared.BmpMsgType.TheVariants.{RouteMonitoring, StatisticsReport, PeerDownNotification, PeerUpNotification, InitiationMessage, TerminationMessage, RouteMirroringMessage}
use Rattle.common_header.specs.declared.BmpCommonHeader.{BmpCommonHeader}

-- the types 0 to 5 by their numbers; 6 is the last, and what is above it is never named
abbrev pub names : List BmpMsgType
names =
    RouteMonitoring ∷ StatisticsReport ∷ PeerDownNotification ∷ PeerUpNotification ∷ InitiationMessage ∷ TerminationMessage ∷ []

unfoldable pub type_of : ℕ → BmpMsgType
type_of n = get_or names n RouteMirroringMessage

-- the type with a number, where there is one
abbrev pub type_named : ℕ → Result BmpMsgType Refusal
type_named n = pick (ltb 6 n) (Err (refusal Number.UnknownKind 5)) (Ok (type_of n))

unfoldable pub kind_of : BmpMsgType → ℕ
kind_of RouteMonitoring = 0
kind_of StatisticsReport = 1
kind_of PeerDownNotification = 2
kind_of PeerUpNotification = 3
kind_of InitiationMessage = 4
kind_of TerminationMessage = 5
kind_of RouteMirroringMessage = 6

-- fields with the name of their type, and back
abbrev pub header_from : CommonFields → BmpCommonHeader
header_from f = record { version = f.version; msg_len = f.msg_len; msg_type = type_of f.kind }

abbrev pub fields_from : BmpCommonHeader → CommonFields
fields_from h = record { version = h.version; msg_len = h.msg_len; kind = kind_of h.msg_type }

-- the header and the place after it, or why there is none
abbrev pub CommonHeaderAnswer : Type 0
CommonHeaderAnswer = Result (BmpCommonHeader × ℕ) Refusal

-- the good answer: the header, and its end as the stop
abbrev pub good_answer : CommonFields → CommonHeaderAnswer
good_answer f = Ok (header_from f, 6)

abbrev pub shown : Reading → CommonHeaderAnswer
shown r = good_answer (fields_of r)

-- what each answer says: its refusal, its stop and its header, all zero where it refuses
abbrev pub refusal_of : CommonHeaderAnswer → Refusal
refusal_of (Ok x) = no_refusal
refusal_of (Err r) = r

abbrev pub stop_of : CommonHeaderAnswer → ℕ
stop_of (Ok x) = x.1
stop_of (Err r) = 0

abbrev pub zero_header : BmpCommonHeader
zero_header = record { version = 0; msg_len = 0; msg_type = RouteMonitoring }

abbrev pub header_of : CommonHeaderAnswer → BmpCommonHeader
header_of (Ok x) = x.0
header_of (Err r) = zero_header
