-- How a reading is shown in the answer, and what each answer says.
use Rattle.std.specs.Prelude.{ℕ, ◌+◌, Bool, true, false, List, [], ◌∷◌, length, get_or, Option, Some, None, Result, Ok, Err}
use Rattle.wire.specs.Refusal.{no_refusal}
use Rattle.wire.specs.View.{view, no_view, viewed}
use Rattle.wire.specs.declared.Refusal.{Refusal}
use Rattle.wire.specs.declared.View.{View}
use Rattle.peer_down_notification.specs.Grammar.{Data, absent, present, Reading}
use Rattle.peer_down_notification.specs.declared.PeerDownReason.{PeerDownReason}
use Rattle.peer_down_notification.specs.declared.PeerDownReason.TheVariants.{Reserved, LocalSystemClosedNotificationPduFollows, LocalSystemClosedFsmEvenFollows, RemoteSystemClosedNotificationPduFollows, RemoteSystemsClosedNoData, PeerDeConfigured, LocalSystemClosedTlvDataFollows}
use Rattle.peer_down_notification.specs.declared.PeerDownNotification.{PeerDownNotification}

-- the reasons 0 to 5 by their numbers; 6 is the last, and what is above it is refused before it is named
abbrev pub names : List PeerDownReason
names =
    Reserved ∷ LocalSystemClosedNotificationPduFollows ∷ LocalSystemClosedFsmEvenFollows ∷ RemoteSystemClosedNotificationPduFollows
    ∷ RemoteSystemsClosedNoData ∷ PeerDeConfigured ∷ []

unfoldable pub reason_of : ℕ → PeerDownReason
reason_of n = get_or names n LocalSystemClosedTlvDataFollows

unfoldable pub kind_of : PeerDownReason → ℕ
kind_of Reserved = 0
kind_of LocalSystemClosedNotificationPduFollows = 1
kind_of LocalSystemClosedFsmEvenFollows = 2
kind_of RemoteSystemClosedNotificationPduFollows = 3
kind_of RemoteSystemsClosedNoData = 4
kind_of PeerDeConfigured = 5
kind_of LocalSystemClosedTlvDataFollows = 6

-- the data stands right after the reason
abbrev pub shown_data : Data → Option View
shown_data absent = None
shown_data (present b) = Some (view 1 (length b))

abbrev pub stop_after : Data → ℕ
stop_after absent = 1
stop_after (present b) = 1 + length b

-- what the reader answers: the notification and its end as the stop, or why there is none
abbrev pub PeerDownAnswer : Type 0
PeerDownAnswer = Result (PeerDownNotification × ℕ) Refusal

-- the good answer
abbrev pub shown : Reading → PeerDownAnswer
shown r = Ok (record { reason = reason_of r.reason; «data» = shown_data r.data_part }, stop_after r.data_part)

-- what each answer says: its refusal, its stop and its notification, all zero where it refuses
abbrev pub refusal_of : PeerDownAnswer → Refusal
refusal_of (Ok x) = no_refusal
refusal_of (Err r) = r

abbrev pub stop_of : PeerDownAnswer → ℕ
stop_of (Ok x) = x.1
stop_of (Err r) = 0

abbrev pub zero_notification : PeerDownNotification
zero_notification = record { reason = Reserved; «data» = None }

abbrev pub notification_of : PeerDownAnswer → PeerDownNotification
notification_of (Ok x) = x.0
notification_of (Err r) = zero_notification

-- what data says: whether it is there, and the view of it, the empty one where there is none
abbrev pub is_present : Option View → Bool
is_present None = false
is_present (Some v) = true

abbrev pub view_of : Option View → View
view_of None = no_view
view_of (Some v) = v

-- the data that is told, by the bytes that its view shows
abbrev pub told_data : (View → List ℕ) → Option View → Data
told_data look None = absent
told_data look (Some v) = present (look v)

-- the data that a view shows of a buffer
abbrev pub data_of : List ℕ → Option View → Data
data_of b d = told_data (viewed b) d
