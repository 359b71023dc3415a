-- Which notifications are not writable, by the length of the buffer that the view points into, as a list. It goes by no reader; of a
-- reason counts its number.
use Rattle.std.specs.Prelude.{ℕ, ◌≡◌, [], ◌∷◌, Option, Some, None}
use Rattle.wire.specs.Refuses.{OneOf}
use Rattle.wire.specs.declared.View.{View}
use Rattle.writing.specs.Unwritable.{ViewOutside}
use Rattle.peer_down_notification.specs.Shown.{kind_of}
use Rattle.peer_down_notification.specs.declared.PeerDownNotification.{PeerDownNotification}

-- data that its reason does not give: reason 4 or 5 with data
abbrev pub DataNotGiven : ℕ → Option View → Type 0
DataNotGiven reason (Some v) = OneOf (4 ∷ 5 ∷ []) reason
DataNotGiven reason None = ⊥

-- reason 1, 2, 3 or 6 without data
abbrev pub DataMissing : ℕ → Option View → Type 0
DataMissing reason (Some v) = ⊥
DataMissing reason None = OneOf (1 ∷ 2 ∷ 3 ∷ 6 ∷ []) reason

-- reason 0 with empty data
abbrev pub DataEmpty : ℕ → Option View → Type 0
DataEmpty reason (Some v) = (reason ≡ 0) × (v.length ≡ 0)
DataEmpty reason None = ⊥

abbrev pub DataOutside : Option View → ℕ → Type 0
DataOutside (Some v) room = ViewOutside v.place v.length room
DataOutside None room = ⊥

pub data Unwritable (m : PeerDownNotification) (room : ℕ) : Type 0 where
  data_not_given : DataNotGiven (kind_of m.reason) m.«data» → Unwritable m room
  data_missing : DataMissing (kind_of m.reason) m.«data» → Unwritable m room
  data_empty : DataEmpty (kind_of m.reason) m.«data» → Unwritable m room
  data_outside : DataOutside m.«data» room → Unwritable m room
