-- The tests of `writable` are those of the list. Assumes nothing.
use mathlib.Core.Path.{◌≡◌, refl}
use mathlib.Core.List.{[], ◌∷◌}
use mathlib.Core.Logic.{◌⊎◌, inl, inr}
use Prim.Native.Nat.{ℕ, ◌≤◌}
use native.Mathlib.Omega.{arith}
use borrow.Author.Tests.{le-leb}
use Rattle.std.specs.declared.option.Option.{Option}
use Rattle.std.specs.declared.option.Option.TheVariants.{Some, None}
use Rattle.wire.specs.Refuses.{OneOf}
use Rattle.wire.specs.View.{no_view}
use Rattle.wire.specs.declared.View.{View}
use Rattle.writing.specs.Unwritable.{ViewOutside}
use Rattle.writing.proofs.Unwritable.{FalseWhere, restated, not_below, outside, never, either_picked, refused_number, by_equal}
use Rattle.peer_down_notification.specs.Shown.{kind_of, is_present, view_of}
use Rattle.peer_down_notification.specs.Read.{has_data}
use Rattle.peer_down_notification_writer.specs.Write.{parts_writable, writable}
use Rattle.peer_down_notification_writer.specs.Unwritable.{DataNotGiven, DataMissing, DataEmpty, DataOutside, Unwritable, data_not_given, data_missing, data_empty, data_outside}
use Rattle.peer_down_notification.specs.declared.PeerDownReason.{PeerDownReason}
use Rattle.peer_down_notification.specs.declared.PeerDownReason.TheVariants.{Reserved, LocalSystemClosedNotificationPduFollows, LocalSystemClosedFsmEvenFollows, RemoteSystemClosedNotificationPduFollows, RemoteSystemsClosedNoData, PeerDeConfigured, LocalSystemClosedTlvDataFollows}
use Rattle.peer_down_notification.specs.declared.PeerDownNotification.{PeerDownNotification}

abbrev Items : ℕ → Option View → ℕ → Type 0
Items k d room = DataNotGiven k d ⊎ (DataMissing k d ⊎ (DataEmpty k d ⊎ DataOutside d room))

-- ---- with data
given : (k n : ℕ) → FalseWhere (has_data k n) (OneOf (4 ∷ 5 ∷ []) k ⊎ ((k ≡ 0) × (n ≡ 0)))
unfolding has_data
given k n = restated forth back (by_equal k 0 (not_below 0 n) (refused_number k 4 (refused_number k 5 (never refl))))
  where
    forth : ((k ≡ 0) × (n ≤ 0)) ⊎ ((k ≡ 0 → ⊥) × OneOf (4 ∷ 5 ∷ []) k) → OneOf (4 ∷ 5 ∷ []) k ⊎ ((k ≡ 0) × (n ≡ 0))
    forth (inl x) = inr (x.0, omega (arith, x.1))
    forth (inr x) = inl x.1

    back : OneOf (4 ∷ 5 ∷ []) k ⊎ ((k ≡ 0) × (n ≡ 0)) → ((k ≡ 0) × (n ≤ 0)) ⊎ ((k ≡ 0 → ⊥) × OneOf (4 ∷ 5 ∷ []) k)
    back (inl (inl e)) = inr ((λ z. absurd (omega arith)), inl e)
    back (inl (inr (inl e))) = inr ((λ z. absurd (omega arith)), inr (inl e))
    back (inl (inr (inr e))) = absurd e
    back (inr x) = inl (x.0, omega (arith, x.1))

with_data : (k : ℕ) (v : View) (room : ℕ) → FalseWhere (parts_writable k (is_present (Some v)) v room) (Items k (Some v) room)
unfolding parts_writable
with_data k v room = restated forth back (either_picked (given k v.length) (outside room v))
  where
    forth : (OneOf (4 ∷ 5 ∷ []) k ⊎ ((k ≡ 0) × (v.length ≡ 0))) ⊎ ViewOutside v.place v.length room → Items k (Some v) room
    forth (inl (inl x)) = inl x
    forth (inl (inr x)) = inr (inr (inl x))
    forth (inr x) = inr (inr (inr x))

    back : Items k (Some v) room → (OneOf (4 ∷ 5 ∷ []) k ⊎ ((k ≡ 0) × (v.length ≡ 0))) ⊎ ViewOutside v.place v.length room
    back (inl x) = inl (inl x)
    back (inr (inl x)) = absurd x
    back (inr (inr (inl x))) = inl (inr x)
    back (inr (inr (inr x))) = inr x

-- ---- without data: there is nothing to show, and the empty view lies inside every buffer
missing : {reason : ℕ} → OneOf (1 ∷ 2 ∷ 3 ∷ 6 ∷ []) reason → (reason ≡ 0 → ⊥) × ((reason ≡ 4 → ⊥) × (reason ≡ 5 → ⊥))
missing (inl e) = (λ z. absurd (omega arith), (λ z. absurd (omega arith), λ z. absurd (omega arith)))
missing (inr (inl e)) = (λ z. absurd (omega arith), (λ z. absurd (omega arith), λ z. absurd (omega arith)))
missing (inr (inr (inl e))) = (λ z. absurd (omega arith), (λ z. absurd (omega arith), λ z. absurd (omega arith)))
missing (inr (inr (inr (inl e)))) = (λ z. absurd (omega arith), (λ z. absurd (omega arith), λ z. absurd (omega arith)))
missing (inr (inr (inr (inr e)))) = absurd e

nothing_wrong : (reason room : ℕ) → (OneOf (1 ∷ 2 ∷ 3 ∷ 6 ∷ []) reason → ⊥) → Items reason None room → ⊥
nothing_wrong reason room not-missing (inl x) = x
nothing_wrong reason room not-missing (inr (inl x)) = not-missing x
nothing_wrong reason room not-missing (inr (inr (inl x))) = x
nothing_wrong reason room not-missing (inr (inr (inr x))) = x

without_data : (reason : PeerDownReason) (room : ℕ) → FalseWhere (parts_writable (kind_of reason) (is_present None) no_view room) (Items (kind_of reason) None room)
unfolding parts_writable kind_of has_data
without_data Reserved room = restated (λ x. absurd x) (nothing_wrong 0 room (λ x. (missing x).0 refl)) (never (le-leb 0 room (omega arith)))
without_data LocalSystemClosedNotificationPduFollows room = (λ e. inr (inl (inl refl)), λ x. refl)
without_data LocalSystemClosedFsmEvenFollows room = (λ e. inr (inl (inr (inl refl))), λ x. refl)
without_data RemoteSystemClosedNotificationPduFollows room = (λ e. inr (inl (inr (inr (inl refl)))), λ x. refl)
without_data RemoteSystemsClosedNoData room =
    restated (λ x. absurd x) (nothing_wrong 4 room (λ x. (missing x).1.0 refl)) (never (le-leb 0 room (omega arith)))
without_data PeerDeConfigured room =
    restated (λ x. absurd x) (nothing_wrong 5 room (λ x. (missing x).1.1 refl)) (never (le-leb 0 room (omega arith)))
without_data LocalSystemClosedTlvDataFollows room = (λ e. inr (inl (inr (inr (inr (inl refl))))), λ x. refl)

tested : (reason : PeerDownReason) (d : Option View) (room : ℕ)
    → FalseWhere (parts_writable (kind_of reason) (is_present d) (view_of d) room) (Items (kind_of reason) d room)
tested reason (Some v) room = with_data (kind_of reason) v room
tested reason None room = without_data reason room

pub listed : (m : PeerDownNotification) (room : ℕ) → FalseWhere (writable m room) (Unwritable m room)
listed m room = restated forth back (tested m.reason m.«data» room)
  where
    forth : Items (kind_of m.reason) m.«data» room → Unwritable m room
    forth (inl x) = data_not_given x
    forth (inr (inl x)) = data_missing x
    forth (inr (inr (inl x))) = data_empty x
    forth (inr (inr (inr x))) = data_outside x

    back : Unwritable m room → Items (kind_of m.reason) m.«data» room
    back (data_not_given x) = inl x
    back (data_missing x) = inr (inl x)
    back (data_empty x) = inr (inr (inl x))
    back (data_outside x) = inr (inr (inr x))
