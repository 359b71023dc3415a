-- What the entries of a table say of its table's name. Assumes nothing.
use mathlib.Core.Path.{◌≡◌, refl, ap}
use mathlib.Core.Bool.{Bool, ◌||◌}
use mathlib.Core.List.{List, [], ◌∷◌, ◌++◌, map}
use Prim.Native.Nat.{ℕ, ◌+◌}
use lib.ListN.{length, take}
use Rattle.std.specs.List.{list_any}
use Rattle.wire.specs.Parts.{shown_from}
use Rattle.wire.specs.Tlv.{Tlv, size_of}
use Rattle.peer_up_notification.specs.Warnings.{Head, head_of, some}
use Rattle.peer_up_notification.specs.Shown.{entry}
use Rattle.peer_up_notification.specs.Read.{head_in, heads_in}
use Rattle.peer_up_notification.specs.declared.PeerUpNotificationTlv.{PeerUpNotificationTlv}

-- ---- the entries that show TLVs say what the TLVs say
pub heads_shown : (at : ℕ) (l : List Tlv) (r : List PeerUpNotificationTlv)
    → heads_in (take (length l) (shown_from size_of entry at l ++ r)) ≡ map head_of l
heads_shown at [] r = refl
heads_shown at (t ∷ l) r = ap (λ (m : List Head). head_of t ∷ m) (heads_shown (at + size_of t) l r)

-- ---- a test of some entry, as `any` makes it
pub some_heads : (test : Head → Bool) (l : List PeerUpNotificationTlv) → list_any (λ t. test (head_in t)) l ≡ some test (heads_in l)
some_heads test [] = refl
some_heads test (t ∷ l) = ap (λ (b : Bool). test (head_in t) || b) (some_heads test l)
