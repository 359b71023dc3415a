-- What the reader refuses, and with which numbers. Assumes nothing.
use mathlib.Core.Path.{refl}
use mathlib.Core.List.{List, [], ◌∷◌}
use Prim.Native.Nat.{ℕ, ◌-◌}
use lib.Dec.{ltb}
use lib.ListN.{length}
use Rattle.wire.specs.Number as Number
use Rattle.wire.specs.Bytes.{value, has, num_at, none}
use Rattle.wire.specs.Refuses.{Refuses}
use Rattle.wire.proofs.Refuses.{pick_in, Answered, is_good, is_empty, one_of, GivesEach, gives_too_long, refuses_from, bytes_are}
use Rattle.peer_down_notification.specs.Read.{has_data, read_peer_down, numbers, reader}

answered : (s : List ℕ) → Answered reader (read_peer_down s)
answered s =
    let P = Answered reader in
    pick_in P (ltb Number.limit (length s)) (is_empty refl (one_of numbers Number.TooLong refl))
    (pick_in P (has 1 s 0)
    (pick_in P (ltb 6 (num_at 1 s 0)) (is_empty refl (one_of numbers Number.UnknownKind refl))
    (pick_in P (has_data (num_at 1 s 0) (length s - 1)) (is_good refl) (is_good refl)))
    (is_empty refl (one_of numbers Number.Cut refl)))

-- none, and reason 7
given : GivesEach reader numbers
unfolding value
given = (gives_too_long reader _ _ (λ s. refl) refl, (([], none, refl), ((7 ∷ [], bytes_are _ refl, refl), tt)))

pub refuses : Refuses reader
refuses = refuses_from reader answered given
