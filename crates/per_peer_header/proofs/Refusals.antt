-- What the reader refuses, and with which numbers. Assumes nothing.
use mathlib.Core.Path.{refl}
use mathlib.Core.List.{List, [], ◌∷◌}
use Prim.Native.Nat.{ℕ}
use native.Mathlib.Omega.{arith}
use borrow.Author.Tests.{ltb-true}
use lib.Dec.{ltb}
use lib.ListN.{length}
use Rattle.wire.specs.Number as Number
use Rattle.wire.specs.Bytes.{value, number_at, none}
use Rattle.wire.specs.Refuses.{Refuses}
use Rattle.wire.proofs.Refuses.{pick_in, Answered, is_good, is_empty, one_of, GivesEach, gives_too_long, refuses_from, bytes_are}
use Rattle.wire.proofs.Cuts.{pick_by}
use Rattle.layout.proofs.Cuts.{cut_one_of}
use Rattle.per_peer_header.specs.Grammar.{widths}
use Rattle.per_peer_header.specs.Read.{read_per_peer_header, numbers, reader}

answered : (s : List ℕ) → Answered reader (read_per_peer_header s)
answered s =
    let P = Answered reader in
    pick_in P (ltb Number.limit (length s)) (is_empty refl (one_of numbers Number.TooLong refl))
    (pick_in P (ltb 3 (number_at 1 s 0)) (is_empty refl (one_of numbers Number.UnknownKind refl))
    (pick_by P (ltb (length s) 42)
    (λ h. is_empty refl (cut_one_of numbers (one_of numbers Number.Cut refl) widths 0 (length s) (omega arith) (ltb-true (length s) 42 h)))
    (λ h. is_good refl)))

-- none, and type 4
given : GivesEach reader numbers
unfolding value
given = (gives_too_long reader _ _ (λ s. refl) refl, (([], none, refl), ((4 ∷ [], bytes_are _ refl, refl), tt)))

pub refuses : Refuses reader
refuses = refuses_from reader answered given
