-- What the reader refuses, and with which numbers. Assumes nothing.
use mathlib.Core.Path.{◌≡◌, refl}
use mathlib.Core.Bool.{true, ◌&&◌}
use mathlib.Core.List.{List, [], ◌∷◌}
use Prim.Native.Nat.{ℕ, ◌+◌, ◌≤◌}
use native.Mathlib.Omega.{arith}
use borrow.Author.Tests.{ltb-true}
use lib.Dec.{ltb, eqb}
use lib.ListN.{length}
use Rattle.wire.specs.Number as Number
use Rattle.wire.specs.Bytes.{value, number_at, none, flag}
use Rattle.wire.specs.Refuses.{Refuses}
use Rattle.wire.proofs.Cuts.{pick_by}
use Rattle.wire.proofs.Refuses.{pick_in, Answered, is_good, is_empty, one_of, GivesEach, gives_too_long, refuses_from, bytes_are}
use Rattle.layout.proofs.Cuts.{cut_one_of}
use Rattle.openbmp.specs.Grammar.{widths}
use Rattle.openbmp.specs.Read.{cut, after_row_count, after_group_length, after_admin_length, after_type, after_flags, after_versions, after_magic, read_open_bmp_header, numbers, reader}

-- a header that is short of a stage's end
cut_answered : (s : List ℕ) (a g end : ℕ) → end ≤ 78 + a + g → ltb (length s) end ≡ true → Answered reader (cut (length s) a g)
cut_answered s a g end h t =
    let few = ltb-true (length s) end t in
    is_empty refl (cut_one_of numbers (one_of numbers Number.Cut refl) (widths a g) 0 (length s) (omega arith) (omega arith))

answered : (s : List ℕ) → Answered reader (read_open_bmp_header s)
unfolding after_row_count after_group_length after_admin_length after_type after_flags after_versions after_magic
answered s =
    let P = Answered reader in
    let bad = one_of numbers Number.BadOpenBmp refl in
    let unsupported = one_of numbers Number.Unsupported refl in
    let a = number_at 2 s 38 in
    let g = number_at 2 s (72 + a) in
    pick_in P (ltb Number.limit (length s)) (is_empty refl (one_of numbers Number.TooLong refl))
    (pick_by P (ltb (length s) 4) (cut_answered s 0 0 4 (omega arith)) (λ h.
    pick_in P (eqb (number_at 4 s 0) 0x4F424D50)
    (pick_by P (ltb (length s) 6) (cut_answered s 0 0 6 (omega arith)) (λ h.
    pick_in P (eqb (number_at 1 s 4) 1 && eqb (number_at 1 s 5) 7)
    (pick_by P (ltb (length s) 13) (cut_answered s 0 0 13 (omega arith)) (λ h.
    pick_in P (flag 0x80 (number_at 1 s 12))
    (pick_by P (ltb (length s) 14) (cut_answered s 0 0 14 (omega arith)) (λ h.
    pick_in P (eqb (number_at 1 s 13) 12)
    (pick_by P (ltb (length s) 40) (cut_answered s 0 0 40 (omega arith)) (λ h.
    pick_by P (ltb (length s) (74 + a)) (cut_answered s a 0 (74 + a) (omega arith)) (λ h.
    pick_by P (ltb (length s) (78 + a + g)) (cut_answered s a g (78 + a + g) (omega arith)) (λ h.
    pick_in P (eqb (number_at 4 s (74 + a + g)) 1) (is_good refl) (is_empty refl bad)))))
    (is_empty refl unsupported)))
    (is_empty refl unsupported)))
    (is_empty refl bad)))
    (is_empty refl bad)))

-- none, another magic number, and flags of 0
given : GivesEach reader numbers
unfolding value after_row_count after_group_length after_admin_length after_type after_flags after_versions after_magic
given = (
  gives_too_long reader _ _ (λ s. refl) refl,
  (
    ([], none, refl),
    (
      (0 ∷ 0 ∷ 0 ∷ 0 ∷ [], bytes_are _ refl, refl),
      ((79 ∷ 66 ∷ 77 ∷ 80 ∷ 1 ∷ 7 ∷ 0 ∷ 0 ∷ 0 ∷ 0 ∷ 0 ∷ 0 ∷ 0 ∷ [], bytes_are _ refl, refl), tt),
    ),
  ),
)

pub refuses : Refuses reader
refuses = refuses_from reader answered given
