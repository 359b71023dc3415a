-- What each reader refuses, and with which numbers. Assumes nothing.
use mathlib.Core.Path.{refl}
use mathlib.Core.List.{List, [], ◌∷◌}
use Prim.Native.Nat.{ℕ}
use lib.Dec.{ltb, eqb}
use lib.ListN.{length}
use Rattle.std.specs.declared.result.Result.TheVariants.{Ok, Err}
use Rattle.wire.specs.Number as Number
use Rattle.wire.specs.Bytes.{value, has, num_at, none}
use Rattle.wire.specs.Refuses.{Refuses}
use Rattle.wire.proofs.Refuses.{pick_in, Answered, is_good, is_empty, one_of, GivesEach, gives_too_long, refuses_from, among, bytes_are}
use Rattle.wire.proofs.Waits.{said}
use Rattle.common_header.specs.Fields as Fields
use Rattle.common_header.specs.Fields.{CommonFieldsAnswer, read_fields, read_common_fields}
use Rattle.common_header.specs.Read.{after_fields, read_common_header, numbers, reader}

-- ---- the fields
pub fields_answered : (s : List ℕ) → Answered Fields.reader (read_common_fields s)
unfolding read_fields
fields_answered s =
    let P = Answered Fields.reader in
    let refused = one_of Fields.numbers in
    pick_in P (ltb Number.limit (length s)) (is_empty refl (refused Number.TooLong refl))
    (pick_in P (has 1 s 0)
    (pick_in P (eqb (num_at 1 s 0) 3)
    (pick_in P (has 4 s 1)
    (pick_in P (has 1 s 5) (is_good refl) (is_empty refl (refused Number.Cut refl)))
    (is_empty refl (refused Number.Cut refl)))
    (is_empty refl (refused Number.BadVersion refl)))
    (is_empty refl (refused Number.Cut refl)))

-- none, and version 4
fields_given : GivesEach Fields.reader Fields.numbers
unfolding value read_fields
fields_given = (gives_too_long Fields.reader _ _ (λ s. refl) refl, (([], none, refl), ((4 ∷ [], bytes_are _ refl, refl), tt)))

pub fields_refuses : Refuses Fields.reader
fields_refuses = refuses_from Fields.reader fields_answered fields_given

-- ---- the header, which hands on the refusals of the fields
after : (a : CommonFieldsAnswer) → Answered Fields.reader a → Answered reader (after_fields a)
after (Ok f) x =
    pick_in (Answered reader) (ltb 6 f.kind) (is_empty refl (one_of numbers Number.UnknownKind refl)) (is_good refl)
after (Err r) (is_good e) = is_good e
after (Err r) (is_empty e o) = is_empty refl (among Fields.numbers numbers refl r.number o)

-- none, version 4, and type 7
given : GivesEach reader numbers
unfolding value read_fields
given = (
  gives_too_long reader _ (λ s. after_fields (read_fields s)) (λ s. said after_fields (ltb Number.limit (length s)) refl refl) refl,
  (([], none, refl), ((4 ∷ [], bytes_are _ refl, refl), ((3 ∷ 0 ∷ 0 ∷ 0 ∷ 6 ∷ 7 ∷ [], bytes_are _ refl, refl), tt))),
)

answered : (s : List ℕ) → Answered reader (read_common_header s)
answered s = after (read_common_fields s) (fields_answered s)

pub refuses : Refuses reader
refuses = refuses_from reader answered given
