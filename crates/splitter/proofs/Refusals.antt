-- What the reader refuses, and with which numbers. Assumes nothing.
use mathlib.Core.Path.{refl, ap}
use mathlib.Core.List.{List, [], ◌∷◌}
use Prim.Native.Nat.{ℕ}
use lib.Dec.{ltb}
use lib.ListN.{length}
use Rattle.std.specs.declared.result.Result.TheVariants.{Ok, Err}
use Rattle.wire.specs.Number as Number
use Rattle.wire.specs.Bytes.{value, none}
use Rattle.wire.specs.Refuses.{Refuses}
use Rattle.wire.specs.View.{view}
use Rattle.wire.specs.declared.Refusal.{Refusal}
use Rattle.wire.proofs.Refuses.{pick_in, Answered, is_good, is_empty, one_of, GivesEach, refuses_from, among, bytes_are}
use Rattle.common_header.specs.Fields as Fields
use Rattle.common_header.specs.Fields.{CommonFieldsAnswer, read_fields}
use Rattle.common_header.proofs.Refusals.{fields_answered}
use Rattle.splitter.specs.Read.{after_fields, split_of, numbers, reader}
use Rattle.splitter.proofs.Laws.{hands_out}

-- the refusals of the fields are handed on
after : (there : ℕ) (a : CommonFieldsAnswer) → Answered Fields.reader a → Answered reader (after_fields there a)
after there (Ok f) x =
    let P = Answered reader in
    let n = f.msg_len in
    pick_in P (ltb n 6) (is_empty refl (one_of numbers Number.BadMessageLength refl))
    (pick_in P (ltb Number.limit n) (is_empty refl (one_of numbers Number.TooLong refl))
    (pick_in P (ltb there n) (is_empty refl (one_of numbers Number.Cut refl)) (is_good (ap (λ (r : Refusal). r.number) (hands_out f (view 0 n)).is_good))))
after there (Err r) (is_good e) = is_good e
after there (Err r) (is_empty e o) = is_empty refl (among Fields.numbers numbers refl r.number o)

answered : (s : List ℕ) → Answered reader (split_of s)
answered s = after (length s) (Fields.read_common_fields s) (fields_answered s)

-- a length of 1,048,577, none, version 4, and a length of 5
given : GivesEach reader numbers
unfolding value read_fields
given = (
  (3 ∷ 0 ∷ 16 ∷ 0 ∷ 1 ∷ 0 ∷ [], bytes_are _ refl, refl),
  (([], none, refl), ((4 ∷ [], bytes_are _ refl, refl), ((3 ∷ 0 ∷ 0 ∷ 0 ∷ 5 ∷ 4 ∷ [], bytes_are _ refl, refl), tt))),
)

pub refuses : Refuses reader
refuses = refuses_from reader answered given
