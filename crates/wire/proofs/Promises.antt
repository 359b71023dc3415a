-- What a user of this crate relies on: its answers are determined, and what they say of numbers and views. Assumes nothing.
use mathlib.Core.Path.{◌≡◌, ap, ◌∙◌}
use mathlib.Core.Bool.{Bool, true, false}
use mathlib.Core.List.{List, []}
use Prim.Native.Nat.{ℕ, ◌-◌, ◌^◌, ◌<◌}
use borrow.Author.Tests.{leb-true, leb-false}
use lib.ListN.{length, take, drop}
use Rattle.wire.specs.Bytes.{be, value, Bytes}
use Rattle.wire.specs.Refusal.{refusal, no_refusal, need_at}
use Rattle.wire.specs.View.{inside, no_view, viewed}
use Rattle.wire.specs.declared.Refusal.{Refusal}
use Rattle.std.specs.declared.result.Result.{Result}
use Rattle.wire.specs.declared.View.{View}
use Rattle.wire.proofs.Determined.{determined}
use Rattle.wire.proofs.Bytes.{value_be, be_value}
use Rattle.wire.proofs.Views.{length_part, viewed_inside, viewed_none}

-- ---- any two answers that a contract allows are equal
-- Two answers of refusal_at for the same number and place are equal.
pub refusal_at_determined : (number place : ℕ) (r q : Refusal) → r ≡ refusal number place → q ≡ refusal number place → r ≡ q
refusal_at_determined number place r q = determined

-- Two answers of no_refusal are equal.
pub no_refusal_determined : (r q : Refusal) → r ≡ no_refusal → q ≡ no_refusal → r ≡ q
no_refusal_determined r q = determined

-- Two answers of no_view are equal.
pub no_view_determined : (r q : View) → r ≡ no_view → q ≡ no_view → r ≡ q
no_view_determined r q = determined

-- Two answers of need_at for the same length, place and count are equal.
pub need_at_determined : (there at count : ℕ) (r q : Result (Unit {0}) Refusal) → r ≡ need_at there at count → q ≡ need_at there at count → r ≡ q
need_at_determined there at count r q = determined

-- Two answers of left for the same bytes and place are equal.
pub left_determined : (s : List ℕ) (at r q : ℕ) → r ≡ length s - at → q ≡ length s - at → r ≡ q
left_determined s at r q = determined

-- Two answers of View::is_inside for the same view and length are equal.
pub is_inside_determined : (v : View) (room : ℕ) (r q : Bool) → r ≡ inside room v → q ≡ inside room v → r ≡ q
is_inside_determined v room r q = determined

-- Two parts that View::part may show of the same buffer are equal.
pub part_determined : (v : View) (b r q : List ℕ) → r ≡ viewed b v → q ≡ viewed b v → r ≡ q
part_determined v b r q = determined

-- ---- numbers and bytes undo each other
-- A number that fits its width is read back from the bytes that write it.
pub number_back : (w n : ℕ) → n < 256 ^ w → value (be w n) ≡ n
number_back = value_be

-- Bytes are written back from the number that is read from them.
pub bytes_back : (l : List ℕ) → Bytes l → be (length l) (value l) ≡ l
bytes_back l p = be_value p

-- ---- what a view shows
-- A view that lies inside shows the bytes from its place on, exactly as many as its length says.
pub view_inside : (b : List ℕ) (v : View) → inside (length b) v ≡ true
    → (viewed b v ≡ take v.length (drop v.place b)) × (length (viewed b v) ≡ v.length)
view_inside b v e =
    let h = leb-true _ _ e in
    let shown = viewed_inside b v h in
    (shown, ap length shown ∙ length_part b v.place v.length h)

-- A view that lies outside shows nothing, so that no byte of another field is taken for its own.
pub view_outside : (b : List ℕ) (v : View) → inside (length b) v ≡ false → viewed b v ≡ []
view_outside b v e = viewed_none b v (leb-false _ _ e)
