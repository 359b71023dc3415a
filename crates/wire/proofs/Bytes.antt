-- The laws of big-endian numbers, each over every width. Assumes nothing.
use mathlib.Core.Path.{◌≡◌, refl, sym, ap, ap₂, ◌∙◌, subst}
use mathlib.Core.List.{List, [], ◌∷◌, ◌++◌}
use Prim.Native.Nat.{ℕ, zero, suc, ◌+◌, ◌-◌, ◌*◌, ◌/◌, ◌%◌, ◌^◌, ◌≤◌, ◌<◌}
use native.Mathlib.Nat.{pow-succ', one-le-pow, mod-lt, mod-eq_of_lt, div-add-mod', div-lt_iff_lt-mul, lt_of_lt_of_le, pow-le-pow_right}
use native.Mathlib.Omega.{arith}
use borrow.Author.Tests.{le-leb, lt-leb}
use lib.Arith.{digits_lt, digits_div, digits_mod}
use lib.Pow.{pow-add}
use lib.Dec.{lit<}
use lib.ListN.{length, take, drop, get_or, length-append, length-take, length-drop, take-append-drop}
use lib.Seq.{drop-cons, take-add, take-take, take_all, drop-drop, length-take-le}
use Rattle.wire.specs.Bytes.{be, value, Bytes, none, more, num_at, number_at}

positive : (w : ℕ) → 0 < 256 ^ w
positive w = one-le-pow w 256 (lit< tt)

pub length_be : (w n : ℕ) → length (be w n) ≡ w
unfolding be
length_be zero n = refl
length_be (suc w) n = ap suc (length_be w (n % 256 ^ w))

pub bytes_be : (w n : ℕ) → Bytes (be w n)
unfolding be
bytes_be zero n = none
bytes_be (suc w) n = more (mod-lt (n / 256 ^ w) (lit< tt)) (bytes_be w (n % 256 ^ w))

-- bytes of a number and number of bytes undo each other, both ways
pub value_be : (w n : ℕ) → n < 256 ^ w → value (be w n) ≡ n
unfolding be value
value_be zero n h = omega arith
value_be (suc w) n h =
    let small : n / 256 ^ w < 256 = (div-lt_iff_lt-mul (positive w)).1 (subst (λ (k : ℕ). n < k) (pow-succ' 256 w) h) in
    rw (length_be w, value_be w (n % 256 ^ w) (mod-lt n (positive w)), mod-eq_of_lt small) (div-add-mod' n (256 ^ w))

pub value_lt : {l : List ℕ} → Bytes l → value l < 256 ^ length l
unfolding value
value_lt none = lit< tt
value_lt (more {b} {l} h t) =
    subst (λ (k : ℕ). b * 256 ^ length l + value l < k) (sym (pow-succ' 256 (length l))) (digits_lt h (value_lt t))

pub be_value : {l : List ℕ} → Bytes l → be (length l) (value l) ≡ l
unfolding be value
be_value none = refl
be_value (more {b} {l} h t) =
    ap₂ ◌∷◌
    (ap (λ (k : ℕ). k % 256) (digits_div b (value_lt t)) ∙ mod-eq_of_lt h)
    (ap (be (length l)) (digits_mod b (value_lt t)) ∙ be_value t)

pub be_injective : (w m n : ℕ) → m < 256 ^ w → n < 256 ^ w → be w m ≡ be w n → m ≡ n
be_injective w m n hm hn e = sym (value_be w m hm) ∙ ap value e ∙ value_be w n hn

-- a number written by two parts, one after the other
pub value_append : (a b : List ℕ) → value (a ++ b) ≡ value a * 256 ^ length b + value b
unfolding value
value_append [] b = omega arith
value_append (x ∷ a) b = rw (length-append a b, pow-add 256 (length a) (length b), value_append a b) (omega arith)

-- one byte and two, as they are written
pub be_one : (n : ℕ) → n < 256 → be 1 n ≡ n ∷ []
unfolding be
be_one n h = let a : n / 1 % 256 ≡ n = omega arith in ap (λ (x : ℕ). x ∷ []) a

pub be_two : (n : ℕ) → n < 65536 → be 2 n ≡ n / 256 ∷ n % 256 ∷ []
unfolding be
be_two n h =
    let a : n / 256 % 256 ≡ n / 256 = omega arith in
    let b : n % 256 / 1 % 256 ≡ n % 256 = omega arith in
    ap₂ (λ (x y : ℕ). x ∷ y ∷ []) a b

-- ---- parts of bytes are bytes
pub bytes_append : {a b : List ℕ} → Bytes a → Bytes b → Bytes (a ++ b)
bytes_append none q = q
bytes_append (more h p) q = more h (bytes_append p q)

pub bytes_take : (n : ℕ) {l : List ℕ} → Bytes l → Bytes (take n l)
bytes_take zero p = none
bytes_take (suc n) none = none
bytes_take (suc n) (more h p) = more h (bytes_take n p)

pub bytes_drop : (n : ℕ) {l : List ℕ} → Bytes l → Bytes (drop n l)
bytes_drop zero p = p
bytes_drop (suc n) none = none
bytes_drop (suc n) (more h p) = bytes_drop n p

-- the bytes of a number in two parts
pub be_split : (w v n : ℕ) → n < 256 ^ (w + v) → be (w + v) n ≡ be w (n / 256 ^ v) ++ be v (n % 256 ^ v)
be_split w v n h =
    let high : n / 256 ^ v < 256 ^ w = (div-lt_iff_lt-mul (positive v)).1 (subst (λ (k : ℕ). n < k) (pow-add 256 w v) h) in
    let l = be w (n / 256 ^ v) ++ be v (n % 256 ^ v) in
    let long : length l ≡ w + v = simp (length-append, length_be) in
    let whole : value l ≡ n =
    value_append (be w (n / 256 ^ v)) (be v (n % 256 ^ v))
    ∙ rw (length_be v, value_be w (n / 256 ^ v) high, value_be v (n % 256 ^ v) (mod-lt n (positive v))) (div-add-mod' n (256 ^ v)) in
    ap₂ be (sym long) (sym whole) ∙ be_value (bytes_append (bytes_be w (n / 256 ^ v)) (bytes_be v (n % 256 ^ v)))

-- ---- the number at a place
pub num_split : (w v : ℕ) (s : List ℕ) (at : ℕ) → at + (w + v) ≤ length s
    → num_at (w + v) s at ≡ num_at w s at * 256 ^ v + num_at v s (at + w)
num_split w v s at h =
    rw (
      take-add w v (drop at s),
      value_append (take w (drop at s)) (take v (drop w (drop at s))),
      drop-drop w at s,
      length-take-le v (drop (at + w) s) (simp length-drop (omega arith)),
    )

pub num_one : (s : List ℕ) (at : ℕ) → at < length s → num_at 1 s at ≡ get_or s at 0
unfolding value
num_one s at h = rw (drop-cons s at 0 h) (omega arith)

-- of a part
pub num_drop : (w j : ℕ) (s : List ℕ) (k : ℕ) → num_at w (drop k s) j ≡ num_at w s (k + j)
num_drop w j s k = ap (λ (l : List ℕ). value (take w l)) (drop-drop j k s)

pub num_lt : (w : ℕ) {s : List ℕ} (at : ℕ) → Bytes s → num_at w s at < 256 ^ w
num_lt w {s} at p =
    lt_of_lt_of_le (value_lt (bytes_take w (bytes_drop at p))) (pow-le-pow_right (lit< tt) (simp length-take (omega arith)))

-- where all of its bytes are there, the number that is read at every place is that number
pub number_is : (w : ℕ) (s : List ℕ) (at : ℕ) → w ≤ length s - at → number_at w s at ≡ num_at w s at
number_is w s at h = rw (le-leb w (length s - at) h)

pub number_none : (w : ℕ) (s : List ℕ) (at : ℕ) → length s - at < w → number_at w s at ≡ 0
number_none w s at h = rw (lt-leb w (length s - at) h)

-- ---- what was read, written again in front of what follows it: a number of w bytes, and n bytes as they are
be_num : (w : ℕ) {s : List ℕ} (at : ℕ) → Bytes s → w ≤ length s - at → be w (num_at w s at) ≡ take w (drop at s)
be_num w {s} at p h =
    let e : length (take w (drop at s)) ≡ w = length-take-le w (drop at s) (simp length-drop h) in
    subst (λ (k : ℕ). be k (num_at w s at) ≡ take w (drop at s)) e (be_value (bytes_take w (bytes_drop at p)))

pub num_back : (w : ℕ) {s : List ℕ} (at : ℕ) → Bytes s → w ≤ length s - at → be w (num_at w s at) ++ drop (at + w) s ≡ drop at s
num_back w {s} at p h = rw (be_num w at p h, ← drop-drop w at s) (take-append-drop w (drop at s))

pub part_back : (n : ℕ) (s : List ℕ) (at : ℕ) → take n (drop at s) ++ drop (at + n) s ≡ drop at s
part_back n s at = rw (← drop-drop n at s) (take-append-drop n (drop at s))

-- the last number of s, with nothing behind it
pub num_last : (w : ℕ) {s : List ℕ} (at : ℕ) → Bytes s → at + w ≡ length s → be w (num_at w s at) ≡ drop at s
num_last w {s} at p e = be_num w at p (omega arith) ∙ take_all w (drop at s) (simp length-drop (omega arith))

-- ---- the number at a place of a part of n bytes, where it lies in the part
part_take : (w j n : ℕ) (x : List ℕ) → j + w ≤ n → take w (drop j (take n x)) ≡ take w (drop j x)
part_take w zero n x h = take-take w n x (omega arith)
part_take w (suc j) zero x h = absurd (omega arith)
part_take w (suc j) (suc n) [] h = refl
part_take w (suc j) (suc n) (y ∷ x) h = part_take w j n x (omega arith)

pub num_part : (w j n : ℕ) (s : List ℕ) (at : ℕ) → j + w ≤ n → num_at w (take n (drop at s)) j ≡ num_at w s (at + j)
num_part w j n s at h = ap value (part_take w j n (drop at s) h) ∙ num_drop w j s at
