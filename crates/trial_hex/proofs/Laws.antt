-- Places, digits, numbers and parts, byte by byte. Assumes nothing.
use Rattle.std.proofs.Common.{◌≡◌, refl, sym, ap, ◌∙◌, Bool, true, false, not, cond, ◌&&◌, List, [], ◌∷◌, ℕ, zero, suc, ◌+◌, ◌-◌, ◌*◌, ◌/◌, ◌%◌, ◌≤◌, ◌<◌, eqb, ltb, length, take, drop, get_or, set, arith, add-one, length-drop, drop_of_length-le, drop-cons}
use Rattle.std.specs.List.{position, position_or_len, list_all, slice_split, onto_first}
use Rattle.std.specs.Option.{unwrap_or}
use Rattle.std.proofs.lemmas.List.Recursion.{is_position_or_len}
use native.Mathlib.Nat.{mul-le-mul_right}
use borrow.Author.Tests.{lt-ltb, le-ltb, eq-eqb, ne_eqb, eqb-false, ltb-true, ltb-false}
use lib.Seq.{take_all, sets}
use Rattle.std.specs.declared.option.Option.{Option}
use Rattle.std.specs.declared.option.Option.TheVariants.{Some, None}
use Rattle.writing.proofs.Sets.{sets_append}
use Rattle.wire.specs.Bytes.{pick}
use Rattle.trial_hex.specs.Hex.{place_of, digit_value, all_digits, are_digits, byte_at, repeated, with_digit, times_from, part_times, part_digits, part_length, part_bytes, onto, parts, measured, all_bytes, is_hyphen, Unhexed, unhexed, buffer_with, text_bytes, unhexed_into}

-- ---- the first element that passes, or the length where `position` finds none
pub first_within : {A : Type 0} (p : A → Bool) (s : List A) → position_or_len p s ≤ length s
first_within p [] = omega arith
first_within p (a ∷ l) = go (p a) (first_within p l)
  where
    go : (c : Bool) → position_or_len p l ≤ length l → cond (not c) (1 + position_or_len p l) 0 ≤ length (a ∷ l)
    go true h = omega arith
    go false h = omega (arith, h)

pub first_found : {A : Type 0} (p : A → Bool) (s : List A) (r : Option ℕ) → r ≡ position p s → unwrap_or r (length s) ≡ position_or_len p s
first_found p s r e = rw e (go (ltb (position_or_len p s) (length s)) refl)
  where
    go : (c : Bool) → ltb (position_or_len p s) (length s) ≡ c
        → unwrap_or (cond c (Some (position_or_len p s)) None) (length s) ≡ position_or_len p s
    go true k = refl
    go false k = let most = ltb-false (position_or_len p s) (length s) k in omega (arith, first_within p s)

pub place_is : (b : ℕ) (s : List ℕ) → place_of b s ≡ position_or_len (λ a. eqb a b) s
unfolding place_of
place_is b s = is_position_or_len (place_of b) (λ a. eqb a b) refl (λ a l. step (eqb a b) (place_of b l)) s
  where
    step : (c : Bool) (n : ℕ) → pick c 0 (suc n) ≡ cond c 0 (1 + n)
    step true n = refl
    step false n = omega arith

pub place_within : (b : ℕ) (s : List ℕ) → place_of b s ≤ length s
place_within b s = rw (place_is b s) (first_within (λ a. eqb a b) s)

-- ---- digits
pub digits_all : (s : List ℕ) → list_all (λ d. ltb (digit_value d) 16) s ≡ all_digits s
unfolding all_digits
digits_all [] = refl
digits_all (a ∷ l) = go (ltb 15 (digit_value a)) refl (digits_all l)
  where
    go : (c : Bool) → ltb 15 (digit_value a) ≡ c → list_all (λ d. ltb (digit_value d) 16) l ≡ all_digits l
        → (ltb (digit_value a) 16 && list_all (λ d. ltb (digit_value d) 16) l) ≡ pick c false (all_digits l)
    go true k e = rw (le-ltb (digit_value a) 16 (ltb-true 15 (digit_value a) k))
    go false k e = rw (lt-ltb (digit_value a) 16 (omega (arith, ltb-false 15 (digit_value a) k))) e

-- ---- a number
module _ (s : List ℕ) (i n m : ℕ) (h : i < length s) (is : m ≡ with_digit n (digit_value (get_or s i 0))) where
  pub times_bad : m ≡ 0 → times_from n (drop i s) ≡ 0
  unfolding times_from
  times_bad e = rw (drop-cons s i 0 h, eq-eqb (with_digit n (digit_value (get_or s i 0))) 0 (sym is ∙ e))

  pub times_more : (m ≡ 0 → ⊥) → times_from n (drop i s) ≡ times_from m (drop (i + 1) s)
  unfolding times_from
  times_more other =
      rw (add-one i, drop-cons s i 0 h, ne_eqb (with_digit n (digit_value (get_or s i 0))) 0 (λ e. other (is ∙ e)), sym is)

pub times_done : (s : List ℕ) (i n : ℕ) → length s ≤ i → times_from n (drop i s) ≡ n
unfolding times_from
times_done s i n end = rw (drop_of_length-le s end)

-- ---- bytes that repeat
pub repeated_here : (t out : List ℕ) (at i n : ℕ) → i < n
    → sets out (at + i) (repeated t i (n - i)) ≡ sets (set out (at + i) (byte_at t (i % (length t / 2)))) (at + (i + 1)) (repeated t (i + 1) (n - (i + 1)))
unfolding repeated
repeated_here t out at i n h =
    let k : n - i ≡ suc (n - (i + 1)) = omega arith in
    let m : at + (i + 1) ≡ suc (at + i) = omega arith in
    rw (k, m, add-one i)

pub repeated_done : (t out : List ℕ) (at i n : ℕ) → n ≤ i → sets out (at + i) (repeated t i (n - i)) ≡ out
unfolding repeated
repeated_done t out at i n h = let k : n - i ≡ 0 = omega arith in rw k

pub length_repeated : (t : List ℕ) (i n : ℕ) → length (repeated t i n) ≡ n
unfolding repeated
length_repeated t i zero = refl
length_repeated t i (suc n) = ap suc (length_repeated t (suc i) n)

-- ---- a part that writes bytes has two digits at least
pub has_digits : (p : List ℕ) → 0 < part_length p → 2 ≤ length (part_digits p)
unfolding part_length
has_digits p h =
    go (eqb (length (part_digits p) / 2) 0) refl (pick (eqb (length (part_digits p) % 2) 0) (all_digits (part_digits p)) false) (part_times p * (length (part_digits p) / 2)) h
  where
    go : (a : Bool) → eqb (length (part_digits p) / 2) 0 ≡ a → (b : Bool) (n : ℕ) → 0 < pick (pick a false b) n 0 → 2 ≤ length (part_digits p)
    go true e b n k = absurd (omega arith)
    go false e b n k = let some = eqb-false (length (part_digits p) / 2) 0 e in omega (arith, some)

pub bytes_long : (p : List ℕ) → length (part_bytes p) ≡ part_length p
bytes_long p = length_repeated (part_digits p) 0 (part_length p)

-- ---- the parts are what stands between the pluses
abbrev pub is_plus : ℕ → Bool
is_plus b = eqb b 43

parts_are : (t : List ℕ) → parts t ≡ slice_split is_plus t
unfolding parts
parts_are [] = refl
parts_are (a ∷ l) = go (eqb a 43) (parts l) (slice_split is_plus l) (parts_are l)
  where
    same : (q : List (List ℕ)) → onto a q ≡ onto_first a q
    same [] = refl
    same (p ∷ q) = refl

    go : (c : Bool) (p q : List (List ℕ)) → p ≡ q → pick c ([] ∷ p) (onto a p) ≡ cond c ([] ∷ q) (onto_first a q)
    go true p q e = ap (λ (x : List (List ℕ)). [] ∷ x) e
    go false p q e = ap (onto a) e ∙ same q

pub part_here : (t part : List ℕ) (k : ℕ) → (k < length (slice_split is_plus t)) × (part ≡ get_or (slice_split is_plus t) k part)
    → drop k (parts t) ≡ part ∷ drop (k + 1) (parts t)
part_here t part k h = rw (parts_are t, add-one k, drop-cons (slice_split is_plus t) k part h.0, sym h.1)

pub no_more : (t : List ℕ) (k : ℕ) → k ≡ length (slice_split is_plus t) → drop k (parts t) ≡ []
no_more t k e = rw (parts_are t) (drop_of_length-le (slice_split is_plus t) (omega arith))

-- ---- measuring one part
module _ (room n k : ℕ) (p : List ℕ) (l : List (List ℕ)) (is : k ≡ part_length p) where
  pub no_part : k ≡ 0 → measured room n (p ∷ l) ≡ None
  unfolding measured
  no_part e = rw (eq-eqb (part_length p) 0 (sym is ∙ e))

  pub no_room : (k ≡ 0 → ⊥) → room - n < k → measured room n (p ∷ l) ≡ None
  unfolding measured
  no_room some h = rw (ne_eqb (part_length p) 0 (λ e. some (is ∙ e)), lt-ltb (room - n) (part_length p) (omega (arith, is, h)))

  pub one_more : (k ≡ 0 → ⊥) → k ≤ room - n → measured room n (p ∷ l) ≡ measured room (n + k) l
  unfolding measured
  one_more some h = rw (ne_eqb (part_length p) 0 (λ e. some (is ∙ e)), le-ltb (room - n) (part_length p) (omega (arith, is, h)), sym is)

pub none_left : (room n : ℕ) → measured room n [] ≡ Some n
unfolding measured
none_left room n = refl

-- ---- a part that was measured well
no_count : {A : Type 0} (count : ℕ) → Some count ≡ None → A
no_count count q = let z : ◌≡◌ {A = ℕ} 0 1 = cc in absurd (omega arith)

pub record Fits (room n count : ℕ) (p : List ℕ) (l : List (List ℕ)) : Type 0 where
  pub some : 0 < part_length p
  pub room_for : part_length p ≤ room - n
  pub rest : Some count ≡ measured room (n + part_length p) l

pub part_fits : (room n count : ℕ) (p : List ℕ) (l : List (List ℕ)) → Some count ≡ measured room n (p ∷ l) → Fits room n count p l
unfolding measured
part_fits room n count p l e = go (eqb (part_length p) 0) refl (ltb (room - n) (part_length p)) refl e
  where
    go : (a : Bool) → eqb (part_length p) 0 ≡ a → (b : Bool) → ltb (room - n) (part_length p) ≡ b
        → Some count ≡ pick a None (pick b None (measured room (n + part_length p) l)) → Fits room n count p l
    go true h b k q = no_count count q
    go false h true k q = no_count count q
    go false h false k q =
        let other = eqb-false (part_length p) 0 h in
        record { some = omega (arith, other); room_for = ltb-false _ _ k; rest = q }

-- ---- and written
pub bytes_turn : (p out : List ℕ) (l : List (List ℕ)) (at k : ℕ) → k ≡ part_length p
    → sets out at (all_bytes (p ∷ l)) ≡ sets (sets out at (part_bytes p)) (at + k) (all_bytes l)
unfolding all_bytes
bytes_turn p out l at k is =
    sets_append (part_bytes p) (all_bytes l) out at
    ∙ ap (λ (n : ℕ). sets (sets out at (part_bytes p)) (at + n) (all_bytes l)) (bytes_long p ∙ sym is)

pub bytes_end : (out : List ℕ) (at : ℕ) → sets out at (all_bytes []) ≡ out
unfolding all_bytes
bytes_end out at = refl

-- ---- the part from a place on
pub rest_is : (s : List ℕ) (k : ℕ) → take (length s - k) (drop k s) ≡ drop k s
rest_is s k = take_all (length s - k) (drop k s) (omega (arith, length-drop k s))

-- ---- how many bytes a part writes, by its digits
pub no_digits : (p : List ℕ) → are_digits (part_digits p) ≡ false → part_length p ≡ 0
unfolding part_length
no_digits p e = rw e

pub some_digits : (p d : List ℕ) (n : ℕ) → are_digits (part_digits p) ≡ true → d ≡ part_digits p → n ≡ part_times p → n * (length d / 2) ≡ part_length p
unfolding part_length
some_digits p d n e is-digits is-times = rw (e, is-digits, is-times)

pub digits_short : (p : List ℕ) → length (part_digits p) ≤ length p
digits_short p = go (ltb (place_of 42 p) (length p))
  where
    go : (b : Bool) → length (pick b (drop (place_of 42 p + 1) p) p) ≤ length p
    go true = omega (arith, length-drop (place_of 42 p + 1) p)
    go false = omega arith

-- ---- a turn over the parts: the one at a place fits, and the others are measured and written behind it
module _ (t part : List ℕ) (n : ℕ) (h : drop n (parts t) ≡ part ∷ drop (n + 1) (parts t)) (room at count : ℕ) (e : Some count ≡ measured room at (drop n (parts t))) where
  pub here_fits : Fits room at count part (drop (n + 1) (parts t))
  here_fits = part_fits room at count part _ (e ∙ ap (measured room at) h)

  pub measured_on : (k : ℕ) → k ≡ part_length part → Some count ≡ measured room (at + k) (drop (n + 1) (parts t))
  measured_on k is-k = here_fits.rest ∙ ap (λ (m : ℕ). measured room (at + m) (drop (n + 1) (parts t))) (sym is-k)

  pub written_on : (k : ℕ) → k ≡ part_length part → (whole bytes bytes' : List ℕ) → whole ≡ sets bytes at (all_bytes (drop n (parts t))) → bytes' ≡ sets bytes at (part_bytes part)
      → whole ≡ sets bytes' (at + k) (all_bytes (drop (n + 1) (parts t)))
  written_on k is-k whole bytes bytes' so put =
      so ∙ ap (λ (l : List (List ℕ)). sets bytes at (all_bytes l)) h
      ∙ bytes_turn part bytes (drop (n + 1) (parts t)) at k is-k
      ∙ ap (λ (b : List ℕ). sets b (at + k) (all_bytes (drop (n + 1) (parts t)))) (sym put)

pub product_small : (n m : ℕ) → n ≤ 1048577 → m ≤ 65536 → n * m ≤ 1048577 * 65536
product_small n m h k = omega (arith, mul-le-mul_right m h, k)

-- ---- a whole text
module _ (t out : List ℕ) where
  pub hyphen_so : is_hyphen t ≡ true → (Some 0 ≡ unhexed t (length out)) × (out ≡ unhexed_into t out)
  hyphen_so e = (rw e, rw e)

  module _ (no-hyphen : is_hyphen t ≡ false) where
    pub too_long_so : 131072 < length t → (None ≡ unhexed t (length out)) × (out ≡ unhexed_into t out)
    too_long_so h = (rw (no-hyphen, lt-ltb 131072 (length t) h), rw (no-hyphen, lt-ltb 131072 (length t) h))

    module _ (short : length t ≤ 131072) (r : Unhexed) (is : r ≡ measured (length out) 0 (parts t)) where
      answer_is : r ≡ unhexed t (length out)
      answer_is = rw (no-hyphen, le-ltb 131072 (length t) short) is

      into_is : unhexed_into t out ≡ buffer_with r (all_bytes (parts t)) out
      into_is = ap (λ (u : Unhexed). buffer_with u (text_bytes t) out) (sym answer_is) ∙ rw no-hyphen

      pub bad_so : r ≡ None → (r ≡ unhexed t (length out)) × (out ≡ unhexed_into t out)
      bad_so e = (answer_is, sym (into_is ∙ rw e))

      pub good_so : (n : ℕ) (out' : List ℕ) → r ≡ Some n → out' ≡ sets out 0 (all_bytes (parts t)) → (Some n ≡ unhexed t (length out)) × (out' ≡ unhexed_into t out)
      good_so n out' e put = (sym e ∙ answer_is, put ∙ sym (into_is ∙ rw e))
