-- Bytes as text (docs/REPLAY.md, "Input"): parts with a plus between them, each of them lower-case hexadecimal digits, two for each byte,
-- or a number, an asterisk, and the digits that stand so many times.
use Rattle.std.specs.Prelude.{ℕ, zero, suc, ◌+◌, ◌-◌, ◌*◌, ◌/◌, ◌%◌, Bool, true, false, Option, Some, None, List, [], ◌∷◌, ◌++◌, eqb, ltb, length, take, drop, get_or}
use Rattle.std.proofs.lemmas.List.Edits.{sets}
use Rattle.wire.specs.Bytes.{pick}

-- how many bytes a text writes, or that it is none
abbrev pub Unhexed : Type 0
Unhexed = Option ℕ

-- how many bytes stand before the first one that is b, all of them where there is none
unfoldable pub place_of : ℕ → List ℕ → ℕ
place_of b [] = 0
place_of b (a ∷ l) = pick (eqb a b) 0 (suc (place_of b l))

-- ---- digits: what one stands for, 16 where it is none
abbrev pub digit_value : ℕ → ℕ
digit_value d =
    pick (ltb d 48) 16 (pick (ltb d 58) (d - 48) (pick (ltb d 97) 16 (pick (ltb d 103) (d - 87) 16)))

unfoldable pub all_digits : List ℕ → Bool
all_digits [] = true
all_digits (a ∷ l) = pick (ltb 15 (digit_value a)) false (all_digits l)

-- at least two of them, and an even number
abbrev pub are_digits : List ℕ → Bool
are_digits t = pick (eqb (length t / 2) 0) false (pick (eqb (length t % 2) 0) (all_digits t) false)

-- the byte that the i-th pair writes
abbrev pub byte_at : List ℕ → ℕ → ℕ
byte_at t i = digit_value (get_or t (2 * i) 0) % 16 * 16 + digit_value (get_or t (2 * i + 1) 0) % 16

-- n bytes from the i-th on: those that the digits write, and then the same again
unfoldable pub repeated : List ℕ → ℕ → ℕ → List ℕ
repeated t i zero = []
repeated t i (suc n) = byte_at t (i % (length t / 2)) ∷ repeated t (suc i) n

-- ---- a number from 1 to 1,048,577 in decimal digits without a leading zero, 0 where it is none; n is what the digits before have written
abbrev pub with_digit : ℕ → ℕ → ℕ
with_digit n d = pick (ltb 9 d) 0 (pick (ltb 1048577 (n * 10 + d)) 0 (n * 10 + d))

unfoldable pub times_from : ℕ → List ℕ → ℕ
times_from n [] = n
times_from n (d ∷ l) = pick (eqb (with_digit n (digit_value d)) 0) 0 (times_from (with_digit n (digit_value d)) l)

-- ---- a part: how many times, which digits, and the bytes that it writes, none where it is no part
abbrev pub has_times : List ℕ → Bool
has_times p = ltb (place_of 42 p) (length p)

abbrev pub part_times : List ℕ → ℕ
part_times p = pick (has_times p) (times_from 0 (take (place_of 42 p) p)) 1

abbrev pub part_digits : List ℕ → List ℕ
part_digits p = pick (has_times p) (drop (place_of 42 p + 1) p) p

unfoldable pub part_length : List ℕ → ℕ
part_length p = pick (are_digits (part_digits p)) (part_times p * (length (part_digits p) / 2)) 0

abbrev pub part_bytes : List ℕ → List ℕ
part_bytes p = repeated (part_digits p) 0 (part_length p)

-- ---- the parts of a text, which stand between its pluses
abbrev pub onto : ℕ → List (List ℕ) → List (List ℕ)
onto a [] = (a ∷ []) ∷ []
onto a (p ∷ l) = (a ∷ p) ∷ l

unfoldable pub parts : List ℕ → List (List ℕ)
parts [] = [] ∷ []
parts (a ∷ l) = pick (eqb a 43) ([] ∷ parts l) (onto a (parts l))

-- how many bytes they write into a buffer of this length in which n stand already, or that they write none
unfoldable pub measured : ℕ → ℕ → List (List ℕ) → Unhexed
measured room n [] = Some n
measured room n (p ∷ l) =
    pick (eqb (part_length p) 0) None (pick (ltb (room - n) (part_length p)) None (measured room (n + part_length p) l))

unfoldable pub all_bytes : List (List ℕ) → List ℕ
all_bytes [] = []
all_bytes (p ∷ l) = part_bytes p ++ all_bytes l

-- ---- the whole text, of at most 131,072 characters; no bytes are written as a hyphen
abbrev pub is_hyphen : List ℕ → Bool
is_hyphen t = pick (eqb (length t) 1) (eqb (get_or t 0 0) 45) false

abbrev pub unhexed : List ℕ → ℕ → Unhexed
unhexed t room = pick (is_hyphen t) (Some 0) (pick (ltb 131072 (length t)) None (measured room 0 (parts t)))

-- the buffer afterwards
abbrev pub buffer_with : Unhexed → List ℕ → List ℕ → List ℕ
buffer_with (Some n) s out = sets out 0 s
buffer_with None s out = out

abbrev pub text_bytes : List ℕ → List ℕ
text_bytes t = pick (is_hyphen t) [] (all_bytes (parts t))

abbrev pub unhexed_into : List ℕ → List ℕ → List ℕ
unhexed_into t out = buffer_with (unhexed t (length out)) (text_bytes t) out

-- ---- the digits a5
abbrev pub untouched : List ℕ
untouched = 97 ∷ 53 ∷ []
