-- Numbers in decimal, and as text: `digits n` are the digits of n, the most significant first, and `number_of l` is the number
-- that the digits l write.
use Rattle.std.specs.Prelude.{ℕ, zero, suc, ◌+◌, ◌*◌, ◌/◌, ◌%◌, ◌<◌, List, [], ◌∷◌, ◌++◌, map, ltb}
use Rattle.wire.specs.Bytes.{pick}

-- the last digit is the remainder by ten, and the others are those of the quotient; f divisions are enough
unfoldable pub digits_in : ℕ → ℕ → List ℕ
digits_in zero n = n ∷ []
digits_in (suc f) n = pick (ltb n 10) (n ∷ []) (digits_in f (n / 10) ++ (n % 10 ∷ []))

-- n divisions are, since each makes the number smaller
abbrev pub digits : ℕ → List ℕ
digits n = digits_in n n

-- as text in ASCII, where the digits 0 to 9 are 48 to 57
abbrev pub decimal : ℕ → List ℕ
decimal n = map (λ d. 48 + d) (digits n)

-- each digit counts once, and what stands before it ten times
abbrev pub read_on : ℕ → List ℕ → ℕ
read_on n [] = n
read_on n (d ∷ l) = read_on (n * 10 + d) l

abbrev pub number_of : List ℕ → ℕ
number_of l = read_on 0 l

-- every element is a digit
pub data Digits : List ℕ → Type 0 where
  none : Digits []
  more : {d : ℕ} {l : List ℕ} → d < 10 → Digits l → Digits (d ∷ l)

-- at least one digit, and the first of several is not 0
abbrev pub NoLeadingZero : List ℕ → Type 0
NoLeadingZero [] = ⊥
NoLeadingZero (d ∷ []) = Unit {0}
NoLeadingZero (d ∷ e ∷ l) = 0 < d
