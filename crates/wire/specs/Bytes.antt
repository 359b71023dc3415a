-- Big-endian numbers over any width: `be w n` are the w bytes of n, the most significant first, and `value l` is the number
-- that the bytes l write.
use Rattle.std.specs.Prelude.{ℕ, zero, suc, ◌+◌, ◌-◌, ◌*◌, ◌/◌, ◌%◌, ◌^◌, ◌<◌, ◌≡◌, Bool, true, false, List, [], ◌∷◌, length, take, drop, leb, eqb}

-- one of two, by a test
abbrev pub pick : {A : Type 0} → Bool → A → A → A
pick true a b = a
pick false a b = b

unfoldable pub be : ℕ → ℕ → List ℕ
be zero n = []
be (suc w) n = n / 256 ^ w % 256 ∷ be w (n % 256 ^ w)

unfoldable pub value : List ℕ → ℕ
value [] = 0
value (b ∷ l) = b * 256 ^ length l + value l

-- every element is a byte
pub data Bytes : List ℕ → Type 0 where
  none : Bytes []
  more : {b : ℕ} {l : List ℕ} → b < 256 → Bytes l → Bytes (b ∷ l)

-- n bytes, whatever they are
pub record Octets (n : ℕ) (l : List ℕ) : Type 0 where
  pub many : length l ≡ n
  pub are_bytes : Bytes l

-- the number that the w bytes of s from a place on write
abbrev pub num_at : ℕ → List ℕ → ℕ → ℕ
num_at w s at = value (take w (drop at s))

-- at least w bytes are left from a place on
abbrev pub has : ℕ → List ℕ → ℕ → Bool
has w s at = leb w (length s - at)

-- the same number for every place: 0 where not all of its bytes are there
abbrev pub number_at : ℕ → List ℕ → ℕ → ℕ
number_at w s at = pick (has w s at) (num_at w s at) 0

-- ---- a bit of a byte, by its weight
abbrev pub flag : ℕ → ℕ → Bool
flag weight byte = eqb (byte / weight % 2) 1
