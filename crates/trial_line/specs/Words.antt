-- Words as bytes, and tables of them.
use Rattle.std.specs.Prelude.{ℕ, zero, suc, Bool, true, false, List, [], ◌∷◌, eqb, length, take, drop}
use Prim.Native.Char.{code}
use Prim.Native.String.{String, len, char_at}
use Rattle.wire.specs.Bytes.{pick}
use Rattle.trial_hex.specs.Hex.{place_of}

-- a word of ASCII, a byte for each character
abbrev pub bytes_from : ℕ → ℕ → String → List ℕ
bytes_from zero i s = []
bytes_from (suc n) i s = code (char_at s i) ∷ bytes_from n (suc i) s

abbrev pub word : String → List ℕ
word s = bytes_from (len s) 0 s

unfoldable pub starts : List ℕ → List ℕ → Bool
starts t [] = true
starts [] (b ∷ w) = false
starts (a ∷ t) (b ∷ w) = pick (eqb a b) (starts t w) false

abbrev pub same : List ℕ → List ℕ → Bool
same t w = pick (eqb (length t) (length w)) (starts t w) false

-- a word with spaces behind it
abbrev pub word_of : List ℕ → List ℕ
word_of cell = take (place_of 32 cell) cell

-- the place of a text among words that stand in 14 bytes each, their number where it is none of them
unfoldable pub word_in : ℕ → List ℕ → List ℕ → ℕ
word_in zero words t = 0
word_in (suc n) words t = pick (same t (word_of (take 14 words))) 0 (suc (word_in n (drop 14 words) t))

-- a row of a table: a word and what it stands for
pub record Row (A : Type 0) : Type 0 where
  pub spelt : String
  pub means : A

abbrev pub row : {A : Type 0} → String → A → Row A
row s a = record { spelt = s; means = a }

-- what a text stands for, by the first row that has it
abbrev pub meaning : {A : Type 0} → List (Row A) → A → List ℕ → A
meaning [] none t = none
meaning (r ∷ l) none t = pick (same t (word r.spelt)) r.means (meaning l none t)
