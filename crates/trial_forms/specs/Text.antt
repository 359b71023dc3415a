-- Text as bytes, and where it ends.
use Rattle.std.specs.Prelude.{ℕ, ◌+◌, ◌/◌, ◌%◌, List, [], ◌∷◌, length, nat_lt}
use Rattle.wire.specs.Bytes.{pick, has}

-- the place after a text that is put at a place: the same place where the text does not fit
abbrev pub place_after : List ℕ → ℕ → List ℕ → ℕ
place_after out at text = pick (has (length text) out at) (at + length text) at

-- 0 to 9 and a to f
abbrev pub hex_digit : ℕ → ℕ
hex_digit d = pick (nat_lt d 10) (48 + d) (87 + d)

-- two digits for each byte
abbrev pub hex : List ℕ → List ℕ
hex [] = []
hex (b ∷ l) = hex_digit (b / 16) ∷ (hex_digit (b % 16) ∷ hex l)
