-- Warnings are bits of one word, and their number is the number of ones.
use Rattle.std.specs.Prelude.{ℕ, zero, suc, ◌+◌, ◌/◌, ◌%◌}

-- of the lowest bits of a word, those that are set
abbrev pub count_ones : ℕ → ℕ → ℕ
count_ones zero word = 0
count_ones (suc bits) word = word % 2 + count_ones bits (word / 2)
