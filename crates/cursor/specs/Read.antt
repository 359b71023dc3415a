-- What reading a number with the cursor finds, for every width: the number and the cursor past it, or Cut at the number's place, with what is
-- missing of its width.
use Rattle.std.specs.Prelude.{ℕ, ◌+◌, List, length, Result, Ok, Err}
use Rattle.wire.specs.Bytes.{pick, has, num_at}
use Rattle.wire.specs.Refusal.{cut_at, no_refusal}
use Rattle.wire.specs.declared.Refusal.{Refusal}
use Rattle.cursor.specs.declared.Cursor.{Cursor}

abbrev pub cursor : ℕ → Cursor
cursor n = record { at = n }

abbrev pub Read : Type 0
Read = Result (ℕ × Cursor) Refusal

abbrev pub read : ℕ → List ℕ → ℕ → Read
read w s at = pick (has w s at) (Ok (num_at w s at, cursor (at + w))) (Err (cut_at (length s) at w))

-- what an answer says: its refusal, the number that was read, and the cursor past it, all zero where it is Cut
abbrev pub refusal_of : Read → Refusal
refusal_of (Ok x) = no_refusal
refusal_of (Err r) = r

abbrev pub value_of : Read → ℕ
value_of (Ok x) = x.0
value_of (Err r) = 0

abbrev pub next_of : Read → Cursor
next_of (Ok x) = x.1
next_of (Err r) = cursor 0

-- the same answer with the number that its value stands for
abbrev pub value_read : {A : Type 0} → (A → ℕ) → Result (A × Cursor) Refusal → Read
value_read f (Ok x) = Ok (f x.0, x.1)
value_read f (Err r) = Err r
