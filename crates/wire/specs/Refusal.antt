-- A refusal: a number, the place of the field at fault, and how many bytes it lacks (docs/RULES.md, "Numbers" and "What a Cut lacks").
use Rattle.std.specs.Prelude.{ℕ, ◌-◌, leb, Result, Ok, Err}
use Rattle.wire.specs.Number as Number
use Rattle.wire.specs.Bytes.{pick}
use Rattle.wire.specs.declared.Refusal.{Refusal}

-- a number other than Cut, at a place: no byte is missing
abbrev pub refusal : ℕ → ℕ → Refusal
refusal n p = record { number = n; place = p; missing = 0 }

-- the refusal of a good answer: all zero
abbrev pub no_refusal : Refusal
no_refusal = refusal Number.Good 0

-- the field at a place lacks so many bytes
abbrev pub lacking : ℕ → ℕ → Refusal
lacking p m = record { number = Number.Cut; place = p; missing = m }

-- of an input of n bytes, w are needed at a place and fewer are left: what is missing is the need less what is left
abbrev pub cut_at : ℕ → ℕ → ℕ → Refusal
cut_at n at w = lacking at (w - (n - at))

-- of an input of n bytes, w are needed at a place: they are there, or it is cut
abbrev pub need_at : ℕ → ℕ → ℕ → Result (Unit {0}) Refusal
need_at n at w = pick (leb w (n - at)) (Ok tt) (Err (cut_at n at w))
