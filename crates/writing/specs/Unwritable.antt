-- What is not writable: the items that several writers share, each over plain numbers. A writer's own list stands in its crate, in
-- specs/Unwritable.antt, and goes by no reader; its theorem `unwritable` says that `writable` is false exactly where an item of it holds.
use Rattle.std.specs.Prelude.{ℕ, ◌+◌, ◌^◌, ◌<◌, ◌≡◌}

-- a number that a reader would refuse: one above the last that it knows
abbrev pub AboveLast : ℕ → ℕ → Type 0
AboveLast last number = last < number

-- a number that a reader would refuse: it knows one alone, and this is another
abbrev pub NotTheOne : ℕ → ℕ → Type 0
NotTheOne one number = number ≡ one → ⊥

-- a view outside the buffer
abbrev pub ViewOutside : ℕ → ℕ → ℕ → Type 0
ViewOutside place length room = room < place + length

-- a view whose length is not its kept length
abbrev pub LengthNotKept : ℕ → ℕ → Type 0
LengthNotKept length kept = length ≡ kept → ⊥

-- a view whose length does not fit its length field, which has two bytes
abbrev pub LengthTooLarge : ℕ → Type 0
LengthTooLarge length = 65535 < length

-- more than 32 TLVs or 64 counters
abbrev pub TooMany : ℕ → ℕ → Type 0
TooMany places count = places < count

-- a last TLV of length 0, in the bodies where it would be read as a tail
abbrev pub LastAndEmpty : ℕ → ℕ → Type 0
LastAndEmpty length after = (length ≡ 0) × (after ≡ 0)

-- a Reason, or mirroring information, with length not 2
abbrev pub LengthNotTwo : ℕ → Type 0
LengthNotTwo length = length ≡ 2 → ⊥

-- a BGP view under 19 bytes
abbrev pub BgpTooShort : ℕ → Type 0
BgpTooShort length = length < 19

-- ---- what its fields' types say of every TLV
pub record TlvTyped (kind length : ℕ) : Type 0 where
  pub kind_fits : kind < 256 ^ 2
  pub length_fits : length < 256 ^ 2
