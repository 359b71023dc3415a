-- Which records are not writable, by the length of the buffer that their views point into, as a list. It goes by no reader. A counter
-- whose kind and length disagree cannot be written down, for the length alone says the kind; but its numbers can be such as that kind has not.
use Rattle.std.specs.Prelude.{ℕ, ◌^◌, ◌<◌, ◌≡◌, [], ◌∷◌, length, get_or}
use Rattle.wire.specs.Refuses.{OneOf}
use Rattle.writing.specs.Unwritable.{ViewOutside, TooMany}
use Rattle.stats_report.specs.Shown.{zero_counter}
use Rattle.stats_report.specs.declared.StatCounter.{StatCounter}
use Rattle.stats_report.specs.declared.StatsReport.{StatsReport}

-- a statistics count that is not theirs
abbrev pub CountNotTheirs : ℕ → ℕ → Type 0
CountNotTheirs said count = said ≡ count → ⊥

-- a Counter, of length 4, that has more than four bytes
abbrev pub CounterTooLarge : ℕ → ℕ → Type 0
CounterTooLarge length value = (length ≡ 4) × (4294967295 < value)

-- a SAFI, in a value of length 11, that has more than one byte
abbrev pub SafiTooLarge : ℕ → ℕ → Type 0
SafiTooLarge length safi = (length ≡ 11) × (255 < safi)

-- an AFI or a SAFI that is not zero, where a value of this length has none
abbrev pub FamilyUnused : ℕ → ℕ → Type 0
FamilyUnused length number = (length ≡ 11 → ⊥) × (0 < number)

-- a raw value, whose length is that of no other kind, with a view outside the buffer
abbrev pub RawOutside : ℕ → ℕ → ℕ → Type 0
RawOutside place length room = (OneOf (4 ∷ 8 ∷ 11 ∷ []) length → ⊥) × ViewOutside place length room

pub data CounterUnwritable (t : StatCounter) (room : ℕ) : Type 0 where
  counter_too_large : CounterTooLarge t.stat_len t.value → CounterUnwritable t room
  safi_too_large : SafiTooLarge t.stat_len t.safi → CounterUnwritable t room
  afi_unused : FamilyUnused t.stat_len t.afi → CounterUnwritable t room
  safi_unused : FamilyUnused t.stat_len t.safi → CounterUnwritable t room
  raw_outside : RawOutside t.value t.stat_len room → CounterUnwritable t room

pub data Unwritable (m : StatsReport) (room : ℕ) : Type 0 where
  too_many : TooMany 64 m.count → Unwritable m room
  count_not_theirs : CountNotTheirs m.stats_count m.count → Unwritable m room
  some_counter : (i : ℕ) → i < m.count → CounterUnwritable (get_or m.counters i zero_counter) room → Unwritable m room

-- what the types of its fields say of every record
pub record CounterTyped (t : StatCounter) : Type 0 where
  pub kind_fits : t.kind < 256 ^ 2
  pub length_fits : t.stat_len < 256 ^ 2
  pub afi_fits : t.afi < 256 ^ 2
  pub value_fits : t.value < 256 ^ 8

pub record Typed (m : StatsReport) : Type 0 where
  pub table_long : length m.counters ≡ 64
  pub each_typed : (i : ℕ) → i < 64 → CounterTyped (get_or m.counters i zero_counter)
