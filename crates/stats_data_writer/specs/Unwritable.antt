-- Which data is not writable with a length, by the length of the buffer that its view points into, as a list. It goes by no reader.
use Rattle.std.specs.Prelude.{ℕ, ◌^◌, ◌<◌, ◌≡◌, [], ◌∷◌}
use Rattle.wire.specs.Refuses.{OneOf}
use Rattle.writing.specs.Unwritable.{ViewOutside, LengthNotKept}
use Rattle.stats_data.specs.declared.StatsData.{StatsData}
use Rattle.stats_data.specs.declared.StatsData.TheVariants.{Counter, Gauge, AfiSafiGauge, Unknown}

-- a counter whose kind and length disagree: 4 is a Counter's, 8 a Gauge's, 11 that of a Gauge with its AFI and SAFI, and a raw value has another
abbrev pub KindNotLength : ℕ → StatsData → Type 0
KindNotLength size (Counter n) = size ≡ 4 → ⊥
KindNotLength size (Gauge n) = size ≡ 8 → ⊥
KindNotLength size (AfiSafiGauge afi safi n) = size ≡ 11 → ⊥
KindNotLength size (Unknown v) = OneOf (4 ∷ 8 ∷ 11 ∷ []) size

-- only a raw value has a view
abbrev pub RawNotKept : ℕ → StatsData → Type 0
RawNotKept size (Counter n) = ⊥
RawNotKept size (Gauge n) = ⊥
RawNotKept size (AfiSafiGauge afi safi n) = ⊥
RawNotKept size (Unknown v) = LengthNotKept v.length size

abbrev pub RawOutside : StatsData → ℕ → Type 0
RawOutside (Counter n) room = ⊥
RawOutside (Gauge n) room = ⊥
RawOutside (AfiSafiGauge afi safi n) room = ⊥
RawOutside (Unknown v) room = ViewOutside v.place v.length room

pub data Unwritable (d : StatsData) (size room : ℕ) : Type 0 where
  kind_not_length : KindNotLength size d → Unwritable d size room
  raw_not_kept : RawNotKept size d → Unwritable d size room
  raw_outside : RawOutside d room → Unwritable d size room

-- what their types say of every data, type and length
abbrev pub NumbersFit : StatsData → Type 0
NumbersFit (Counter n) = n < 256 ^ 4
NumbersFit (Gauge n) = n < 256 ^ 8
NumbersFit (AfiSafiGauge afi safi n) = (afi < 256 ^ 2) × (safi < 256 ^ 1) × (n < 256 ^ 8)
NumbersFit (Unknown v) = Unit {0}

pub record Typed (kind size : ℕ) (d : StatsData) : Type 0 where
  pub kind_fits : kind < 256 ^ 2
  pub size_fits : size < 256 ^ 2
  pub numbers_fit : NumbersFit d
