-- What a user of the writer of a value relies on. Assumes nothing.
use mathlib.Core.Path.{◌≡◌, subst}
use mathlib.Core.Bool.{Bool, true, false}
use mathlib.Core.List.{List}
use mathlib.Core.Logic.{◌↔◌}
use Prim.Native.Nat.{ℕ, ◌^◌, ◌<◌}
use lib.ListN.{length}
use Rattle.wire.specs.Bytes.{Bytes}
use Rattle.wire.proofs.Determined.{determined}
use Rattle.writing.specs.Write.{put_at}
use Rattle.stats_data.specs.Grammar.{GoodValue}
use Rattle.stats_data.specs.Shown.{value_in}
use Rattle.stats_data.specs.Read.{value_of}
use Rattle.stats_data_writer.specs.Write.{data_bytes, data_writable}
use Rattle.stats_data_writer.specs.Unwritable.{Unwritable, Typed}
use Rattle.stats_data.specs.declared.StatsData.{StatsData}
use Rattle.stats_data.proofs.Values.{value_back, value_forth}
use Rattle.stats_data_writer.proofs.Written.{fine_of, InsideData, fine_from, data-bytes}
use Rattle.stats_data_writer.proofs.Unwritable.{listed}

-- What is written of writable data is read back as its value, and has the length that the record says.
pub round_trip : (b : List ℕ) (kind size : ℕ) (d : StatsData) → data_writable (length b) kind size d ≡ true
    → (length (data_bytes b d) ≡ size) × (value_of size (data_bytes b d) ≡ value_in b d)
round_trip b kind size d e =
    let f = fine_of b kind size d e in
    (f.size_is, value_forth size (value_in b d) f.value_good f.size_is)

-- Data whose numbers fit and whose view lies inside the buffer, and whose bytes are read back as its value, is writable.
pub only_writable : (b : List ℕ) (kind size : ℕ) (d : StatsData) → Bytes b → kind < 256 ^ 2 → size < 256 ^ 2 → InsideData b d
    → length (data_bytes b d) ≡ size → value_of size (data_bytes b d) ≡ value_in b d → data_writable (length b) kind size d ≡ true
only_writable b kind size d p k z inside e same =
    let v = value_back size (data_bytes b d) (data-bytes b p d) e in
    fine_from b kind size d (record { kind_fits = k; size_fits = z; size_is = e; value_good = subst GoodValue same v.is_good }) inside

-- Data whose numbers are of their types is not writable exactly where an item of the list holds of it.
pub unwritable : (room kind size : ℕ) (d : StatsData) → Typed kind size d → (data_writable room kind size d ≡ false) ↔ Unwritable d size room
unwritable = listed

-- ---- any two answers, and any two outputs, that the contract allows are equal
pub writable_determined : (buffer_length kind size : ℕ) (d : StatsData) (r q : Bool) → r ≡ data_writable buffer_length kind size d → q ≡ data_writable buffer_length kind size d → r ≡ q
writable_determined buffer_length kind size d r q = determined

pub put_determined : (out : List ℕ) (at : ℕ) (b : List ℕ) (d : StatsData) (o p : List ℕ) → o ≡ put_at out at (data_bytes b d) → p ≡ put_at out at (data_bytes b d) → o ≡ p
put_determined out at b d o p = determined
