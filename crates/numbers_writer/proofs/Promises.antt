-- What a user of this crate relies on: what it leaves is determined. That a put is whole or not at all is a theorem of writing. Assumes nothing.
use mathlib.Core.Path.{◌≡◌}
use mathlib.Core.List.{List}
use Prim.Native.Nat.{ℕ}
use Rattle.wire.specs.Bytes.{be}
use Rattle.wire.proofs.Determined.{determined}
use Rattle.writing.specs.Write.{put_at}

-- Two outputs that PutNumber::put of a u8, u16, u32 or u64 (w is 1, 2, 4 or 8) may leave are equal.
pub put_number_determined : (w n : ℕ) (out : List ℕ) (at : ℕ) (out' out'' : List ℕ)
    → out' ≡ put_at out at (be w n) → out'' ≡ put_at out at (be w n) → out' ≡ out''
put_number_determined w n out at out' out'' = determined
