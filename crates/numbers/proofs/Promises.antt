-- What a user of this crate relies on: its answers are determined. The laws of numbers are those of wire. Assumes nothing.
use mathlib.Core.Path.{◌≡◌}
use mathlib.Core.List.{List}
use Prim.Native.Nat.{ℕ}
use Rattle.wire.specs.Bytes.{number_at}
use Rattle.wire.proofs.Determined.{determined}

-- Two answers of WireNumber::read_at for a u8, u16, u32 or u64 (w is 1, 2, 4 or 8) and the same bytes and place are equal.
pub number_determined : (w : ℕ) (s : List ℕ) (at r q : ℕ) → r ≡ number_at w s at → q ≡ number_at w s at → r ≡ q
number_determined w s at r q = determined
