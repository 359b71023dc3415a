-- The bytes of a number as std has them are those of the wire. Assumes nothing.
use mathlib.Core.Path.{◌≡◌, refl}
use mathlib.Core.List.{List}
use Prim.Native.Nat.{ℕ, zero, suc, ◌^◌, ◌<◌}
use native.Mathlib.Omega.{arith}
use lib.ListN.{get_or}
use Rattle.std.proofs.Common.{w16, w32, w64}
use Rattle.std.specs.Int.{to_be_bytes}
use Rattle.std.proofs.lemmas.Nat.{be_bytes_2, be_bytes_4, be_bytes_8}
use Rattle.wire.specs.Bytes.{be, value, Bytes, none, more}
use Rattle.wire.proofs.Bytes.{value_be, bytes_be}

each_small : {l : List ℕ} → Bytes l → (i : ℕ) → get_or l i 0 < 256
each_small none i = omega arith
each_small (more h p) zero = h
each_small (more h p) (suc i) = each_small p i

small : (w n i : ℕ) → get_or (be w n) i 0 < 256
small w n i = each_small (bytes_be w n) i

pub two : (n : ℕ) → n < 2 ^ 16 → to_be_bytes w16 n ≡ be 2 n
unfolding be value
two n h = be_bytes_2 (be 2 n) n refl (small 2 n) (omega (arith, value_be 2 n h))

pub four : (n : ℕ) → n < 2 ^ 32 → to_be_bytes w32 n ≡ be 4 n
unfolding be value
four n h = be_bytes_4 (be 4 n) n refl (small 4 n) (omega (arith, value_be 4 n h))

pub eight : (n : ℕ) → n < 2 ^ 64 → to_be_bytes w64 n ≡ be 8 n
unfolding be value
eight n h = be_bytes_8 (be 8 n) n refl (small 8 n) (omega (arith, value_be 8 n h))
