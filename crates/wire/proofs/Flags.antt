-- A bit of a byte by its mask. Assumes nothing.
use Prim.Native.Nat.{ℕ, zero, suc, ◌+◌, ◌-◌, ◌*◌, ◌/◌, ◌%◌, ◌^◌, ◌<◌}
use native.Mathlib.Nat.{mod-lt}
use native.Mathlib.Omega.{arith}
use mathlib.Core.Bool.{true, false, not}
use mathlib.Core.Path.{◌≡◌, sym, ap, ◌∙◌}
use borrow.Author.Tests.{eq-eqb, ne_eqb}
use lib.Bits.{bit_and, and_high}
use lib.Dec.{eqb, lit<}
use lib.Pow.{pow_pos}
use Rattle.wire.specs.Bytes.{flag}

pub masked : (k byte : ℕ) → not (eqb (bit_and byte (2 ^ (1 + k) - 2 ^ k)) 0) ≡ flag (2 ^ k) byte
masked k byte = rw (and_high byte 1 k) (go (byte / 2 ^ k % 2) (mod-lt (byte / 2 ^ k) (lit< tt)))
  where
    go : (bit : ℕ) → bit < 2 → not (eqb (bit * 2 ^ k) 0) ≡ eqb bit 1
    go zero h = rw (eq-eqb (0 * 2 ^ k) 0 (omega arith))
    go (suc zero) h = let some = pow_pos k in rw (ne_eqb (1 * 2 ^ k) 0 (omega arith))
    go (suc (suc b)) h = absurd (omega arith)

pub flag_set : (k byte : ℕ) → (bit_and byte (2 ^ (1 + k) - 2 ^ k) ≡ 0 → ⊥) → flag (2 ^ k) byte ≡ true
flag_set k byte h = sym (masked k byte) ∙ ap not (ne_eqb (bit_and byte (2 ^ (1 + k) - 2 ^ k)) 0 h)

pub flag_clear : (k byte : ℕ) → bit_and byte (2 ^ (1 + k) - 2 ^ k) ≡ 0 → flag (2 ^ k) byte ≡ false
flag_clear k byte h = sym (masked k byte) ∙ ap not (eq-eqb (bit_and byte (2 ^ (1 + k) - 2 ^ k)) 0 h)
