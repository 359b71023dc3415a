-- The number that std makes of some bytes is the one that they write on the wire. Assumes nothing.
use mathlib.Core.Path.{◌≡◌, sym, ap, ◌∙◌}
use mathlib.Core.List.{List, [], ◌∷◌}
use Prim.Native.Nat.{ℕ, ◌+◌, ◌≤◌}
use native.Mathlib.Omega.{arith}
use lib.ListN.{length, take, drop, length-drop}
use lib.Seq.{length-take-le}
use Rattle.std.proofs.Common.{w8, w16, w32, w64}
use Rattle.std.specs.Int.{from_be_bytes}
use Rattle.wire.specs.Bytes.{value, number_at}
use Rattle.wire.proofs.Bytes.{number_is}

one : (l : List ℕ) → length l ≡ 1 → from_be_bytes w8 l ≡ value l
unfolding value
one [] q = absurd (omega (arith, q))
one (a ∷ []) q = omega arith
one (a ∷ z ∷ l) q = absurd (omega (arith, q))

two : (l : List ℕ) → length l ≡ 2 → from_be_bytes w16 l ≡ value l
unfolding value
two [] q = absurd (omega (arith, q))
two (a ∷ []) q = absurd (omega (arith, q))
two (a ∷ b ∷ []) q = omega arith
two (a ∷ b ∷ z ∷ l) q = absurd (omega (arith, q))

four : (l : List ℕ) → length l ≡ 4 → from_be_bytes w32 l ≡ value l
unfolding value
four [] q = absurd (omega (arith, q))
four (a ∷ []) q = absurd (omega (arith, q))
four (a ∷ b ∷ []) q = absurd (omega (arith, q))
four (a ∷ b ∷ c ∷ []) q = absurd (omega (arith, q))
four (a ∷ b ∷ c ∷ d ∷ []) q = omega arith
four (a ∷ b ∷ c ∷ d ∷ z ∷ l) q = absurd (omega (arith, q))

eight : (l : List ℕ) → length l ≡ 8 → from_be_bytes w64 l ≡ value l
unfolding value
eight [] q = absurd (omega (arith, q))
eight (a ∷ []) q = absurd (omega (arith, q))
eight (a ∷ b ∷ []) q = absurd (omega (arith, q))
eight (a ∷ b ∷ c ∷ []) q = absurd (omega (arith, q))
eight (a ∷ b ∷ c ∷ d ∷ []) q = absurd (omega (arith, q))
eight (a ∷ b ∷ c ∷ d ∷ e ∷ []) q = absurd (omega (arith, q))
eight (a ∷ b ∷ c ∷ d ∷ e ∷ f ∷ []) q = absurd (omega (arith, q))
eight (a ∷ b ∷ c ∷ d ∷ e ∷ f ∷ g ∷ []) q = absurd (omega (arith, q))
eight (a ∷ b ∷ c ∷ d ∷ e ∷ f ∷ g ∷ h ∷ []) q = omega arith
eight (a ∷ b ∷ c ∷ d ∷ e ∷ f ∷ g ∷ h ∷ z ∷ l) q = absurd (omega (arith, q))

-- the bytes that stand at a place write the number there
module _ (s : List ℕ) (at : ℕ) (bytes : List ℕ) where
  read_so : (w : ℕ) → at + w ≤ length s → bytes ≡ take w (drop at s) → (made : List ℕ → ℕ)
      → ((l : List ℕ) → length l ≡ w → made l ≡ value l) → made bytes ≡ number_at w s at
  read_so w within are made makes =
      let long : length bytes ≡ w = ap length are ∙ length-take-le w (drop at s) (rw (length-drop at s) (omega arith)) in
      makes bytes long ∙ ap value are ∙ sym (number_is w s at (omega arith))

  pub read_1 : at + 1 ≤ length s → bytes ≡ take 1 (drop at s) → from_be_bytes w8 bytes ≡ number_at 1 s at
  read_1 within are = read_so 1 within are (from_be_bytes w8) one

  pub read_2 : at + 2 ≤ length s → bytes ≡ take 2 (drop at s) → from_be_bytes w16 bytes ≡ number_at 2 s at
  read_2 within are = read_so 2 within are (from_be_bytes w16) two

  pub read_4 : at + 4 ≤ length s → bytes ≡ take 4 (drop at s) → from_be_bytes w32 bytes ≡ number_at 4 s at
  read_4 within are = read_so 4 within are (from_be_bytes w32) four

  pub read_8 : at + 8 ≤ length s → bytes ≡ take 8 (drop at s) → from_be_bytes w64 bytes ≡ number_at 8 s at
  read_8 within are = read_so 8 within are (from_be_bytes w64) eight
