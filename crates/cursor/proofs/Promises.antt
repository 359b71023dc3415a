-- What a user of the cursor relies on: what its answers say, and that they are determined. Assumes nothing.
use mathlib.Core.Path.{◌≡◌, refl, sym, ap, ◌∙◌}
use mathlib.Core.List.{List}
use Prim.Native.Nat.{ℕ, ◌+◌, ◌-◌, ◌≤◌, ◌<◌}
use native.Mathlib.Omega.{arith}
use Rattle.std.specs.declared.result.Result.{Result}
use Rattle.std.specs.declared.result.Result.TheVariants.{Ok, Err}
use Rattle.wire.proofs.Determined.{determined}
use Rattle.wire.specs.Bytes.{num_at}
use Rattle.wire.specs.Refusal.{no_refusal, cut_at}
use Rattle.wire.specs.declared.Refusal.{Refusal}
use Rattle.cursor.specs.Read.{Read, read, cursor, refusal_of, value_of, next_of, value_read}
use Rattle.cursor.specs.declared.Cursor.{Cursor}
use Rattle.cursor.proofs.Reading.{plain_read}
use borrow.Author.Tests.{le-leb, lt-leb}
use lib.ListN.{length}

-- Where as many bytes are left, the number is read and the cursor stands behind it; where fewer are, it is Cut at the cursor, and what is missing
-- is its width less what is left.
pub read_says : (w : ℕ) (s : List ℕ) (at : ℕ)
    → (w ≤ length s - at → (refusal_of (read w s at) ≡ no_refusal) × (value_of (read w s at) ≡ num_at w s at) × (next_of (read w s at) ≡ cursor (at + w)))
    × (length s - at < w → refusal_of (read w s at) ≡ cut_at (length s) at w)
read_says w s at = (λ h. rw (le-leb w (length s - at) h) (refl, refl, refl), λ h. rw (lt-leb w (length s - at) h))

-- What Cursor::read answers for a u8, u16, u32 or u64, whose value is itself, is that read.
pub methods_say : (x : Read) → value_read (λ (n : ℕ). n) x ≡ x
methods_say = plain_read

-- Two answers of Cursor::read, and two that are told of it in one form, for the same bytes and place are equal: for each kind of number that its
-- value determines, as a u8, u16, u32 and u64.
pub method_determined : {N : Type 0} (value : N → ℕ) → ((x y : N) → value x ≡ value y → x ≡ y) → (w : ℕ) (s : List ℕ) (at : ℕ)
    (r q : Result (N × Cursor) Refusal) → value_read value r ≡ read w s at → value_read value q ≡ read w s at → r ≡ q
method_determined value tells w s at r q e f = go r q (e ∙ sym f)
  where
    go : (r q : Result _ Refusal) → ◌≡◌ {A = Read} (value_read value r) (value_read value q) → r ≡ q
    go (Ok (a, c)) (Ok (b, d)) e =
        let both : ◌≡◌ {A = ℕ × Cursor} (value a, c) (value b, d) = cc in
        (λ i. Ok (tells a b (ap (λ (x : ℕ × Cursor). x.0) both) i, ap (λ (x : ℕ × Cursor). x.1) both i))
    go (Ok x) (Err q) e = let z : ◌≡◌ {A = ℕ} 0 1 = cc in absurd (omega arith)
    go (Err r) (Ok y) e = let z : ◌≡◌ {A = ℕ} 0 1 = cc in absurd (omega arith)
    go (Err r) (Err q) e = let same : r ≡ q = cc in ap Err same

pub read_determined : {R : Type 0} (form : Read → R) (w : ℕ) (s : List ℕ) (at : ℕ) (r q : R)
    → r ≡ form (read w s at) → q ≡ form (read w s at) → r ≡ q
read_determined form w s at r q = determined
