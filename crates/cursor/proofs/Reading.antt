-- What an answer of the cursor says: the number that was read and where the cursor stands, or that too few bytes are left.
-- Assumes nothing.
use mathlib.Core.Path.{◌≡◌, refl, sym, ap, ◌∙◌}
use mathlib.Core.List.{List}
use mathlib.Core.Bool.{Bool, true, false}
use Prim.Native.Nat.{ℕ, ◌+◌, ◌-◌, ◌≤◌}
use native.Mathlib.Omega.{arith}
use borrow.Author.Tests.{leb-true, leb-false}
use lib.ListN.{length, drop}
use Rattle.std.specs.declared.result.Result.TheVariants.{Ok, Err}
use Rattle.wire.specs.Bytes.{pick, has, num_at}
use Rattle.wire.specs.Refusal.{cut_at}
use Rattle.cursor.specs.Read.{Read, read, cursor, value_read}
use Rattle.wire.specs.declared.Refusal.{Refusal}
use Rattle.cursor.specs.declared.Cursor.{Cursor}
use Rattle.wire.proofs.Bytes.{num_drop}
use Rattle.wire.proofs.Needs.{Lacked}

-- a number n of w bytes was read at a place, and c stands behind it
pub record Was (w : ℕ) (s : List ℕ) (at n : ℕ) (c : Cursor) : Type 0 where
  pub left : w ≤ length s - at
  pub number : n ≡ num_at w s at
  pub next : c.at ≡ at + w

pub was_got : (w : ℕ) (s : List ℕ) (at : ℕ) {x : Read} {n : ℕ} {c : Cursor} → x ≡ Ok (n, c) → x ≡ read w s at → Was w s at n c
was_got w s at {x} {n} {c} e f = go (has w s at) refl (sym e ∙ f)
  where
    go : (b : Bool) → has w s at ≡ b → ◌≡◌ {A = Read} (Ok (n, c)) (pick b (Ok (num_at w s at, cursor (at + w))) (Err (cut_at (length s) at w))) → Was w s at n c
    go true h q =
        let both : ◌≡◌ {A = ℕ × Cursor} (n, c) (num_at w s at, cursor (at + w)) = cc in
        record { left = leb-true w (length s - at) h; number = ap (λ (x : ℕ × Cursor). x.0) both; next = ap (λ (x : ℕ × Cursor). x.1.at) both }
    go false h q = let z : ◌≡◌ {A = ℕ} 0 1 = cc in absurd (omega arith)

-- or it lacks bytes, and its Cut is at its place and says how many
pub was_cut : (w : ℕ) (s : List ℕ) (at : ℕ) {x : Read} {r : Refusal} → x ≡ Err r → x ≡ read w s at → Lacked (length s) at w r
was_cut w s at {x} {r} e f = go (has w s at) refl (sym e ∙ f)
  where
    go : (b : Bool) → has w s at ≡ b → ◌≡◌ {A = Read} (Err r) (pick b (Ok (num_at w s at, cursor (at + w))) (Err (cut_at (length s) at w))) → Lacked (length s) at w r
    go true h q = let z : ◌≡◌ {A = ℕ} 0 1 = cc in absurd (omega arith)
    go false h q = record { few = leb-false w (length s - at) h; cut_is = cc }

-- a number that is read as itself
pub plain_read : (x : Read) → value_read (λ (n : ℕ). n) x ≡ x
plain_read (Ok y) = refl
plain_read (Err r) = refl

pub was_read : (w : ℕ) (s : List ℕ) (at : ℕ) {x : Read} {n : ℕ} {c : Cursor} → x ≡ Ok (n, c) → value_read (λ (n : ℕ). n) x ≡ read w s at → Was w s at n c
was_read w s at {x} e f = was_got w s at e (sym (plain_read x) ∙ f)

-- what was read j past a place is the number there of the part from that place on
pub was_in : {w : ℕ} {s : List ℕ} {k n : ℕ} {c : Cursor} (at j : ℕ) → k ≡ at + j → Was w s k n c → num_at w (drop at s) j ≡ n
was_in {w} {s} at j e r = num_drop w j s at ∙ ap (num_at w s) (sym e) ∙ sym r.number
