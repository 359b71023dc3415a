-- What a user of this crate relies on: what it leaves and answers is determined, a put is whole or not at all, and a writer
-- touches nothing past the length that it answers. Assumes nothing.
use mathlib.Core.Path.{◌≡◌, refl, sym, ap, ◌∙◌}
use mathlib.Core.Bool.{Bool, true, false}
use mathlib.Core.List.{List, [], ◌∷◌, ◌++◌, append_assoc}
use Prim.Native.Nat.{ℕ, ◌+◌, ◌≤◌, ◌<◌}
use native.Mathlib.Omega.{arith}
use borrow.Author.Tests.{lt-ltb, le-ltb}
use lib.ListN.{length, take, drop}
use lib.Seq.{sets-eq, drop_at}
use Rattle.wire.specs.Number as Number
use Rattle.wire.specs.Refusal.{refusal}
use Rattle.wire.specs.declared.View.{View}
use Rattle.wire.proofs.Determined.{determined}
use Rattle.writing.specs.Write.{WriteAnswer, put_at, tlv_fits, refusal_of, length_of, write_answer, after, Wrote}
use Rattle.std.specs.declared.result.Result.TheVariants.{Ok, Err}
use Rattle.writing.proofs.Sets.{put_fits, put_nothing}
use Rattle.writing.proofs.Answers.{writes}

-- ---- any two outputs, and any two answers, that a contract allows are equal
-- Two outputs that put_bytes may leave are equal.
pub put_determined : (out : List ℕ) (at : ℕ) (b out' out'' : List ℕ) → out' ≡ put_at out at b → out'' ≡ put_at out at b → out' ≡ out''
put_determined out at b out' out'' = determined

-- Two answers of write_answer for the same test, length and room are equal.
pub write_answer_determined : (ok : Bool) (n room : ℕ) (r q : WriteAnswer) → r ≡ write_answer ok n room → q ≡ write_answer ok n room → r ≡ q
write_answer_determined ok n room r q = determined

-- Two answers of tlv_fits for the same TLV and length of the buffer are equal.
pub tlv_fits_determined : (kind size : ℕ) (v : View) (buffer_length : ℕ) (r q : Bool) → r ≡ tlv_fits kind size v buffer_length → q ≡ tlv_fits kind size v buffer_length → r ≡ q
tlv_fits_determined kind size v buffer_length r q = determined

-- ---- a put
-- Bytes that fit stand at their place, with all before and behind them as it was; bytes that do not fit change nothing.
pub put_all_or_nothing : (out : List ℕ) (at : ℕ) (b : List ℕ)
    → (at + length b ≤ length out → put_at out at b ≡ take at out ++ (b ++ drop (at + length b) out))
    × (length out < at + length b → put_at out at b ≡ out)
put_all_or_nothing out at b = (all, nothing b)
  where
    all : at + length b ≤ length out → put_at out at b ≡ take at out ++ (b ++ drop (at + length b) out)
    all h = put_fits out at b (omega arith) ∙ sets-eq b out at h ∙ append_assoc (take at out) b (drop (at + length b) out)

    nothing : (l : List ℕ) → length out < at + length l → put_at out at l ≡ out
    nothing [] h = put_fits out at [] (omega arith)
    nothing (x ∷ l) h = put_nothing out at (x ∷ l) (omega arith)

-- ---- a writer of the bytes s, whose record is writable or not
module _ (ok : Bool) (s out out' : List ℕ) (r : WriteAnswer)
    (wrote : Wrote ok s out r out') where
  output : out' ≡ after r s out
  output = wrote.left ∙ ap (λ (x : WriteAnswer). after x s out) (sym wrote.answered)

  -- What stands behind the length that a writer answers is as it was, all of the output where it refuses.
  pub nothing_past_the_length : drop (length_of r) out' ≡ drop (length_of r) out
  nothing_past_the_length = ap (drop (length_of r)) output ∙ go r wrote.answered
    where
      go : (a : WriteAnswer) → a ≡ write_answer ok (length s) (length out) → drop (length_of a) (after a s out) ≡ drop (length_of a) out
      go (Ok k) e = rw (writes ok (length s) (length out) k e).length_is (drop_at s (drop (length s) out) (length s) refl)
      go (Err x) e = refl

  -- A writer that refuses leaves every byte of the output as it was.
  pub refusal_writes_nothing : 0 < (refusal_of r).number → out' ≡ out
  refusal_writes_nothing h = output ∙ go r h
    where
      go : (a : WriteAnswer) → 0 < (refusal_of a).number → after a s out ≡ out
      go (Ok k) h = absurd (omega arith)
      go (Err x) h = refl

-- A writer refuses BadField whatever the length, then TooLong whatever the room, then NoRoom.
pub order : (n room : ℕ)
    → (write_answer false n room ≡ Err (refusal Number.BadField 0))
    × ((Number.limit < n → write_answer true n room ≡ Err (refusal Number.TooLong 0))
    × (n ≤ Number.limit → room < n → write_answer true n room ≡ Err (refusal Number.NoRoom 0)))
order n room = (refl, (λ h. rw (lt-ltb Number.limit n h), λ h k. rw (le-ltb Number.limit n h, lt-ltb room n k)))
