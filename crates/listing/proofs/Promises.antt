-- What a user of the listing relies on. Assumes nothing.
use mathlib.Core.Path.{◌≡◌, refl, sym, ap, ◌∙◌, subst}
use mathlib.Core.Bool.{true}
use mathlib.Core.List.{List, ◌++◌}
use Prim.Native.Nat.{ℕ, ◌≤◌, ◌<◌}
use native.Mathlib.Omega.{arith}
use borrow.Author.Tests.{lt-ltb, le-ltb}
use lib.ListN.{length, drop}
use Rattle.wire.specs.Number as Number
use Rattle.wire.specs.Refusal.{refusal}
use Rattle.wire.specs.Bytes.{num_at, Bytes}
use Rattle.wire.proofs.Bytes.{bytes_take, bytes_drop}
use Rattle.std.specs.declared.result.Result.TheVariants.{Ok, Err}
use Rattle.writing.specs.Write.{WriteAnswer, after, Wrote}
use Rattle.writing.proofs.Answers.{does_write, wrote_determined}
use Rattle.splitter.specs.Shown.{ByItsType}
use Rattle.splitter.proofs.Promises.{by_its_type}
use Rattle.message_answer.specs.Grammar.{GoodExactly}
use Rattle.message_answer.proofs.Promises as MessageAnswer
use Rattle.splitter.specs.Stream.{Message, known, skipped}
use Rattle.splitter.proofs.Stream.{split_as, Stands}
use Rattle.listing.specs.Listing.{longest, number_of, found, text, enough}
use Rattle.listing.proofs.Lengths.{text_short}
use Rattle.listing.proofs.Messages.{Each, Walks, walks, each_so}

-- ---- the answer and the output of list_messages
module _ (s out out' : List ℕ) (p : Bytes s) (r : WriteAnswer) (wrote : Wrote true (text s) out r out') where
  output : out' ≡ after r (text s) out
  output = wrote.left ∙ ap (λ (x : WriteAnswer). after x (text s) out) (sym wrote.answered)

  -- Where the output has room for the text, the text stands at its start, and nothing past it differs.
  pub lists : length (text s) ≤ length out → (r ≡ Ok (length (text s))) × (out' ≡ text s ++ drop (length (text s)) out)
  lists h =
      let e : r ≡ Ok (length (text s)) = wrote.answered ∙ does_write true (length (text s)) (length out) refl (omega (arith, text_short s p)) h in
      (e, output ∙ ap (λ (x : WriteAnswer). after x (text s) out) e)

  -- Where it has not, the answer is NoRoom and no byte differs: there is no other refusal.
  pub no_room : length out < length (text s) → (r ≡ Err (refusal Number.NoRoom 0)) × (out' ≡ out)
  no_room h =
      let e : r ≡ Err (refusal Number.NoRoom 0) =
      wrote.answered ∙ rw (le-ltb Number.limit (length (text s)) (omega (arith, text_short s p)), lt-ltb (length out) (length (text s)) h) in
      (e, output ∙ ap (λ (x : WriteAnswer). after x (text s) out) e)

-- An output of `enough` bytes has room for the listing of any stream, also of one that is too long.
pub size_suffices : (s : List ℕ) → Bytes s → length (text s) ≤ enough
size_suffices = text_short

-- ---- the messages that are listed
-- In a stream that is not too long, the splitter hands out or skips each listed message at its place; the messages and then what stands
-- from the last line's place on are the stream; and there nothing is left, or the splitter refuses with the number listed.
pub messages : (s : List ℕ) → length s ≤ longest → Walks s 0 (found s)
messages s h = rw (le-ltb longest (length s) h) (walks (length s) 0 s (omega arith) (omega arith))

-- The sixth byte at a message's place is its type. Up to 6 the message is answered with a number, which is 0 exactly where what follows its common
-- header has a reading: its per-peer header and its body, by their grammars, and both fit the tables. Above that it is skipped.
abbrev pub RightlyAnswered : List ℕ → ℕ → Message → Type 0
RightlyAnswered s at (known h b) = (num_at 1 (drop at s) 5 ≤ 6) × GoodExactly h.msg_type (drop 6 b) (number_of h b)
RightlyAnswered s at (skipped f b) = 6 < num_at 1 (drop at s) 5

pub answer_good : (s : List ℕ) → Bytes s → length s ≤ longest → Each (RightlyAnswered s) 0 (found s).items
answer_good s p h = each_so (λ at m. Stands (drop at s) m) (RightlyAnswered s) good 0 (found s).items (messages s h).each
  where
    by_type : (at : ℕ) (m : Message) → Stands (drop at s) m → ByItsType (num_at 1 (drop at s) 5) (split_as m)
    by_type at m x = subst (ByItsType (num_at 1 (drop at s) 5)) x.split_so (by_its_type (drop at s))

    good : (at : ℕ) (m : Message) → Stands (drop at s) m → RightlyAnswered s at m
    good at (known t b) x = (
      (by_type at (known t b) x).0,
      MessageAnswer.answer_good t.msg_type (drop 6 b)
          (bytes_drop 6 (subst Bytes (sym x.bytes_are) (bytes_take t.msg_len (bytes_drop at p)))),
    )
    good at (skipped f b) x = (by_type at (skipped f b) x).0

-- ---- any two answers, and any two outputs, that the contract allows are equal
pub list_determined : (s out : List ℕ) (r q : WriteAnswer) (out' out'' : List ℕ)
    → Wrote true (text s) out r out' → Wrote true (text s) out q out'' → (r ≡ q) × (out' ≡ out'')
list_determined s out r q out' out'' = wrote_determined
