-- What every writer answers, and what stands in the output afterwards (docs/RULES.md, "Writers").
use Rattle.std.specs.Prelude.{ℕ, ◌^◌, ◌≡◌, Bool, false, List, ◌++◌, length, drop, ltb, eqb, Result, Ok, Err}
use Rattle.std.proofs.lemmas.List.Edits.{sets}
use Rattle.wire.specs.Number as Number
use Rattle.wire.specs.Bytes.{pick, has, be}
use Rattle.wire.specs.Refusal.{refusal, no_refusal}
use Rattle.wire.specs.View.{inside}
use Rattle.wire.specs.declared.Refusal.{Refusal}
use Rattle.wire.specs.declared.View.{View}

-- bytes put at a place: all of them or, where they do not fit, none
abbrev pub put_at : List ℕ → ℕ → List ℕ → List ℕ
put_at out at b = pick (has (length b) out at) (sets out at b) out

-- the length that is written, or why nothing is
abbrev pub WriteAnswer : Type 0
WriteAnswer = Result ℕ Refusal

-- each answer's refusal, and the length that it says was written
abbrev pub refusal_of : WriteAnswer → Refusal
refusal_of (Ok n) = no_refusal
refusal_of (Err r) = r

abbrev pub length_of : WriteAnswer → ℕ
length_of (Ok n) = n
length_of (Err r) = 0

-- by whether the record is writable, the length that it would write and the room there is: BadField, then TooLong, then NoRoom
abbrev pub write_answer : Bool → ℕ → ℕ → WriteAnswer
write_answer ok n room =
    pick ok
    (pick (ltb Number.limit n) (Err (refusal Number.TooLong 0))
    (pick (ltb room n) (Err (refusal Number.NoRoom 0)) (Ok n)))
    (Err (refusal Number.BadField 0))

-- the output afterwards: as it was where the writer refused, else the bytes s and behind them what stood there
abbrev pub after : WriteAnswer → List ℕ → List ℕ → List ℕ
after (Ok n) s out = s ++ drop (length s) out
after (Err r) s out = out

abbrev pub written : Bool → List ℕ → List ℕ → List ℕ
written ok s out = after (write_answer ok (length s) (length out)) s out

-- what every writer's contract says of its answer and of the output, by whether the record is writable and the bytes s that it would write
pub record Wrote (ok : Bool) (s out : List ℕ) (answer : WriteAnswer) (out' : List ℕ) : Type 0 where
  pub answered : answer ≡ write_answer ok (length s) (length out)
  pub left : out' ≡ written ok s out

-- the bytes of a TLV: type, length, value
abbrev pub tlv_bytes : ℕ → ℕ → List ℕ → List ℕ
tlv_bytes kind size bytes = be 2 kind ++ (be 2 size ++ bytes)

-- it can be written from a view of a buffer of this length: type and length fit two bytes, and the view has that length and lies
-- inside the buffer
unfoldable pub tlv_fits : ℕ → ℕ → View → ℕ → Bool
tlv_fits kind size v buffer_length =
    pick (ltb kind (256 ^ 2)) (pick (ltb size (256 ^ 2)) (pick (eqb v.length size) (inside buffer_length v) false) false) false
