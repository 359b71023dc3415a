-- What a user of this crate relies on: what it answers and leaves is determined. Assumes nothing.
use mathlib.Core.Path.{◌≡◌, refl}
use mathlib.Core.Bool.{true}
use mathlib.Core.List.{List}
use Prim.Native.Nat.{ℕ, ◌+◌, ◌≤◌}
use borrow.Author.Tests.{le-leb}
use lib.ListN.{length}
use lib.Seq.{sets}
use Rattle.wire.proofs.Determined.{determined}
use Rattle.writing.specs.Write.{WriteAnswer, write_answer}
use Rattle.writing.specs.Table.{Writer, joined, all_ok, sizes}
use Rattle.table_writer.specs.Writer.{table_answer, table_written, all_put}

-- Two answers, and two outputs, of write for the same kind of table, bytes in front, entries, buffer and output are equal.
pub write_determined : (W : Writer) (front : ℕ) (entries : List W.Entry) (b out : List ℕ) (r q : WriteAnswer) (o p : List ℕ)
    → r ≡ table_answer W front entries b out → q ≡ table_answer W front entries b out
    → o ≡ table_written W front entries b out → p ≡ table_written W front entries b out → (r ≡ q) × (o ≡ p)
write_determined W front entries b out r q o p d e f g = (determined d e, determined f g)

-- Two results of answer for the same kind of table, bytes in front, entries, length of the buffer and room are equal.
pub answer_determined : (W : Writer) (front : ℕ) (entries : List W.Entry) (buffer_length room : ℕ) (r q : WriteAnswer)
    → r ≡ write_answer (all_ok W buffer_length entries) (front + sizes W entries) room
    → q ≡ write_answer (all_ok W buffer_length entries) (front + sizes W entries) room → r ≡ q
answer_determined W front entries buffer_length room r q = determined

-- Two outputs that put_all may leave are equal.
pub put_all_determined : (W : Writer) (out : List ℕ) (from : ℕ) (entries : List W.Entry) (b out' out'' : List ℕ)
    → out' ≡ all_put W from entries b out → out'' ≡ all_put W from entries b out → out' ≡ out''
put_all_determined W out from entries b out' out'' = determined

-- Where each entry can be written and all of them fit, put_all leaves their bytes, one behind the other.
pub put_all_puts : (W : Writer) (out : List ℕ) (from : ℕ) (entries : List W.Entry) (b : List ℕ)
    → all_ok W (length b) entries ≡ true → from + sizes W entries ≤ length out → all_put W from entries b out ≡ sets out from (joined W b entries)
put_all_puts W out from entries b ok room = rw (ok, le-leb (from + sizes W entries) (length out) room) refl
