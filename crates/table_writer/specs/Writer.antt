-- A kind of table by its parts, and what is answered and left of one that is written.
use Rattle.std.specs.Prelude.{ℕ, ◌+◌, Bool, false, List, length, leb, Ok, Err}
use Rattle.std.proofs.lemmas.List.Edits.{sets}
use Rattle.wire.specs.Bytes.{pick}
use Rattle.writing.specs.Write.{WriteAnswer, write_answer}
use Rattle.writing.specs.Table.{Writer, joined, all_ok, sizes}

abbrev pub writer_of : (E I : Type 0) → (List ℕ → E → I) → (I → List ℕ → List ℕ) → (ℕ → ℕ → E → Bool) → (E → ℕ) → Writer
writer_of E I part put ok size = record { Entry = E; Item = I; part = part; put = put; ok = ok; size = size }

-- the answer to a table behind so many bytes, which it counts too
abbrev pub table_answer : (W : Writer) → ℕ → List W.Entry → List ℕ → List ℕ → WriteAnswer
table_answer W front entries b out = write_answer (all_ok W (length b) entries) (front + sizes W entries) (length out)

-- the output afterwards: as it was where the table is refused, else with the bytes of the entries from there on
abbrev pub after_from : WriteAnswer → ℕ → List ℕ → List ℕ → List ℕ
after_from (Ok n) from s out = sets out from s
after_from (Err r) from s out = out

abbrev pub table_written : (W : Writer) → ℕ → List W.Entry → List ℕ → List ℕ → List ℕ
table_written W front entries b out = after_from (table_answer W front entries b out) front (joined W b entries) out

-- whether each entry can be written, and all of them fit between a place and the end of the room
abbrev pub fits : (W : Writer) → ℕ → List W.Entry → ℕ → ℕ → Bool
fits W from entries buffer_length room = pick (all_ok W buffer_length entries) (leb (from + sizes W entries) room) false

-- the output after entries are put from a place on: with the bytes of all of them, or as it was
abbrev pub all_put : (W : Writer) → ℕ → List W.Entry → List ℕ → List ℕ → List ℕ
all_put W from entries b out = pick (fits W from entries (length b) (length out)) (sets out from (joined W b entries)) out
