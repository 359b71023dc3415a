-- The table is the whole record. Assumes nothing.
use mathlib.Core.Path.{◌≡◌, ◌∙◌}
use mathlib.Core.Bool.{true}
use mathlib.Core.List.{List}
use Prim.Native.Nat.{ℕ, ◌+◌, ◌≤◌}
use native.Mathlib.Omega.{arith}
use lib.ListN.{length}
use Rattle.writing.specs.Write.{WriteAnswer, Wrote}
use Rattle.writing.specs.Table.{sizes}
use Rattle.writing.proofs.Table.{kept_of, length_joined}
use Rattle.table_writer.specs.Writer.{table_answer, table_written}
use Rattle.table_writer.proofs.Behind.{whole_table}
use Rattle.tlv_table.proofs.Table.{bodied}
use Rattle.initiation_message.specs.Grammar.{places}
use Rattle.initiation_message_writer.specs.Write.{writer, kept, bytes_of, writable}
use Rattle.initiation_message_writer.specs.Entries.{entries}
use Rattle.initiation_message.specs.declared.InitiationMessage.{InitiationMessage}

-- how many bytes a writable record takes
pub bytes_long : (m : InitiationMessage) (b : List ℕ) → writable m (length b) ≡ true → length (bytes_of m b) ≡ 0 + sizes writer (kept m)
bytes_long m b e = length_joined writer (bodied entries) b (kept m) (kept_of writer places m.count m.tlvs (length b) e).fine ∙ omega arith

pub whole_written : (m : InitiationMessage) (b out o : List ℕ) (a : WriteAnswer) → m.count ≤ places
    → a ≡ table_answer writer 0 (kept m) b out → o ≡ table_written writer 0 (kept m) b out → Wrote (writable m (length b)) (bytes_of m b) out a o
whole_written m = whole_table (bodied entries) places m.count m.tlvs
