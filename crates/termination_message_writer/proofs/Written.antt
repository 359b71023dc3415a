-- What the writing kit asks of a Termination body. Assumes nothing.
use mathlib.Core.Path.{◌≡◌, refl, ◌∙◌}
use mathlib.Core.Bool.{Bool, true, false}
use mathlib.Core.List.{List}
use Prim.Native.Nat.{ℕ, ◌+◌, ◌%◌, ◌≤◌}
use native.Mathlib.Omega.{arith}
use borrow.Author.Tests.{le-leb, le-ltb, eq-eqb, ne_eqb, eqb-true, eqb-false}
use lib.Dec.{eqb}
use lib.ListN.{length}
use Rattle.wire.specs.Bytes.{pick}
use Rattle.wire.specs.View.{viewed}
use Rattle.wire.proofs.Tlv.{put_tlv_long, coded_length}
use Rattle.writing.specs.Write.{WriteAnswer, Wrote}
use Rattle.writing.specs.Table.{sizes}
use Rattle.writing.proofs.Table.{kept_of, length_joined}
use Rattle.tlv_table.specs.Tlvs.{entry_writable_before}
use Rattle.tlv_table.specs.declared.TlvValue.TheVariants.{Part, Number}
use Rattle.tlv_table.specs.declared.TlvEntry.{TlvEntry}
use Rattle.table_writer.specs.Writer.{table_answer, table_written}
use Rattle.table_writer.proofs.Behind.{whole_table}
use Rattle.tlv_table.proofs.Table.{bodied}
use Rattle.tlv_table.proofs.Written.{Before, before_of, before_from}
use Rattle.termination_message.specs.Grammar.{Tlv, string, reason, put, places}
use Rattle.termination_message.specs.Shown.{text_of}
use Rattle.termination_message_writer.specs.Write.{part_of, reason_writable, tlv_writable, writer, kept, bytes_of, writable}
use Rattle.termination_message.specs.declared.TerminationTlv.{TerminationTlv}
use Rattle.termination_message.specs.declared.TerminationMessage.{TerminationMessage}
use Rattle.termination_message_writer.specs.Entries.{entries}
use Rattle.termination_message_writer.proofs.Unwritable.{reason-writable}

-- ---- the item of an entry
pub part_text : (b : List ℕ) (t : TerminationTlv) → t.kind ≡ 0 → part_of b t ≡ string t.info_len (viewed b (text_of t))
part_text b t k = rw (eq-eqb t.kind 0 k)

pub part_code : (b : List ℕ) (t : TerminationTlv) → (t.kind ≡ 0 → ⊥) → part_of b t ≡ reason t.info_len t.number
part_code b t k = rw (ne_eqb t.kind 0 k)

-- ---- what `tlv_writable` asks
abbrev pub text_entry : TerminationTlv → TlvEntry
text_entry t = record { kind = 0; size = t.info_len; value = Part (text_of t) }

pub data Fine (room after : ℕ) (t : TerminationTlv) : Type 0 where
  a_text : t.kind ≡ 0 → Before room after (text_entry t) → Fine room after t
  a_code : t.kind ≡ 1 → t.info_len ≡ 2 → t.number ≤ 4 → Fine room after t

pub fine_of : (room after : ℕ) (t : TerminationTlv) → tlv_writable room after t ≡ true → Fine room after t
unfolding tlv_writable
fine_of room after t e = go (eqb t.kind 0) refl e
  where
    go : (a : Bool) → eqb t.kind 0 ≡ a
        → pick a (entry_writable_before room after (record { kind = pick a 0 1; size = t.info_len; value = pick a (Part (text_of t)) (Number (t.number % 65536)) })) (reason_writable t) ≡ true
        → Fine room after t
    go true h q = a_text (eqb-true t.kind 0 h) (before_of room after (text_entry t) q)
    go false h q =
        let some = eqb-false t.kind 0 h in
        let w = reason-writable t q in
        a_code (omega (arith, some, w.0)) w.1 w.2

pub fine_from : (room after : ℕ) (t : TerminationTlv) → Fine room after t → tlv_writable room after t ≡ true
unfolding tlv_writable
fine_from room after t (a_text k f) = rw (eq-eqb t.kind 0 k) (before_from room after (text_entry t) f)
fine_from room after t (a_code k s v) =
    rw (ne_eqb t.kind 0 (λ z. omega arith), le-ltb 1 t.kind (omega arith), eq-eqb t.info_len 2 s) (le-leb t.number 4 v)

-- ---- how long an item is
abbrev pub long : Tlv → ℕ
long (string size value) = 4 + length value
long (reason size code) = 6

pub put_long : (t : Tlv) (r : List ℕ) → length (put t r) ≡ long t + length r
put_long (string size value) r = put_tlv_long (record { kind = 0; size = size; value = value }) r
put_long (reason size code) r = coded_length 1 size code r

-- ---- how many bytes a writable record takes
pub bytes_long : (m : TerminationMessage) (b : List ℕ) → writable m (length b) ≡ true → length (bytes_of m b) ≡ 0 + sizes writer (kept m)
bytes_long m b e = length_joined writer (bodied entries) b (kept m) (kept_of writer places m.count m.tlvs (length b) e).fine ∙ omega arith

-- ---- the table is the whole record
pub whole_written : (m : TerminationMessage) (b out o : List ℕ) (a : WriteAnswer) → m.count ≤ places
    → a ≡ table_answer writer 0 (kept m) b out → o ≡ table_written writer 0 (kept m) b out → Wrote (writable m (length b)) (bytes_of m b) out a o
whole_written m = whole_table (bodied entries) places m.count m.tlvs
