-- What the writer writes: the reading of a record, by the grammar's own parts; which records are writable; when two are the same.
use Rattle.std.specs.Prelude.{ℕ, ◌+◌, ◌%◌, ◌<◌, ◌≡◌, Bool, false, List, [], take, get_or, leb, ltb, eqb, Ok, Err}
use Rattle.wire.specs.Bytes.{pick}
use Rattle.wire.specs.View.{viewed}
use Rattle.wire.specs.Tlv.{short}
use Rattle.writing.specs.Table.{Writer, parts, all_ok}
use Rattle.tlv_table.specs.Tlvs.{entry_writable_before}
use Rattle.tlv_table.specs.declared.TlvValue.TheVariants.{Part, Number}
use Rattle.tlv_table.specs.declared.TlvEntry.{TlvEntry}
use Rattle.termination_message.specs.Grammar.{Tlv, string, reason, put, Reading, join, places}
use Rattle.termination_message.specs.Shown.{ReadTermination, text_of, zero_tlv}
use Rattle.termination_message.specs.declared.TerminationTlv.{TerminationTlv}
use Rattle.termination_message.specs.declared.TerminationMessage.{TerminationMessage}

-- ---- the reading of a record whose views point into a buffer: type 0 is a String, every other a Reason
abbrev pub part_of : List ℕ → TerminationTlv → Tlv
part_of b t = pick (eqb t.kind 0) (string t.info_len (viewed b (text_of t))) (reason t.info_len t.number)

-- ---- the TLV that is written for an entry
abbrev pub entry_of : TerminationTlv → TlvEntry
entry_of t =
    record {
      kind = pick (eqb t.kind 0) 0 1;
      size = t.info_len;
      value = pick (eqb t.kind 0) (Part (text_of t)) (Number (t.number % 65536));
    }

-- ---- a TLV is writable, by the buffer's length and the number of TLVs after it. Not writable, and refused with 12 (BadField):
--
--     a type above 1
--     a String whose view is not all inside the buffer, or that is the last TLV and has length 0, which the reader would take for a tail
--     a Reason whose length is not 2
--     a Reason whose code is above 4
--
-- nor is a record of more than 32 TLVs
abbrev pub reason_writable : TerminationTlv → Bool
reason_writable t = pick (ltb 1 t.kind) false (pick (eqb t.info_len 2) (leb t.number 4) false)

unfoldable pub tlv_writable : ℕ → ℕ → TerminationTlv → Bool
tlv_writable room after t = pick (eqb t.kind 0) (entry_writable_before room after (entry_of t)) (reason_writable t)

abbrev pub writer : Writer
writer =
    record {
      Entry = TerminationTlv;
      Item = Tlv;
      part = part_of;
      put = put;
      ok = tlv_writable;
      size = λ t. 4 + t.info_len;
    }

-- ---- the whole record: its entries below the count, and no tail
abbrev pub kept : TerminationMessage → List TerminationTlv
kept m = take m.count m.tlvs

abbrev pub reading_of : TerminationMessage → List ℕ → Reading
reading_of m b = record { tlvs = parts writer b (kept m); tail = short [] }

abbrev pub bytes_of : TerminationMessage → List ℕ → List ℕ
bytes_of m b = join (reading_of m b)

abbrev pub writable : TerminationMessage → ℕ → Bool
writable m room = pick (ltb places m.count) false (all_ok writer room (kept m))

-- ---- two records are the same: their numbers below the count, and the bytes that their views show, each in its own buffer
pub record SameTlv (t : TerminationTlv) (b : List ℕ) (u : TerminationTlv) (s : List ℕ) : Type 0 where
  pub kind_same : t.kind ≡ u.kind
  pub len_same : t.info_len ≡ u.info_len
  pub text_same : t.kind ≡ 0 → viewed b (text_of t) ≡ viewed s (text_of u)
  pub code_same : 0 < t.kind → t.number ≡ u.number

pub record Same (m : TerminationMessage) (b : List ℕ) (n : TerminationMessage) (s : List ℕ) : Type 0 where
  pub count_same : m.count ≡ n.count
  pub tlv_same : (i : ℕ) → i < m.count → SameTlv (get_or m.tlvs i zero_tlv) b (get_or n.tlvs i zero_tlv) s

-- what a reader answers shows the same record
abbrev pub SameRead : TerminationMessage → List ℕ → ReadTermination → List ℕ → Type 0
SameRead m b (Ok a) s = Same m b a.message s
SameRead m b (Err r) s = ⊥
