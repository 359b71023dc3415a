-- What the writer writes: the reading of a record, by the grammar's own parts; which records are writable; when two are the same.
use Rattle.std.specs.Prelude.{ℕ, ◌+◌, ◌<◌, ◌≡◌, Bool, false, List, [], take, get_or, ltb, Ok, Err}
use Rattle.wire.specs.Bytes.{pick}
use Rattle.wire.specs.View.{viewed}
use Rattle.wire.specs.Tlv.{Tlv, put_tlv, short}
use Rattle.writing.specs.Table.{Writer, parts, all_ok}
use Rattle.tlv_table.specs.Tlvs.{entry_writable_before}
use Rattle.tlv_table.specs.declared.TlvValue.TheVariants.{Part}
use Rattle.tlv_table.specs.declared.TlvEntry.{TlvEntry}
use Rattle.initiation_message.specs.Grammar.{Reading, join, places}
use Rattle.initiation_message.specs.Shown.{ReadInitiation, info_of, zero_tlv}
use Rattle.initiation_message.specs.declared.InitiationTlv.{InitiationTlv}
use Rattle.initiation_message.specs.declared.InitiationMessage.{InitiationMessage}

-- ---- the reading of a record whose views point into a buffer
abbrev pub value_of : List ℕ → InitiationTlv → List ℕ
value_of b t = viewed b (info_of t)

abbrev pub part_of : List ℕ → InitiationTlv → Tlv
part_of b t = record { kind = t.kind; size = t.info_len; value = value_of b t }

-- ---- the TLV that is written for an entry
abbrev pub entry_of : InitiationTlv → TlvEntry
entry_of t = record { kind = t.kind; size = t.info_len; value = Part (info_of t) }

-- ---- a TLV is writable, by the buffer's length and the number of TLVs after it: it can be written from its view, and it is not a
-- last one of length 0, which the reader would take for a tail
abbrev pub tlv_writable : ℕ → ℕ → InitiationTlv → Bool
tlv_writable room after t = entry_writable_before room after (entry_of t)

abbrev pub writer : Writer
writer =
    record {
      Entry = InitiationTlv;
      Item = Tlv;
      part = part_of;
      put = put_tlv;
      ok = tlv_writable;
      size = λ t. 4 + t.info_len;
    }

-- ---- the whole record: its entries below the count, and no tail
abbrev pub kept : InitiationMessage → List InitiationTlv
kept m = take m.count m.tlvs

abbrev pub reading_of : InitiationMessage → List ℕ → Reading
reading_of m b = record { tlvs = parts writer b (kept m); tail = short [] }

abbrev pub bytes_of : InitiationMessage → List ℕ → List ℕ
bytes_of m b = join (reading_of m b)

abbrev pub writable : InitiationMessage → ℕ → Bool
writable m room = pick (ltb places m.count) false (all_ok writer room (kept m))

-- ---- two records are the same: their numbers below the count, and the bytes that their views show, each in its own buffer
pub record SameTlv (t : InitiationTlv) (b : List ℕ) (u : InitiationTlv) (s : List ℕ) : Type 0 where
  pub kind_same : t.kind ≡ u.kind
  pub len_same : t.info_len ≡ u.info_len
  pub bytes_same : viewed b (info_of t) ≡ viewed s (info_of u)

pub record Same (m : InitiationMessage) (b : List ℕ) (n : InitiationMessage) (s : List ℕ) : Type 0 where
  pub count_same : m.count ≡ n.count
  pub tlv_same : (i : ℕ) → i < m.count → SameTlv (get_or m.tlvs i zero_tlv) b (get_or n.tlvs i zero_tlv) s

-- what a reader answers shows the same record
abbrev pub SameRead : InitiationMessage → List ℕ → ReadInitiation → List ℕ → Type 0
SameRead m b (Ok a) s = Same m b a.message s
SameRead m b (Err r) s = ⊥
