-- Which TLVs are writable, and the bytes of one. Nothing here takes an input apart.
use Rattle.std.specs.Prelude.{ℕ, Bool, true, false, List, ltb, eqb}
use Rattle.wire.specs.Bytes.{pick, be}
use Rattle.wire.specs.View.{viewed}
use Rattle.writing.specs.Write.{tlv_bytes, tlv_fits}
use Rattle.tlv_table.specs.declared.TlvValue.{TlvValue}
use Rattle.tlv_table.specs.declared.TlvValue.TheVariants.{Part, Number}
use Rattle.tlv_table.specs.declared.TlvEntry.{TlvEntry}

-- ---- an entry is writable, by the buffer's length: a part that can be written from its view, a number of length 2
abbrev pub value_writable : ℕ → ℕ → ℕ → TlvValue → Bool
value_writable buffer_length kind size (Part v) = tlv_fits kind size v buffer_length
value_writable buffer_length kind size (Number n) = eqb size 2

unfoldable pub entry_writable : ℕ → TlvEntry → Bool
entry_writable buffer_length t = value_writable buffer_length t.kind t.size t.value

-- ---- and with this many entries after it, for a walk that goes on while more than 4 bytes are left: not a last one of length 0,
-- which the reader would take for a tail
unfoldable pub entry_writable_before : ℕ → ℕ → TlvEntry → Bool
entry_writable_before buffer_length after t = pick (entry_writable buffer_length t) (pick (ltb 0 t.size) true (ltb 0 after)) false

-- ---- the bytes of an entry whose view points into a buffer
abbrev pub value_bytes : List ℕ → TlvValue → List ℕ
value_bytes b (Part v) = viewed b v
value_bytes b (Number n) = be 2 n

abbrev pub one_tlv : List ℕ → TlvEntry → List ℕ
one_tlv b t = tlv_bytes t.kind t.size (value_bytes b t.value)
