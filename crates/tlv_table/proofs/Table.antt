-- A writer that puts each entry of its table as a TLV: what table_writer and the kit of writing ask of it. Assumes nothing.
use mathlib.Core.Path.{◌≡◌, ◌∙◌}
use mathlib.Core.Bool.{true}
use mathlib.Core.List.{List, ◌++◌}
use Prim.Native.Nat.{ℕ, ◌+◌}
use lib.ListN.{length}
use Rattle.wire.specs.Bytes.{Bytes}
use Rattle.writing.specs.Table.{Writer, joined, Bodied}
use Rattle.writing.proofs.Table.{bytes_joined}
use Rattle.tlv_table.specs.Tlvs.{entry_writable, one_tlv}
use Rattle.tlv_table.specs.declared.TlvEntry.{TlvEntry}
use Rattle.tlv_table.proofs.Written.{entry_long, entry_bytes}

-- ---- what a body proves: what it puts for an entry of its table, and that this is writable
pub record Entries (W : Writer) (entry_of : W.Entry → TlvEntry) : Type 0 where
  pub put_is : (b : List ℕ) (t : W.Entry) (r : List ℕ) → W.put (W.part b t) r ≡ one_tlv b (entry_of t) ++ r
  pub fine : (buffer_length after : ℕ) (t : W.Entry) → W.ok buffer_length after t ≡ true → entry_writable buffer_length (entry_of t) ≡ true
  pub size_is : (t : W.Entry) → 4 + (entry_of t).size ≡ W.size t

module _ {W : Writer} {entry_of : W.Entry → TlvEntry} (E : Entries W entry_of) where
  pub bodied : Bodied W (λ b t. one_tlv b (entry_of t))
  bodied = record { put_is = E.put_is; length_is = λ b n t e. entry_long b (entry_of t) (E.fine (length b) n t e) ∙ E.size_is t }

  pub all-bytes : (b : List ℕ) → Bytes b → (l : List W.Entry) → Bytes (joined W b l)
  all-bytes b p l = bytes_joined W bodied b (λ t. entry_bytes b p (entry_of t)) l
