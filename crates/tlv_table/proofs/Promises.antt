-- What a user of this crate relies on: what it answers and leaves is determined. Assumes nothing.
use mathlib.Core.Path.{◌≡◌}
use mathlib.Core.Bool.{Bool}
use mathlib.Core.List.{List}
use Prim.Native.Nat.{ℕ, ◌+◌}
use Rattle.wire.proofs.Determined.{determined}
use Rattle.writing.specs.Write.{put_at}
use Rattle.tlv_table.specs.Tlvs.{entry_writable, entry_writable_before, one_tlv}
use Rattle.tlv_table.specs.declared.TlvEntry.{TlvEntry}

-- Two answers of entry_writable for the same entry and length of the buffer are equal.
pub entry_writable_determined : (buffer_length : ℕ) (t : TlvEntry) (r q : Bool) → r ≡ entry_writable buffer_length t → q ≡ entry_writable buffer_length t → r ≡ q
entry_writable_determined buffer_length t r q = determined

-- Two answers of entry_writable_before for the same entry, length of the buffer and number of entries after it are equal.
pub entry_writable_before_determined : (buffer_length after : ℕ) (t : TlvEntry) (r q : Bool)
    → r ≡ entry_writable_before buffer_length after t → q ≡ entry_writable_before buffer_length after t → r ≡ q
entry_writable_before_determined buffer_length after t r q = determined

-- Two answers of tlv_length for the same entry are equal.
pub tlv_length_determined : (t : TlvEntry) (r q : ℕ) → r ≡ 4 + t.size → q ≡ 4 + t.size → r ≡ q
tlv_length_determined t r q = determined

-- Two outputs that put_entry may leave are equal.
pub put_entry_determined : (out : List ℕ) (at : ℕ) (t : TlvEntry) (b out' out'' : List ℕ) → out' ≡ put_at out at (one_tlv b t) → out'' ≡ put_at out at (one_tlv b t) → out' ≡ out''
put_entry_determined out at t b out' out'' = determined
