-- What the writing kit asks of a body with TLVs, of one TLV. Assumes nothing.
use mathlib.Core.Path.{◌≡◌, refl, sym, ap, ◌∙◌}
use mathlib.Core.Bool.{Bool, true, false}
use mathlib.Core.List.{List}
use Prim.Native.Nat.{ℕ, ◌+◌, ◌≤◌, ◌<◌}
use native.Mathlib.Omega.{arith}
use borrow.Author.Tests.{ltb-true, ltb-false, eqb-true, lt-ltb}
use lib.Dec.{ltb}
use lib.ListN.{length}
use Rattle.wire.specs.Bytes.{pick, Bytes}
use Rattle.wire.specs.View.{viewed}
use Rattle.wire.specs.Tlv.{GoodTlv}
use Rattle.wire.specs.declared.View.{View}
use Rattle.wire.proofs.Bytes.{length_be, bytes_be, bytes_append}
use Rattle.wire.proofs.Views.{bytes_viewed}
use Rattle.writing.proofs.Sets.{length_tlv}
use Rattle.writing.proofs.Tests.{both}
use Rattle.writing.proofs.Tlv.{view_long, fits_of, fits_from, value_long, tlv_good}
use Rattle.tlv_table.specs.Tlvs.{value_writable, entry_writable, entry_writable_before, value_bytes, one_tlv}
use Rattle.tlv_table.specs.declared.TlvValue.{TlvValue}
use Rattle.tlv_table.specs.declared.TlvValue.TheVariants.{Part, Number}
use Rattle.tlv_table.specs.declared.TlvEntry.{TlvEntry}

-- ---- an entry that shows a part of the buffer is writable where its reading is a good TLV and its view lies inside
module _ (kind size : ℕ) (v : View) (b : List ℕ) where
  pub part_good : entry_writable (length b) (record { kind = kind; size = size; value = Part v }) ≡ true → Bytes b
      → GoodTlv (record { kind = kind; size = size; value = viewed b v })
  unfolding entry_writable
  part_good e p = tlv_good kind size v b (fits_of kind size v (length b) e) p

  pub good_part : GoodTlv (record { kind = kind; size = size; value = viewed b v }) → v.place + v.length ≤ length b
      → entry_writable (length b) (record { kind = kind; size = size; value = Part v }) ≡ true
  unfolding entry_writable
  good_part g h =
      fits_from kind size v (length b)
      (record { kind_fits = g.kind_fits; size_fits = g.size_fits; view_is = sym (view_long b v h) ∙ g.size_is; within = h })

-- ---- the bytes of a writable entry are as many as it says
value_as_long : (b : List ℕ) (kind size : ℕ) (x : TlvValue) → value_writable (length b) kind size x ≡ true → length (value_bytes b x) ≡ size
value_as_long b kind size (Part v) e = value_long kind size v b (fits_of kind size v (length b) e)
value_as_long b kind size (Number n) e = length_be 2 n ∙ sym (eqb-true size 2 e)

pub entry_long : (b : List ℕ) (t : TlvEntry) → entry_writable (length b) t ≡ true → length (one_tlv b t) ≡ 4 + t.size
unfolding entry_writable
entry_long b t e =
    length_tlv t.kind t.size (value_bytes b t.value) ∙ ap (λ (n : ℕ). 4 + n) (value_as_long b t.kind t.size t.value e)

-- ---- what it takes to be writable with this many entries after it
pub record Before (buffer_length after : ℕ) (t : TlvEntry) : Type 0 where
  pub alone : entry_writable buffer_length t ≡ true
  pub not_last_empty : 0 < t.size + after

pub before_of : (buffer_length after : ℕ) (t : TlvEntry) → entry_writable_before buffer_length after t ≡ true → Before buffer_length after t
unfolding entry_writable_before
before_of buffer_length after t e =
    let w = both (entry_writable buffer_length t) _ e in
    record { alone = w.0; not_last_empty = go (ltb 0 t.size) refl w.1 }
  where
    go : (a : Bool) → ltb 0 t.size ≡ a → pick a true (ltb 0 after) ≡ true → 0 < t.size + after
    go true h q = let x = ltb-true 0 t.size h in omega arith
    go false h q = let x = ltb-true 0 after q in omega arith

pub before_from : (buffer_length after : ℕ) (t : TlvEntry) → Before buffer_length after t → entry_writable_before buffer_length after t ≡ true
unfolding entry_writable_before
before_from buffer_length after t f = rw f.alone (go (ltb 0 t.size) refl)
  where
    go : (a : Bool) → ltb 0 t.size ≡ a → pick a true (ltb 0 after) ≡ true
    go true h = refl
    go false h = let z = ltb-false 0 t.size h in lt-ltb 0 after (omega (arith, f.not_last_empty))

-- ---- they are bytes
value_is_bytes : (b : List ℕ) → Bytes b → (x : TlvValue) → Bytes (value_bytes b x)
value_is_bytes b p (Part v) = bytes_viewed b v p
value_is_bytes b p (Number n) = bytes_be 2 n

pub entry_bytes : (b : List ℕ) → Bytes b → (t : TlvEntry) → Bytes (one_tlv b t)
entry_bytes b p t = bytes_append (bytes_be 2 t.kind) (bytes_append (bytes_be 2 t.size) (value_is_bytes b p t.value))
