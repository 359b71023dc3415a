-- What the writing kit asks of a Route Mirroring body. Assumes nothing.
use mathlib.Core.Path.{◌≡◌, refl, ◌∙◌}
use mathlib.Core.Bool.{Bool, true, false}
use mathlib.Core.List.{List}
use Prim.Native.Nat.{ℕ, zero, suc, ◌+◌, ◌≤◌, ◌<◌}
use native.Mathlib.Omega.{arith}
use borrow.Author.Tests.{leb-true, le-leb, eqb-true, eq-eqb}
use lib.Dec.{leb, eqb}
use lib.ListN.{length, length-append}
use Rattle.wire.specs.Bytes.{pick, be}
use Rattle.wire.specs.declared.View.{View}
use Rattle.writing.proofs.Tests.{both}
use Rattle.writing.specs.Write.{WriteAnswer, Wrote}
use Rattle.writing.specs.Table.{sizes}
use Rattle.writing.proofs.Table.{kept_of, length_joined}
use Rattle.tlv_table.specs.Tlvs.{entry_writable}
use Rattle.tlv_table.specs.declared.TlvValue.TheVariants.{Part}
use Rattle.table_writer.specs.Writer.{table_answer, table_written}
use Rattle.table_writer.proofs.Behind.{whole_table}
use Rattle.tlv_table.proofs.Table.{bodied}
use Rattle.route_mirroring.specs.Grammar.{Tlv, bgp_message, information, put, places}
use Rattle.route_mirroring.specs.Shown.{value_of}
use Rattle.route_mirroring_writer.specs.Write.{known, headed_writable, tlv_writable, writer, value_entry, entry_of, kept, bytes_of, writable}
use Rattle.route_mirroring.specs.declared.RouteMirroringValue.{RouteMirroringValue}
use Rattle.route_mirroring.specs.declared.RouteMirroringValue.TheVariants.{BgpMessage, Information}
use Rattle.route_mirroring.specs.declared.RouteMirroringTlv.{RouteMirroringTlv}
use Rattle.route_mirroring.specs.declared.RouteMirroring.{RouteMirroring}
use Rattle.route_mirroring_writer.specs.Entries.{entries}

-- ---- what `tlv_writable` asks: a type and a code that the reader shows, and a value that fits
pub record Known (kind number : ℕ) : Type 0 where
  pub kind_known : kind ≤ 1
  pub code_known : 0 < kind → number ≤ 1

pub record FineMessage (room size : ℕ) (v : View) : Type 0 where
  pub fits : entry_writable room (record { kind = 0; size = size; value = Part v }) ≡ true
  pub has-header : 19 ≤ size

abbrev pub FineValue : ℕ → ℕ → RouteMirroringValue → Type 0
FineValue room size (BgpMessage v) = FineMessage room size v
FineValue room size (Information i) = size ≡ 2

pub record Fine (room : ℕ) (t : RouteMirroringTlv) : Type 0 where
  pub is_known : Known t.kind t.number
  pub fine_value : FineValue room t.info_len (value_of t)

known_of : (kind size number : ℕ) → known (record { kind = kind; info_len = size; number = number }) ≡ true → Known kind number
known_of kind size number e = go (eqb kind 0) refl e
  where
    go : (a : Bool) → eqb kind 0 ≡ a → pick a true (pick (eqb kind 1) (leb number 1) false) ≡ true → Known kind number
    go true h q =
        let k = eqb-true kind 0 h in
        record { kind_known = omega arith; code_known = λ h. absurd (omega arith) }
    go false h q =
        let x = both (eqb kind 1) (leb number 1) q in
        let k = eqb-true kind 1 x.0 in
        record { kind_known = omega arith; code_known = λ h. leb-true number 1 x.1 }

known_from : (kind size number : ℕ) → Known kind number → known (record { kind = kind; info_len = size; number = number }) ≡ true
known_from zero size number h = refl
known_from (suc zero) size number h = le-leb number 1 (h.code_known (omega arith))
known_from (suc (suc k)) size number h = absurd (omega (arith, h.kind_known))

value-of : (room size : ℕ) (x : RouteMirroringValue) → headed_writable room (value_entry size x) ≡ true → FineValue room size x
unfolding entry_writable
value-of room size (BgpMessage v) e =
    let h = both (leb 19 size) _ e in
    record { fits = h.1; has-header = leb-true 19 size h.0 }
value-of room size (Information i) e = eqb-true size 2 e

value_from : (room size : ℕ) (x : RouteMirroringValue) → FineValue room size x → headed_writable room (value_entry size x) ≡ true
unfolding entry_writable
value_from room size (BgpMessage v) f = rw (le-leb 19 size f.has-header) f.fits
value_from room size (Information i) f = eq-eqb size 2 f

both_of : (room : ℕ) (t : RouteMirroringTlv) → tlv_writable room t ≡ true → (known t ≡ true) × (headed_writable room (entry_of t) ≡ true)
unfolding tlv_writable
both_of room t e = both (known t) (headed_writable room (entry_of t)) e

pub fine_of : (room : ℕ) (t : RouteMirroringTlv) → tlv_writable room t ≡ true → Fine room t
fine_of room t e =
    let h = both_of room t e in
    record { is_known = known_of t.kind t.info_len t.number h.0; fine_value = value-of room t.info_len (value_of t) h.1 }

pub fine_from : (room : ℕ) (t : RouteMirroringTlv) → Fine room t → tlv_writable room t ≡ true
unfolding tlv_writable
fine_from room t f =
    rw (known_from t.kind t.info_len t.number f.is_known) (value_from room t.info_len (value_of t) f.fine_value)

-- ---- how long an item is
abbrev pub long_of : Tlv → ℕ
long_of (bgp_message size value) = 4 + length value
long_of (information size code) = 6

pub put_long : (t : Tlv) (r : List ℕ) → length (put t r) ≡ long_of t + length r
unfolding be
put_long (bgp_message size value) r = omega (arith, length-append value r)
put_long (information size code) r = omega arith

-- ---- how many bytes a writable record takes
pub bytes_long : (m : RouteMirroring) (b : List ℕ) → writable m (length b) ≡ true → length (bytes_of m b) ≡ 0 + sizes writer (kept m)
bytes_long m b e = length_joined writer (bodied entries) b (kept m) (kept_of writer places m.count m.tlvs (length b) e).fine ∙ omega arith

-- ---- the table is the whole record
pub whole_written : (m : RouteMirroring) (b out o : List ℕ) (a : WriteAnswer) → m.count ≤ places
    → a ≡ table_answer writer 0 (kept m) b out → o ≡ table_written writer 0 (kept m) b out → Wrote (writable m (length b)) (bytes_of m b) out a o
whole_written m = whole_table (bodied entries) places m.count m.tlvs
