-- A record that was written and is read again. Assumes nothing.
use mathlib.Core.Path.{◌≡◌, refl, sym, ap, ◌∙◌, subst}
use mathlib.Core.Bool.{true}
use mathlib.Core.List.{List}
use Prim.Native.Nat.{ℕ, zero, suc, ◌+◌, ◌≤◌}
use native.Mathlib.Omega.{arith}
use lib.ListN.{length}
use lib.Seq.{length-take-le}
use Rattle.wire.specs.Number as Number
use Rattle.wire.specs.Bytes.{Bytes, none}
use Rattle.wire.specs.Parts.{AllAt}
use Rattle.writing.specs.Table.{all_ok}
use Rattle.writing.proofs.Table.{all_good, length_parts, length_joined, Kept}
use Rattle.writing.proofs.Trip.{table_same, end_sizes}
use Rattle.tlv_table.proofs.Table.{bodied}
use Rattle.tlv_table.proofs.Written.{part_good}
use Rattle.route_mirroring.specs.Grammar.{ReadTlv, Good, places, size_of}
use Rattle.route_mirroring.specs.Shown.{ReadMirroring, refusal_of, stop_of, code_of, value_of, zero_tlv, entry, shown}
use Rattle.route_mirroring.specs.Read.{read_mirroring}
use Rattle.route_mirroring_writer.specs.Write.{value_part, part_of, writer, kept, reading_of, bytes_of, SameTlv, SameRead}
use Rattle.route_mirroring.specs.declared.RouteMirroringInfo.{RouteMirroringInfo}
use Rattle.route_mirroring.specs.declared.RouteMirroringInfo.TheVariants.{ErroredPdu, MessageLost}
use Rattle.route_mirroring.specs.declared.RouteMirroringValue.{RouteMirroringValue}
use Rattle.route_mirroring.specs.declared.RouteMirroringValue.TheVariants.{BgpMessage, Information}
use Rattle.route_mirroring.specs.declared.RouteMirroring.{RouteMirroring}
use Rattle.route_mirroring_writer.specs.Entries.{entries}
use Rattle.route_mirroring_writer.proofs.Written.{Known, FineValue, fine_of}
use Rattle.route_mirroring.proofs.Shows.{ViewAt, code_told}

info_known : (i : RouteMirroringInfo) → code_of i ≤ 1
unfolding code_of
info_known ErroredPdu = omega arith
info_known MessageLost = omega arith

read_value : (b : List ℕ) → Bytes b → (size : ℕ) (x : RouteMirroringValue) (r : List ℕ) → FineValue (length b) size x → ReadTlv (value_part b size x) r
read_value b p size (BgpMessage v) r f = record { well_formed = part_good 0 size v b f.fits p; has-header = f.has-header }
read_value b p size (Information i) r f = record { size_fits = omega (arith, f); known = info_known i }

pub good_of : (m : RouteMirroring) (b : List ℕ) → Bytes b → all_ok writer (length b) (kept m) ≡ true → Good (reading_of m b)
good_of m b p e =
    record {
      each = all_good writer ReadTlv b (λ t l o w. read_value b p t.info_len (value_of t) _ (fine_of (length b) t o).fine_value) (kept m) e;
      tail_good = (omega arith, none);
    }

-- an entry is shown as it was
same_tlv : (b s : List ℕ) (at kind size number : ℕ) → Known kind number
    → ViewAt s at (part_of b (record { kind = kind; info_len = size; number = number }))
    → SameTlv (record { kind = kind; info_len = size; number = number }) b (entry at (part_of b (record { kind = kind; info_len = size; number = number }))) s
same_tlv b s at zero size number h e = record { kind_same = refl; len_same = refl; value_same = sym e; code_same = λ z. absurd (omega arith) }
same_tlv b s at (suc zero) size number h e =
    record { kind_same = refl; len_same = refl; value_same = sym e; code_same = λ z. sym (code_told number (h.code_known z)) }
same_tlv b s at (suc (suc k)) size number h e = absurd (omega (arith, h.kind_known))

size_value : (b : List ℕ) (size : ℕ) (x : RouteMirroringValue) → FineValue (length b) size x → size_of (value_part b size x) ≡ 4 + size
size_value b size (BgpMessage v) f = refl
size_value b size (Information i) f = omega (arith, f)

-- the bytes s are read as the record m, whose views point into b, to their end
pub record ReadsBack (m : RouteMirroring) (b s : List ℕ) : Type 0 where
  pub read_good : (refusal_of (read_mirroring s)).number ≡ Number.Good
  pub whole : stop_of (read_mirroring s) ≡ length s
  pub same : SameRead m b (read_mirroring s) s

pub reads_back : (m : RouteMirroring) (b : List ℕ) → length m.tlvs ≡ places → Kept writer places m.count m.tlvs (length b)
    → read_mirroring (bytes_of m b) ≡ shown (reading_of m b) → AllAt size_of (ViewAt (bytes_of m b)) 0 (reading_of m b).tlvs
    → ReadsBack m b (bytes_of m b)
reads_back m b long x a v =
    let s = bytes_of m b in
    let few : m.count ≤ length m.tlvs = omega (arith, long, x.few) in
    record {
      read_good = ap (λ (y : ReadMirroring). (refusal_of y).number) a;
      whole = ap stop_of a
          ∙ end_sizes writer size_of entry (ViewAt s) b (λ n t o. size_value b t.info_len (value_of t) (fine_of (length b) t o).fine_value) (kept m) 0 x.fine
          ∙ omega (arith, length_joined writer (bodied entries) b (kept m) x.fine);
      same = subst (λ (y : ReadMirroring). SameRead m b y s) (sym a) (record {
        count_same = sym (length_parts writer b (kept m) ∙ length-take-le m.count m.tlvs few);
        tlv_same = table_same writer size_of entry (ViewAt s) b (λ t u. SameTlv t b u s) zero_tlv
            (λ n at t o e. same_tlv b s at t.kind t.info_len t.number (fine_of (length b) t o).is_known e) _ m.tlvs m.count 0 few x.fine v;
      });
    }
