-- A record that was written and is read again. Assumes nothing.
use mathlib.Core.Path.{◌≡◌, refl, sym, ap, ◌∙◌, subst}
use mathlib.Core.Bool.{true}
use mathlib.Core.List.{List}
use Prim.Native.Nat.{ℕ, ◌≤◌}
use native.Mathlib.Omega.{arith}
use lib.ListN.{length}
use lib.Seq.{length-take-le}
use Rattle.wire.specs.Number as Number
use Rattle.wire.specs.Bytes.{Bytes, none}
use Rattle.wire.specs.Parts.{AllAt}
use Rattle.wire.specs.Tlv.{size_of}
use Rattle.wire.proofs.Tlv.{tlv_length}
use Rattle.writing.specs.Table.{joined, all_ok}
use Rattle.writing.proofs.Table.{length_joined, all_good, length_parts, length_sizes, Kept}
use Rattle.writing.proofs.Trip.{table_same, end_sizes}
use Rattle.tlv_table.proofs.Table.{bodied}
use Rattle.tlv_table.proofs.Written.{part_good, before_of}
use Rattle.initiation_message.specs.Grammar.{ReadTlv, Good, places}
use Rattle.initiation_message.specs.Shown.{ReadInitiation, refusal_of, stop_of, zero_tlv, entry, shown}
use Rattle.initiation_message.specs.Read.{read_initiation}
use Rattle.initiation_message_writer.specs.Write.{part_of, tlv_writable, writer, kept, reading_of, bytes_of, entry_of, SameTlv, SameRead}
use Rattle.initiation_message.specs.declared.InitiationTlv.{InitiationTlv}
use Rattle.initiation_message.specs.declared.InitiationMessage.{InitiationMessage}
use Rattle.initiation_message_writer.specs.Entries.{entries}
use Rattle.initiation_message.proofs.Shows.{ViewAt}

read_tlv : (b : List ℕ) → Bytes b → (t : InitiationTlv) (l : List InitiationTlv) → tlv_writable (length b) (length l) t ≡ true → all_ok writer (length b) l ≡ true
    → ReadTlv (part_of b t) (joined writer b l)
read_tlv b p t l e w =
    let f = before_of (length b) (length l) (entry_of t) e in
    let g = part_good _ _ _ b f.alone p in
    record {
      well_formed = g;
      more_than_four = omega (arith, tlv_length (part_of b t) (joined writer b l) g, length_joined writer (bodied entries) b l w, length_sizes writer (λ u. omega arith) l, f.not_last_empty);
    }

pub good_of : (m : InitiationMessage) (b : List ℕ) → Bytes b → all_ok writer (length b) (kept m) ≡ true → Good (reading_of m b)
good_of m b p e = record { each = all_good writer ReadTlv b (read_tlv b p) (kept m) e; tail_good = (omega arith, none) }

same_tlv : (b s : List ℕ) (n at : ℕ) (t : InitiationTlv) → tlv_writable (length b) n t ≡ true → ViewAt s at (part_of b t) → SameTlv t b (entry at (part_of b t)) s
same_tlv b s n at t o v = record { kind_same = refl; len_same = refl; bytes_same = sym v }

-- the bytes s are read as the record m, whose views point into b, to their end
pub record ReadsBack (m : InitiationMessage) (b s : List ℕ) : Type 0 where
  pub read_good : (refusal_of (read_initiation s)).number ≡ Number.Good
  pub whole : stop_of (read_initiation s) ≡ length s
  pub same : SameRead m b (read_initiation s) s

pub reads_back : (m : InitiationMessage) (b : List ℕ) → length m.tlvs ≡ places → Kept writer places m.count m.tlvs (length b)
    → read_initiation (bytes_of m b) ≡ shown (reading_of m b) → AllAt size_of (ViewAt (bytes_of m b)) 0 (reading_of m b).tlvs
    → ReadsBack m b (bytes_of m b)
reads_back m b long x a v =
    let s = bytes_of m b in
    let few : m.count ≤ length m.tlvs = omega (arith, long, x.few) in
    record {
      read_good = ap (λ (y : ReadInitiation). (refusal_of y).number) a;
      whole = ap stop_of a ∙ end_sizes writer size_of entry (ViewAt s) b (λ n t o. refl) (kept m) 0 x.fine
          ∙ omega (arith, length_joined writer (bodied entries) b (kept m) x.fine);
      same = subst (λ (y : ReadInitiation). SameRead m b y s) (sym a) (record {
        count_same = sym (length_parts writer b (kept m) ∙ length-take-le m.count m.tlvs few);
        tlv_same = table_same writer size_of entry (ViewAt s) b (λ t u. SameTlv t b u s) zero_tlv (same_tlv b s) _ m.tlvs m.count 0 few x.fine v;
      });
    }
