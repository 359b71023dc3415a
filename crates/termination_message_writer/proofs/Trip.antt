-- A record that was written and is read again. Assumes nothing.
use mathlib.Core.Path.{◌≡◌, refl, sym, ap, ◌∙◌, subst}
use mathlib.Core.Bool.{true}
use mathlib.Core.List.{List}
use Prim.Native.Nat.{ℕ, ◌+◌, ◌≤◌}
use native.Mathlib.Omega.{arith}
use lib.ListN.{length}
use lib.Seq.{length-take-le}
use Rattle.wire.specs.Number as Number
use Rattle.wire.specs.Bytes.{Bytes, none}
use Rattle.wire.specs.View.{viewed, view}
use Rattle.wire.specs.Parts.{AllAt}
use Rattle.wire.proofs.Tlv.{tlv_length}
use Rattle.writing.specs.Table.{joined, all_ok}
use Rattle.writing.proofs.Table.{all_good, length_parts, length_sizes, length_joined, Kept}
use Rattle.writing.proofs.Trip.{table_same, end_sizes}
use Rattle.tlv_table.proofs.Table.{bodied}
use Rattle.tlv_table.proofs.Written.{part_good}
use Rattle.termination_message.specs.Grammar.{Tlv, size_of, ReadTlv, Good, places}
use Rattle.termination_message.specs.Shown.{ReadTermination, refusal_of, stop_of, text_of, zero_tlv, entry, shown}
use Rattle.termination_message.specs.Read.{read_termination}
use Rattle.termination_message_writer.specs.Write.{part_of, tlv_writable, writer, kept, reading_of, bytes_of, SameTlv, SameRead}
use Rattle.termination_message.specs.declared.TerminationTlv.{TerminationTlv}
use Rattle.termination_message.specs.declared.TerminationMessage.{TerminationMessage}
use Rattle.termination_message_writer.specs.Entries.{entries}
use Rattle.termination_message_writer.proofs.Written.{part_text, part_code, Fine, a_text, a_code, fine_of}
use Rattle.termination_message.proofs.Shows.{ValueAt}

-- a code's type is no String's
coded : (t : TerminationTlv) → t.kind ≡ 1 → t.kind ≡ 0 → ⊥
coded t k z = omega arith

-- ---- the reading of a writable record is good
read_fine : (b : List ℕ) → Bytes b → (after : ℕ) (t : TerminationTlv) (r : List ℕ) → after ≤ length r → Fine (length b) after t → ReadTlv (part_of b t) r
read_fine b p after t r h (a_text k f) =
    let g = part_good 0 t.info_len (text_of t) b f.alone p in
    subst (λ (x : Tlv). ReadTlv x r) (sym (part_text b t k))
    (record { well_formed = g; more_than_four = omega (arith, tlv_length _ r g, f.not_last_empty, h) })
read_fine b p after t r h (a_code k s v) =
    subst (λ (x : Tlv). ReadTlv x r) (sym (part_code b t (coded t k)))
    (record { size_fits = omega (arith, s); size_within = omega (arith, s); code_known = v })

read_tlv : (b : List ℕ) → Bytes b → (t : TerminationTlv) (l : List TerminationTlv) → tlv_writable (length b) (length l) t ≡ true → all_ok writer (length b) l ≡ true
    → ReadTlv (part_of b t) (joined writer b l)
read_tlv b p t l e w =
    let n = length_sizes writer (λ u. omega arith) l in
    read_fine b p (length l) t (joined writer b l) (omega (arith, n, length_joined writer (bodied entries) b l w)) (fine_of (length b) (length l) t e)

pub good_of : (m : TerminationMessage) (b : List ℕ) → Bytes b → all_ok writer (length b) (kept m) ≡ true → Good (reading_of m b)
good_of m b p e =
    record {
      each = all_good writer ReadTlv b (read_tlv b p) (kept m) e;
      tail_good = record { well_formed = (omega arith, none); type-known = tt };
    }

-- ---- and is shown as the record
same_fine : (b s : List ℕ) (n at : ℕ) (t : TerminationTlv) → Fine (length b) n t → ValueAt s at (part_of b t) → SameTlv t b (entry at (part_of b t)) s
same_fine b s n at t (a_text k f) v =
    let e = part_text b t k in
    let shows : viewed s (view (at + 4) t.info_len) ≡ viewed b (text_of t) = subst (ValueAt s at) e v in
    subst (λ (x : Tlv). SameTlv t b (entry at x) s) (sym e)
    (record { kind_same = k; len_same = refl; text_same = λ z. sym shows; code_same = λ z. absurd (omega arith) })
same_fine b s n at t (a_code k z c) v =
    subst (λ (x : Tlv). SameTlv t b (entry at x) s) (sym (part_code b t (coded t k)))
    (record { kind_same = k; len_same = refl; text_same = λ q. absurd (coded t k q); code_same = λ q. refl })

same_tlv : (b s : List ℕ) (n at : ℕ) (t : TerminationTlv) → tlv_writable (length b) n t ≡ true → ValueAt s at (part_of b t)
    → SameTlv t b (entry at (part_of b t)) s
same_tlv b s n at t o = same_fine b s n at t (fine_of (length b) n t o)

size_same : (b : List ℕ) (n : ℕ) (t : TerminationTlv) → Fine (length b) n t → size_of (part_of b t) ≡ 4 + t.info_len
size_same b n t (a_text k f) = ap size_of (part_text b t k)
size_same b n t (a_code k s v) = ap size_of (part_code b t (coded t k)) ∙ omega (arith, s)

-- the bytes s are read as the record m, whose views point into b, to their end
pub record ReadsBack (m : TerminationMessage) (b s : List ℕ) : Type 0 where
  pub read_good : (refusal_of (read_termination s)).number ≡ Number.Good
  pub whole : stop_of (read_termination s) ≡ length s
  pub same : SameRead m b (read_termination s) s

pub reads_back : (m : TerminationMessage) (b : List ℕ) → length m.tlvs ≡ places → Kept writer places m.count m.tlvs (length b)
    → read_termination (bytes_of m b) ≡ shown (reading_of m b) → AllAt size_of (ValueAt (bytes_of m b)) 0 (reading_of m b).tlvs
    → ReadsBack m b (bytes_of m b)
reads_back m b long x a v =
    let s = bytes_of m b in
    let few : m.count ≤ length m.tlvs = omega (arith, long, x.few) in
    record {
      read_good = ap (λ (y : ReadTermination). (refusal_of y).number) a;
      whole = ap stop_of a
          ∙ end_sizes writer size_of entry (ValueAt s) b (λ n t o. size_same b n t (fine_of (length b) n t o)) (kept m) 0 x.fine
          ∙ omega (arith, length_joined writer (bodied entries) b (kept m) x.fine);
      same = subst (λ (y : ReadTermination). SameRead m b y s) (sym a) (record {
        count_same = sym (length_parts writer b (kept m) ∙ length-take-le m.count m.tlvs few);
        tlv_same = table_same writer size_of entry (ValueAt s) b (λ t u. SameTlv t b u s) zero_tlv (same_tlv b s) _ m.tlvs m.count 0 few x.fine v;
      });
    }
