-- No record is refused that would be read back as itself, where its views lie inside the buffer and its Reasons have length 2.
-- Assumes nothing.
use mathlib.Core.Path.{◌≡◌, refl, sym, ◌∙◌, subst}
use mathlib.Core.Bool.{Bool, true, false}
use mathlib.Core.List.{List, [], ◌∷◌, ◌++◌}
use Prim.Native.Nat.{ℕ, zero, suc, ◌+◌, ◌-◌, ◌≤◌, ◌<◌}
use native.Mathlib.Omega.{arith}
use borrow.Author.Tests.{le-ltb, eqb-true, eqb-false}
use lib.Dec.{eqb}
use lib.ListN.{length, get_or, replicate}
use Rattle.wire.specs.View.{viewed}
use Rattle.wire.specs.Parts.{shown_from, AllAt}
use Rattle.wire.specs.Tlv.{put_tail}
use Rattle.wire.proofs.Tlv.{put_tlv_long}
use Rattle.wire.specs.Exactly.{Shows}
use Rattle.termination_message.specs.Read.{reader}
use Rattle.writing.specs.Table.{joined}
use Rattle.writing.proofs.Trip.{table_good, table_fine}
use Rattle.tlv_table.proofs.Written.{good_part}
use Rattle.termination_message.specs.Grammar.{Tlv, string, reason, size_of, ReadString, ReadTlv, Reading, join, places}
use Rattle.termination_message.specs.Shown.{ReadTermination, text_of, zero_tlv, entry}
use Rattle.termination_message_writer.specs.Write.{part_of, writer, bytes_of, writable, SameTlv, SameRead}
use Rattle.termination_message.specs.declared.TerminationTlv.{TerminationTlv}
use Rattle.termination_message.specs.declared.TerminationMessage.{TerminationMessage}
use Rattle.termination_message_writer.proofs.Written.{part_text, part_code, Fine, a_text, a_code, fine_from, long, put_long}
use Rattle.termination_message.proofs.Shows.{ValueAt}
use Rattle.termination_message_writer.proofs.Trip.{ReadsBack}

abbrev pub Inside : List ℕ → TerminationTlv → Type 0
Inside b t = t.kind ≡ 0 → t.number + t.info_len ≤ length b

abbrev pub ReasonTwo : TerminationTlv → Type 0
ReasonTwo t = 0 < t.kind → t.info_len ≡ 2

-- what the writer asks of an entry beside a good item
pub record Proper (b : List ℕ) (t : TerminationTlv) : Type 0 where
  pub inside : Inside b t
  pub two : ReasonTwo t
  pub known : t.kind ≤ 1

-- an entry whose item is good is writable
followed : (b : List ℕ) (t : TerminationTlv) (l : List TerminationTlv) → ReadString t.info_len (viewed b (text_of t)) (joined writer b l)
    → 0 < t.info_len + length l
followed b t [] g =
    omega (arith, g.more_than_four, g.well_formed.size_is, put_tlv_long (record { kind = 0; size = t.info_len; value = viewed b (text_of t) }) [])
followed b t (u ∷ l) g = omega arith

fine_entry : (b : List ℕ) (t : TerminationTlv) (l : List TerminationTlv) → ReadTlv (part_of b t) (joined writer b l) → Proper b t
    → Fine (length b) (length l) t
fine_entry b t l g q = go (eqb t.kind 0) refl
  where
    go : (a : Bool) → eqb t.kind 0 ≡ a → Fine (length b) (length l) t
    go true e =
        let k = eqb-true t.kind 0 e in
        let h : ReadString t.info_len (viewed b (text_of t)) (joined writer b l) = subst (λ (x : Tlv). ReadTlv x (joined writer b l)) (part_text b t k) g in
        a_text k (record { alone = good_part 0 t.info_len (text_of t) b h.well_formed (q.inside k); not_last_empty = followed b t l h })
    go false e =
        let k = eqb-false t.kind 0 e in
        let h : ReadTlv (reason t.info_len t.number) (joined writer b l) = subst (λ (x : Tlv). ReadTlv x (joined writer b l)) (part_code b t k) g in
        let some : 0 < t.kind = omega arith in
        a_code (omega (arith, q.known)) (q.two some) h.code_known

-- an item that is shown as an entry is that entry's
one_part : (b s : List ℕ) (at : ℕ) (x : Tlv) (t : TerminationTlv) → ValueAt s at x → SameTlv t b (entry at x) s → x ≡ part_of b t
one_part b s at (string n value) t w e =
    let value-is : value ≡ viewed b (text_of t) = sym (e.text_same e.kind_same ∙ w) in
    (λ i. string (sym e.len_same i) (value-is i)) ∙ sym (part_text b t e.kind_same)
one_part b s at (reason n code) t w e =
    let k : t.kind ≡ 1 = e.kind_same in
    let some : 0 < t.kind = omega arith in
    (λ i. reason (sym e.len_same i) (sym (e.code_same some) i)) ∙ sym (part_code b t (λ z. omega arith))

-- the type of what is shown is known
kind_known : (l : List Tlv) (at i : ℕ) (r : List TerminationTlv) → i < length l → (get_or (shown_from size_of entry at l ++ r) i zero_tlv).kind ≤ 1
kind_known [] at i r h = absurd (omega arith)
kind_known (string n value ∷ l) at zero r h = omega arith
kind_known (reason n code ∷ l) at zero r h = omega arith
kind_known (x ∷ l) at (suc i) r h = kind_known l (at + size_of x) i r (omega arith)

pub writable_from : (m : TerminationMessage) (b : List ℕ) → length m.tlvs ≡ places
    → ((i : ℕ) → i < m.count → Inside b (get_or m.tlvs i zero_tlv)) → ((i : ℕ) → i < m.count → ReasonTwo (get_or m.tlvs i zero_tlv))
    → (q : Reading) → Shows reader (bytes_of m b) q → AllAt size_of (ValueAt (join q)) 0 q.tlvs
    → ReadsBack m b (bytes_of m b) → writable m (length b) ≡ true
writable_from m b full inside two q x values r =
    let s = bytes_of m b in
    let same = subst (λ (a : ReadTermination). SameRead m b a s) x.shown_so r.same in
    let few : m.count ≤ places = omega (arith, same.count_same, x.reading.fits) in
    let v : AllAt size_of (ValueAt s) 0 q.tlvs = subst (λ (z : List ℕ). AllAt size_of (ValueAt z) 0 q.tlvs) x.reading.joined values in
    let good =
    table_good writer size_of entry (ValueAt s) b (λ t u. SameTlv t b u s) zero_tlv (one_part b s)
    (replicate (places - length q.tlvs) zero_tlv) m.tlvs m.count 0 q.tlvs (omega (arith, full, few)) same.count_same v same.tlv_same
    long put_long ReadTlv (put_tail q.tail) x.reading.joined x.reading.is_good.each in
    let known : (i : ℕ) → i < m.count → (get_or m.tlvs i zero_tlv).kind ≤ 1 =
    λ i h. omega (arith, (same.tlv_same i h).kind_same, kind_known q.tlvs 0 i (replicate (places - length q.tlvs) zero_tlv) (omega (arith, same.count_same))) in
    rw (le-ltb places m.count few)
    (table_fine writer ReadTlv (Proper b) zero_tlv b [] (λ t l g q. fine_from (length b) (length l) t (fine_entry b t l g q)) m.tlvs m.count good
    (λ i h. record { inside = inside i h; two = two i h; known = known i h }))
