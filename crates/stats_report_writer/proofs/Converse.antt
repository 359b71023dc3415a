-- No record is refused that would be read back as itself, where its views lie inside the buffer. Assumes nothing.
use mathlib.Core.Path.{◌≡◌, sym, ap, ◌∙◌, subst}
use mathlib.Core.Bool.{true}
use mathlib.Core.List.{List, [], ◌∷◌, ◌++◌}
use Prim.Native.Nat.{ℕ, zero, suc, ◌+◌, ◌-◌, ◌≤◌, ◌<◌}
use native.Mathlib.Omega.{arith}
use borrow.Author.Tests.{le-ltb, eq-eqb}
use lib.ListN.{length, get_or, replicate}
use lib.Seq.{length-take-le}
use Rattle.wire.specs.Bytes.{Bytes}
use Rattle.wire.specs.Parts.{AllAt, shown_from}
use Rattle.wire.proofs.Bytes.{bytes_be, bytes_append}
use Rattle.wire.proofs.Tlv.{put_tlv_long}
use Rattle.wire.specs.Exactly.{Shows}
use Rattle.stats_report.specs.Read.{reader}
use Rattle.writing.proofs.Table.{kept_each, bytes_joined}
use Rattle.writing.proofs.Trip.{table_good, all_fine}
use Rattle.stats_data.specs.Grammar.{value_bytes}
use Rattle.stats_data.specs.Shown.{afi_of, safi_of, number_of, value_in}
use Rattle.stats_data_writer.proofs.Written.{fine_from, InsideData, data-bytes}
use Rattle.stats_report.specs.Grammar.{Stat, as_tlv, GoodStat, Reading, join, places, size_of}
use Rattle.stats_report.specs.Shown.{ReadStats, zero_counter, entry, data_in}
use Rattle.stats_report_writer.specs.Write.{part_of, plain, writer, kept, bytes_of, writable, SameCounter, SameRead, counter_writable}
use Rattle.stats_report.specs.declared.StatCounter.{StatCounter}
use Rattle.stats_report.specs.declared.StatsReport.{StatsReport}
use Rattle.stats_report.proofs.Shows.{ViewAt}
use Rattle.stats_report_writer.proofs.Trip.{ReadsBack}
use Rattle.stats_report_writer.proofs.Written.{own_from}
use Rattle.stats_report_writer.specs.Entries.{bodied}
use Rattle.stats_report.proofs.Laws.{behind}

abbrev pub Inside : List ℕ → StatCounter → Type 0
Inside b t = InsideData b (data_in t)

-- an entry whose numbers are plain and whose item is good is writable
fine_entry : (b : List ℕ) (t : StatCounter) (r : List ℕ) → GoodStat (part_of b t) r → Inside b t × (plain t ≡ true) → counter_writable (length b) t ≡ true
fine_entry b t r g h =
    let w = g.well_formed in
    rw h.1 (fine_from b t.kind t.stat_len (data_in t)
    (record { kind_fits = w.kind_fits; size_fits = w.size_fits; size_is = w.size_is; value_good = g.value_good }) h.0)

-- an item that is shown as an entry is that entry's
value-of : (b s : List ℕ) (at : ℕ) (x : Stat) (t : StatCounter) → ViewAt s at x → SameCounter t b (entry at x) s → x.value ≡ value_in b (data_in t)
value-of b s at x t v e = sym (e.data_same ∙ v)

one_part : (b s : List ℕ) (at : ℕ) (x : Stat) (t : StatCounter) → ViewAt s at x → SameCounter t b (entry at x) s → x ≡ part_of b t
one_part b s at x t v e =
    let value-is = value-of b s at x t v e in
    λ i. record { kind = sym e.kind_same i; size = sym e.len_same i; value = value-is i }

-- and that entry's numbers are plain
one_plain : (b s : List ℕ) (at : ℕ) (x : Stat) (t : StatCounter) → ViewAt s at x → SameCounter t b (entry at x) s → plain t ≡ true
one_plain b s at x t v e =
    let value-is = value-of b s at x t v e in
    own_from b (at + 4) t
    (record {
      afi_is = e.afi_same ∙ ap afi_of value-is;
      safi_is = e.safi_same ∙ ap safi_of value-is;
      number_is = λ o. e.number_same o ∙ ap (number_of (at + 4)) value-is;
    })

all_plain : (b s : List ℕ) (r k : List StatCounter) (l : List Stat) (at : ℕ) → length k ≡ length l → AllAt size_of (ViewAt s) at l
    → ((i : ℕ) → i < length k → SameCounter (get_or k i zero_counter) b (get_or (shown_from size_of entry at l ++ r) i zero_counter) s)
    → (i : ℕ) → i < length k → plain (get_or k i zero_counter) ≡ true
all_plain b s r [] l at n v h i e = absurd (omega arith)
all_plain b s r (t ∷ k) [] at n v h i e = absurd (omega arith)
all_plain b s r (t ∷ k) (x ∷ l) at n v h zero e = one_plain b s at x t v.0 (h 0 (omega arith))
all_plain b s r (t ∷ k) (x ∷ l) at n v h (suc i) e =
    all_plain b s r k l (at + size_of x) (omega arith) v.1 (λ j f. h (suc j) (omega arith)) i (omega arith)

pub bytes_written : (m : StatsReport) (b : List ℕ) → Bytes b → Bytes (bytes_of m b)
bytes_written m b p =
    bytes_append (bytes_be 4 m.stats_count)
    (bytes_joined writer bodied b (λ t. bytes_append (bytes_be 2 t.kind) (bytes_append (bytes_be 2 t.stat_len) (data-bytes b p (data_in t)))) (kept m))

pub writable_from : (m : StatsReport) (b : List ℕ) → length m.counters ≡ places
    → ((i : ℕ) → i < m.count → Inside b (get_or m.counters i zero_counter))
    → (q : Reading) → Shows reader (bytes_of m b) q → AllAt size_of (ViewAt (join q)) 4 q.stats
    → ReadsBack m b (bytes_of m b) → writable m (length b) ≡ true
writable_from m b long inside q x view-so r =
    let s = bytes_of m b in
    let same = subst (λ (a : ReadStats). SameRead m b a s) x.shown_so r.same in
    let n : m.count ≡ length q.stats = same.count_same in
    let few : m.count ≤ places = omega (arith, n, x.reading.fits) in
    let count_is : m.stats_count ≡ m.count = same.stats_count_same ∙ x.reading.is_good.count_is ∙ sym n in
    let k : length (kept m) ≡ m.count = length-take-le m.count m.counters (omega (arith, long, few)) in
    let v : AllAt size_of (ViewAt s) 4 q.stats = subst (λ (z : List ℕ). AllAt size_of (ViewAt z) 4 q.stats) x.reading.joined view-so in
    let rest = replicate (places - length q.stats) zero_counter in
    let same_kept : (i : ℕ) → i < length (kept m) → SameCounter (get_or (kept m) i zero_counter) b (get_or (shown_from size_of entry 4 q.stats ++ rest) i zero_counter) s =
    kept_each (λ i t. SameCounter t b (get_or (shown_from size_of entry 4 q.stats ++ rest) i zero_counter) s) m.counters m.count zero_counter same.counter_same in
    let good =
    table_good writer size_of entry (ViewAt s) b (λ t u. SameCounter t b u s) zero_counter (one_part b s)
    rest m.counters m.count 4 q.stats (omega (arith, long, few)) n v same.counter_same
    (λ t. 4 + length (value_bytes t.value)) (λ t. put_tlv_long (as_tlv t)) GoodStat q.tail
    (behind q.count m.stats_count _ _ x.reading.joined) x.reading.is_good.each in
    rw (le-ltb places m.count few, eq-eqb m.stats_count m.count count_is)
    (all_fine writer GoodStat (λ t. Inside b t × (plain t ≡ true)) zero_counter b [] (λ t l g h. fine_entry b t _ g h) (kept m) good
    (λ i h. (kept_each (λ i. Inside b) m.counters m.count zero_counter inside i h, all_plain b s rest (kept m) q.stats 4 (k ∙ n) v same_kept i h)))
