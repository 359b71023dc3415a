-- A record that was written and is read again. Assumes nothing.
use mathlib.Core.Path.{◌≡◌, refl, sym, ap, ◌∙◌, subst}
use mathlib.Core.Bool.{true}
use mathlib.Core.List.{List}
use Prim.Native.Nat.{ℕ, ◌+◌, ◌≤◌}
use native.Mathlib.Omega.{arith}
use lib.ListN.{length}
use lib.Seq.{length-take-le}
use Rattle.wire.specs.Number as Number
use Rattle.wire.specs.Bytes.{Bytes, none}
use Rattle.wire.specs.Parts.{AllAt}
use Rattle.writing.specs.Table.{joined, all_ok}
use Rattle.writing.proofs.Table.{all_good, length_parts}
use Rattle.writing.proofs.Trip.{table_same, end_sizes}
use Rattle.stats_data_writer.proofs.Written.{data-bytes}
use Rattle.stats_report.specs.Grammar.{GoodStat, Good, places, size_of}
use Rattle.stats_report.specs.Shown.{ReadStats, refusal_of, stop_of, zero_counter, entry, data_in, shown}
use Rattle.stats_report.specs.Read.{read_stats}
use Rattle.stats_report_writer.specs.Write.{part_of, counter_writable, writer, kept, reading_of, bytes_of, SameCounter, SameRead}
use Rattle.stats_report.specs.declared.StatCounter.{StatCounter}
use Rattle.stats_report.specs.declared.StatsReport.{StatsReport}
use Rattle.stats_report_writer.proofs.Written.{own_of, is_plain, Writes, length_bytes}
use Rattle.stats_report_writer.specs.Entries.{fine}
use Rattle.stats_report.proofs.Shows.{ViewAt}

good_part : (b : List ℕ) → Bytes b → (t : StatCounter) (l : List StatCounter) → counter_writable (length b) t ≡ true → all_ok writer (length b) l ≡ true
    → GoodStat (part_of b t) (joined writer b l)
good_part b p t l e w =
    let f = fine b t e in
    record {
      well_formed = record { kind_fits = f.kind_fits; size_fits = f.size_fits; size_is = f.size_is; value-bytes = data-bytes b p (data_in t) };
      value_good = f.value_good;
    }

-- as many records as the count says
pub parts_count : (m : StatsReport) (b : List ℕ) → length m.counters ≡ places → m.count ≤ places → length (reading_of m b).stats ≡ m.count
parts_count m b long few = length_parts writer b (kept m) ∙ length-take-le m.count m.counters (omega (arith, long, few))

pub good_of : (m : StatsReport) (b : List ℕ) → Bytes b → length m.counters ≡ places → Writes m (length b) → Good (reading_of m b)
good_of m b p long x =
    record {
      count_fits = omega (arith, x.few, x.count_is);
      count_is = x.count_is ∙ sym (parts_count m b long x.few);
      each = all_good writer GoodStat b (good_part b p) (kept m) x.fine;
      tail_bytes = none;
    }

same_counter : (b s : List ℕ) (n at : ℕ) (t : StatCounter) → counter_writable (length b) t ≡ true → ViewAt s at (part_of b t)
    → SameCounter t b (entry at (part_of b t)) s
same_counter b s n at t o v =
    let own = own_of b (at + 4) t (is_plain (length b) t o) in
    record { kind_same = refl; len_same = refl; afi_same = own.afi_is; safi_same = own.safi_is; number_same = own.number_is; data_same = sym v }

-- the bytes s are read as the record m, whose views point into b, to their end
pub record ReadsBack (m : StatsReport) (b s : List ℕ) : Type 0 where
  pub read_good : (refusal_of (read_stats s)).number ≡ Number.Good
  pub whole : stop_of (read_stats s) ≡ length s
  pub same : SameRead m b (read_stats s) s

pub reads_back : (m : StatsReport) (b : List ℕ) → length m.counters ≡ places → Writes m (length b)
    → read_stats (bytes_of m b) ≡ shown (reading_of m b) → AllAt size_of (ViewAt (bytes_of m b)) 4 (reading_of m b).stats
    → ReadsBack m b (bytes_of m b)
reads_back m b long x a v =
    let s = bytes_of m b in
    record {
      read_good = ap (λ (y : ReadStats). (refusal_of y).number) a;
      whole = ap stop_of a ∙ end_sizes writer size_of entry (ViewAt s) b (λ n t o. refl) (kept m) 4 x.fine
          ∙ sym (length_bytes m b x);
      same = subst (λ (y : ReadStats). SameRead m b y s) (sym a) (record {
        stats_count_same = refl;
        count_same = sym (parts_count m b long x.few);
        counter_same = table_same writer size_of entry (ViewAt s) b (λ t u. SameCounter t b u s) zero_counter (same_counter b s) _ m.counters m.count 4
            (omega (arith, long, x.few)) x.fine v;
      });
    }
