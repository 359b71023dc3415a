-- What the writing kit asks of a Statistics body. Assumes nothing.
use mathlib.Core.Path.{◌≡◌, refl, sym, ap, ◌∙◌}
use mathlib.Core.Bool.{Bool, true, false}
use mathlib.Core.List.{List, ◌++◌}
use mathlib.Core.Logic.{inl, inr, ⊎_elim}
use Prim.Native.Nat.{ℕ, ◌+◌, ◌%◌, ◌^◌, ◌≤◌}
use native.Mathlib.Omega.{arith}
use native.Mathlib.Nat.{mod-eq_of_lt}
use borrow.Author.Tests.{ltb-true, ltb-false, eqb-true, eqb-false, lt-ltb, le-ltb, eq-eqb, ne_eqb}
use lib.Dec.{ltb, eqb}
use lib.ListN.{length}
use lib.Seq.{sets}
use Rattle.wire.specs.Bytes.{pick, be}
use Rattle.writing.specs.Table.{joined, all_ok, sizes}
use Rattle.writing.proofs.Tests.{both, past}
use Rattle.writing.specs.Write.{WriteAnswer, put_at, Wrote}
use Rattle.writing.proofs.Sets.{sets_append, put_fits}
use Rattle.writing.proofs.Table.{length_joined}
use Rattle.wire.specs.View.{view}
use Rattle.wire.specs.declared.Refusal.{Refusal}
use Rattle.wire.proofs.Bytes.{length_be}
use Rattle.std.specs.declared.result.Result.TheVariants.{Ok, Err}
use Rattle.table_writer.specs.Writer.{table_answer, table_written}
use Rattle.table_writer.proofs.Behind.{refused_behind, front_fits, put_before}
use Rattle.wire.specs.Refuses.{OneOf}
use Rattle.stats_data.specs.Grammar.{Value}
use Rattle.stats_data.specs.Shown.{afi_of, safi_of, number_of, data_of, value_in}
use Rattle.stats_data.specs.declared.StatsData.{StatsData}
use Rattle.stats_data.specs.declared.StatsData.TheVariants.{Counter, Gauge, AfiSafiGauge, Unknown}
use Rattle.stats_report_writer.specs.Entries.{bodied}
use Rattle.stats_report.specs.Grammar.{places}
use Rattle.stats_report.specs.Shown.{data_in}
use Rattle.stats_report.specs.declared.StatCounter.{StatCounter}
use Rattle.stats_report_writer.specs.Write.{plain, counter_writable, numbered, writer, kept, bytes_of, writable}
use Rattle.stats_report.specs.declared.StatsReport.{StatsReport}

-- ---- the data of an entry, by its length
data Formed (t : StatCounter) : StatsData → Type 0 where
  is_4 : t.stat_len ≡ 4 → Formed t (Counter (t.value % 2 ^ 32))
  is_8 : t.stat_len ≡ 8 → Formed t (Gauge t.value)
  is_11 : t.stat_len ≡ 11 → Formed t (AfiSafiGauge t.afi (t.safi % 2 ^ 8) t.value)
  is-raw : (OneOf numbered t.stat_len → ⊥) → Formed t (Unknown (view t.value t.stat_len))

formed : (t : StatCounter) → Formed t (data_in t)
unfolding data_of
formed t = go (eqb t.stat_len 4) refl (eqb t.stat_len 8) refl (eqb t.stat_len 11) refl
  where
    go : (x : Bool) → eqb t.stat_len 4 ≡ x → (y : Bool) → eqb t.stat_len 8 ≡ y → (z : Bool) → eqb t.stat_len 11 ≡ z
        → Formed t (pick x (Counter (t.value % 2 ^ 32)) (pick y (Gauge t.value) (pick z (AfiSafiGauge t.afi (t.safi % 2 ^ 8) t.value) (Unknown (view t.value t.stat_len)))))
    go true h y k z l = is_4 (eqb-true t.stat_len 4 h)
    go false h true k z l = is_8 (eqb-true t.stat_len 8 k)
    go false h false k true l = is_11 (eqb-true t.stat_len 11 l)
    go false h false k false l =
        is-raw (⊎_elim (eqb-false t.stat_len 4 h) (⊎_elim (eqb-false t.stat_len 8 k) (⊎_elim (eqb-false t.stat_len 11 l) (λ z. z))))

-- the numbers of an entry are those of a value, where that starts at a place
pub record Own (place : ℕ) (t : StatCounter) (v : Value) : Type 0 where
  pub afi_is : t.afi ≡ afi_of v
  pub safi_is : t.safi ≡ safi_of v
  pub number_is : OneOf numbered t.stat_len → t.value ≡ number_of place v

-- the parts of a form without an AFI
pub zeros : (t : StatCounter) (x : Bool) → pick (eqb t.afi 0) (pick (eqb t.safi 0) x false) false ≡ true → (t.afi ≡ 0) × (t.safi ≡ 0) × (x ≡ true)
zeros t x e =
    let a = both (eqb t.afi 0) _ e in
    let s = both (eqb t.safi 0) x a.1 in
    (eqb-true t.afi 0 a.0, eqb-true t.safi 0 s.0, s.1)

pub own_of : (b : List ℕ) (place : ℕ) (t : StatCounter) → plain t ≡ true → Own place t (value_in b (data_in t))
unfolding plain
own_of b place t p = go (formed t)
  where
    go : {d : StatsData} → Formed t d → Own place t (value_in b d)
    go (is_4 e) =
        let q : pick (eqb t.afi 0) (pick (eqb t.safi 0) (ltb t.value (2 ^ 32)) false) false ≡ true = (rw e at p) in
        let z = zeros t _ q in
        record { afi_is = z.0; safi_is = z.1; number_is = λ o. sym (mod-eq_of_lt (ltb-true t.value (2 ^ 32) z.2)) }
    go (is_8 e) =
        let q : pick (eqb t.afi 0) (pick (eqb t.safi 0) true false) false ≡ true = (rw e at p) in
        let z = zeros t _ q in
        record { afi_is = z.0; safi_is = z.1; number_is = λ o. refl }
    go (is_11 e) =
        let q : ltb t.safi (2 ^ 8) ≡ true = (rw e at p) in
        record { afi_is = refl; safi_is = sym (mod-eq_of_lt (ltb-true t.safi (2 ^ 8) q)); number_is = λ o. refl }
    go (is-raw h) =
        let q : pick (eqb t.afi 0) (pick (eqb t.safi 0) true false) false ≡ true = (rw (ne_eqb t.stat_len 11 (λ e. h (inr (inr (inl e)))), ne_eqb t.stat_len 4 (λ e. h (inl e))) at p) in
        let z = zeros t _ q in
        record { afi_is = z.0; safi_is = z.1; number_is = λ o. absurd (h o) }

pub own_from : (b : List ℕ) (place : ℕ) (t : StatCounter) → Own place t (value_in b (data_in t)) → plain t ≡ true
unfolding plain
own_from b place t = go (formed t)
  where
    go : {d : StatsData} → Formed t d → Own place t (value_in b d) → plain t ≡ true
    go (is_4 e) o =
        let n = o.number_is (inl e) in
        rw (e, eq-eqb t.afi 0 o.afi_is, eq-eqb t.safi 0 o.safi_is) (lt-ltb t.value (2 ^ 32) (omega (arith, n)))
    go (is_8 e) o = rw (e, eq-eqb t.afi 0 o.afi_is, eq-eqb t.safi 0 o.safi_is)
    go (is_11 e) o = let n = o.safi_is in rw e (lt-ltb t.safi (2 ^ 8) (omega (arith, n)))
    go (is-raw h) o =
        rw (ne_eqb t.stat_len 11 (λ e. h (inr (inr (inl e)))), ne_eqb t.stat_len 4 (λ e. h (inl e)), eq-eqb t.afi 0 o.afi_is, eq-eqb t.safi 0 o.safi_is)

-- ---- one entry
pub is_plain : (buffer_length : ℕ) (t : StatCounter) → counter_writable buffer_length t ≡ true → plain t ≡ true
is_plain buffer_length t e = (both (plain t) _ e).0

-- ---- the whole report
pub record Writes (m : StatsReport) (buffer_length : ℕ) : Type 0 where
  pub few : m.count ≤ places
  pub count_is : m.stats_count ≡ m.count
  pub fine : all_ok writer buffer_length (kept m) ≡ true

pub writes_of : (m : StatsReport) (buffer_length : ℕ) → writable m buffer_length ≡ true → Writes m buffer_length
writes_of m buffer_length e =
    let n = past (ltb places m.count) _ e in
    let c = both (eqb m.stats_count m.count) (all_ok writer buffer_length (kept m)) n.1 in
    record { few = ltb-false places m.count n.0; count_is = eqb-true m.stats_count m.count c.0; fine = c.1 }

pub length_bytes : (m : StatsReport) (b : List ℕ) → Writes m (length b) → length (bytes_of m b) ≡ 4 + sizes writer (kept m)
unfolding be
length_bytes m b w = omega (arith, length_joined writer bodied b (kept m) w.fine)

pub bytes_long : (m : StatsReport) (b : List ℕ) → writable m (length b) ≡ true → length (bytes_of m b) ≡ 4 + sizes writer (kept m)
bytes_long m b e = length_bytes m b (writes_of m (length b) e)

-- the count put in front, and the table behind it
pub put_whole : (m : StatsReport) (b out o1 o2 : List ℕ) → 4 ≤ length out → o1 ≡ put_at out 0 (be 4 m.stats_count)
    → o2 ≡ sets o1 4 (joined writer b (kept m)) → o2 ≡ sets out 0 (bytes_of m b)
unfolding be
put_whole m b out o1 o2 h e f =
    f ∙ ap (λ (o : List ℕ). sets o 4 (joined writer b (kept m))) (e ∙ put_fits out 0 (be 4 m.stats_count) (omega arith))
    ∙ sym (sets_append (be 4 m.stats_count) (joined writer b (kept m)) out 0)

-- ---- the table is refused, or put and then the count in front of it
module _ (m : StatsReport) (b out o : List ℕ) (a : WriteAnswer) (few : m.count ≤ places) (count_is : m.stats_count ≡ m.count)
    (asked : a ≡ table_answer writer 4 (kept m) b out) (left : o ≡ table_written writer 4 (kept m) b out) where
  whole : {o' : List ℕ} → Wrote (all_ok writer (length b) (kept m)) (be 4 m.stats_count ++ joined writer b (kept m)) out a o'
      → Wrote (writable m (length b)) (bytes_of m b) out a o'
  whole w = rw (le-ltb places m.count few, eq-eqb m.stats_count m.count count_is) w

  pub refused_whole : (r : Refusal) → a ≡ Err r → Wrote (writable m (length b)) (bytes_of m b) out a o
  refused_whole r e = whole (refused_behind bodied (be 4 m.stats_count) 4 (kept m) b out o a (length_be 4 m.stats_count) asked left e)

  pub wrote_whole : (n : ℕ) (o' : List ℕ) → a ≡ Ok n → o' ≡ put_at o 0 (be 4 m.stats_count) → Wrote (writable m (length b)) (bytes_of m b) out a o'
  wrote_whole n o' e p =
      let count = be 4 m.stats_count in
      let long = length_be 4 m.stats_count in
      let fits = front_fits bodied count 4 (kept m) b out o a long asked left e in
      whole (put_before bodied count 4 (kept m) b out o a long asked left e (p ∙ put_fits o 0 count (omega (arith, long, fits))))
