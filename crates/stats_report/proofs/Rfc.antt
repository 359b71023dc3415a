-- A body that conforms to RFC 7854 and RFC 8671 is read, and each statistic is shown in the form of its type. Assumes nothing.
use mathlib.Core.Path.{◌≡◌, refl, sym, ap, ◌∙◌, subst}
use mathlib.Core.Bool.{Bool, true, false}
use mathlib.Core.List.{List, [], ◌∷◌, ◌++◌, map, append-nil}
use mathlib.Core.Logic.{◌⊎◌, inl, inr}
use Prim.Native.Nat.{ℕ, zero, suc, ◌^◌, ◌≤◌, ◌<◌}
use native.Mathlib.Omega.{arith}
use native.Mathlib.Nat.{mod-eq_of_lt}
use borrow.Author.Tests.{ltb-true, eqb-true, eqb-false}
use lib.Dec.{eqb, lit<}
use lib.ListN.{length, length-map}
use Rattle.wire.specs.Number as Number
use Rattle.wire.specs.Bytes.{pick, be, none}
use Rattle.wire.specs.Parts.{join_all}
use Rattle.wire.specs.Tlv.{Tlv, GoodTlv, put_tlv}
use Rattle.wire.specs.Rfc.{together, InformationFits}
use Rattle.wire.specs.Rfc as Wire
use Rattle.wire.specs.Refuses.{OneOf}
use Rattle.wire.specs.Exactly.{Shows}
use Rattle.wire.proofs.Bytes.{bytes_append, bytes_be}
use Rattle.wire.proofs.Refuses.{is_one_of, passes, passed, among, below}
use Rattle.wire.proofs.Rfc.{information_good, join_together, each_together}
use Rattle.wire.proofs.Exactly.{shows_good}
use Rattle.stats_type.specs.Shown.{type_of}
use Rattle.stats_data.specs.Shown.{data_of}
use Rattle.stats_data.specs.declared.StatsData.{StatsData}
use Rattle.stats_data.specs.declared.StatsData.TheVariants.{Counter, Gauge, AfiSafiGauge}
use Rattle.stats_data.specs.Grammar.{GoodValue}
use Rattle.stats_data.proofs.Values.{value_back}
use Rattle.stats_report.specs.Grammar.{as_tlv, put_stat, GoodStat, Good, places}
use Rattle.stats_report.specs.Shown.{entry, data_in}
use Rattle.stats_report.specs.Read.{reader}
use Rattle.stats_report.specs.Rfc.{counters, gauges, family_gauges, Statistic, counter, gauge, family_gauge, undefined, as_information, StatisticFits, Conforms, statistic_bytes, bytes, as_stat, reading}
use Rattle.stats_report.specs.declared.StatCounter.{StatCounter}
use Rattle.stats_report.proofs.Promises.{complete}

-- ---- the types
fits_two : (l : List ℕ) → passes (below 65536) l ≡ true → (n : ℕ) → OneOf l n → n < 2 ^ 16
fits_two l t n o = ltb-true n 65536 (passed (below 65536) l t n o)

-- the numbers below a bound
abbrev all_below : ℕ → List ℕ
all_below zero = []
all_below (suc n) = n ∷ all_below n

is_below : (n k : ℕ) → k < n → OneOf (all_below n) k
is_below zero k h = absurd (omega arith)
is_below (suc n) k h = go (eqb k n) refl (is_below n k)
  where
    go : (b : Bool) → eqb k n ≡ b → (k < n → OneOf (all_below n) k) → OneOf (all_below (suc n)) k
    go true e i = inl (eqb-true k n e)
    go false e i = let other = eqb-false k n e in inr (i (omega arith))

one_of_either : (l m : List ℕ) (n : ℕ) → OneOf (l ++ m) n → OneOf l n ⊎ OneOf m n
one_of_either [] m n o = inr o
one_of_either (k ∷ l) m n (inl e) = inl (inl e)
one_of_either (k ∷ l) m n (inr o) = go (one_of_either l m n o)
  where
    go : OneOf l n ⊎ OneOf m n → OneOf (k ∷ l) n ⊎ OneOf m n
    go (inl p) = inl (inr p)
    go (inr p) = inr p

-- ---- a statistic is an information TLV, and the plain reading has the same bytes for it
as-information : (t : Statistic) → StatisticFits t → as_tlv (as_stat t) ≡ Wire.as_tlv (as_information t)
unfolding be
as-information (counter kind number) f = refl
as-information (gauge kind number) f = refl
as-information (family_gauge kind afi safi number) f = refl
as-information (undefined t) f =
    let back = value_back (length t.value) t.value f.1.value-bytes refl in
    λ i. record { kind = t.kind; size = length t.value; value = back.bytes_are i }

information_fits : (t : Statistic) → StatisticFits t → InformationFits (as_information t)
unfolding be
information_fits (counter kind number) f =
    record { kind_fits = fits_two counters refl kind f.0; value_fits = lit< tt; value-bytes = bytes_be 4 number }
information_fits (gauge kind number) f =
    record { kind_fits = fits_two gauges refl kind f.0; value_fits = lit< tt; value-bytes = bytes_be 8 number }
information_fits (family_gauge kind afi safi number) f =
    record {
      kind_fits = fits_two family_gauges refl kind f.0;
      value_fits = lit< tt;
      value-bytes = bytes_append (bytes_be 2 afi) (bytes_append (bytes_be 1 safi) (bytes_be 8 number));
    }
information_fits (undefined t) f = f.1

value_good : (t : Statistic) → StatisticFits t → GoodValue (as_stat t).value
value_good (counter kind number) f = f.1
value_good (gauge kind number) f = f.1
value_good (family_gauge kind afi safi number) f = (f.1, f.2, f.3)
value_good (undefined t) f = (value_back (length t.value) t.value f.1.value-bytes refl).is_good

stat_good : (t : Statistic) (r : List ℕ) → StatisticFits t → GoodStat (as_stat t) r
stat_good t r f =
    record {
      well_formed = subst GoodTlv (sym (as-information t f)) (information_good (as_information t) (information_fits t f));
      value_good = value_good t f;
    }

stat_put : (t : Statistic) (r : List ℕ) → StatisticFits t → put_stat (as_stat t) r ≡ statistic_bytes t ++ r
unfolding be
stat_put t r f = ap (λ (u : Tlv). put_tlv u r) (as-information t f)

-- A conforming body is shown statistic by statistic, with nothing left.
pub conforming_shown : (l : List Statistic) → Conforms l → length l ≤ places → length (bytes l) ≤ Number.limit
    → Shows reader (bytes l) (reading l)
conforming_shown l c room limit =
    let many : length (map as_stat l) ≡ length l = length-map l as_stat in
    let behind : join_all put_stat (map as_stat l) [] ≡ together statistic_bytes l =
    join_together StatisticFits put_stat as_stat statistic_bytes stat_put l [] c.each_fits ∙ append-nil (together statistic_bytes l) in
    let good : Good (reading l) =
    record {
      count_fits = c.count_fits;
      count_is = sym many;
      each = each_together StatisticFits put_stat as_stat statistic_bytes stat_put GoodStat stat_good l [] c.each_fits;
      tail_bytes = none;
    } in
    shows_good reader complete (reading l) good (subst (λ (n : ℕ). n ≤ places) (sym many) room) (bytes l)
    (ap (λ (r : List ℕ). be 4 (length l) ++ r) behind) limit

-- ---- the forms
pub record ShownAs (kind : ℕ) (d : StatsData) (c : StatCounter) : Type 0 where
  pub type_is : type_of c.kind ≡ type_of kind
  pub data_is : data_in c ≡ d

-- Each statistic that the RFCs define is shown under its type, in the form that they give it.
pub form_shown : (at kind : ℕ)
    → ((number : ℕ) → number < 2 ^ 32 → ShownAs kind (Counter number) (entry at (as_stat (counter kind number))))
    × ((number : ℕ) → ShownAs kind (Gauge number) (entry at (as_stat (gauge kind number))))
    × ((afi safi number : ℕ) → safi < 2 ^ 8 → ShownAs kind (AfiSafiGauge afi safi number) (entry at (as_stat (family_gauge kind afi safi number))))
unfolding data_of
form_shown at kind = (
  λ number h. record { type_is = refl; data_is = ap Counter (mod-eq_of_lt h) },
  λ number. record { type_is = refl; data_is = refl },
  λ afi safi number h. record { type_is = refl; data_is = ap (λ (k : ℕ). AfiSafiGauge afi k number) (mod-eq_of_lt h) },
)

-- A type of 0 to 17 has one of the three forms.
pub one_form : (kind : ℕ) → kind ≤ 17 → (OneOf counters kind ⊎ (OneOf gauges kind ⊎ OneOf family_gauges kind))
one_form kind h =
    let in_all : OneOf all kind = among (all_below 18) all refl kind (is_below 18 kind (omega arith)) in
    go (one_of_either counters (gauges ++ family_gauges) kind in_all)
  where
    all : List ℕ
    all = counters ++ (gauges ++ family_gauges)

    go : OneOf counters kind ⊎ OneOf (gauges ++ family_gauges) kind → OneOf counters kind ⊎ (OneOf gauges kind ⊎ OneOf family_gauges kind)
    go (inl o) = inl o
    go (inr o) = inr (one_of_either gauges family_gauges kind o)

no_two : (l m : List ℕ) → passes (λ n. pick (is_one_of m n) false true) l ≡ true → passes (is_one_of m) m ≡ true → (n : ℕ) → OneOf l n → OneOf m n → ⊥
no_two l m a b n p q =
    let no : pick (is_one_of m n) false true ≡ true = passed (λ n. pick (is_one_of m n) false true) l a n p in
    let yes : is_one_of m n ≡ true = passed (is_one_of m) m b n q in
    let z : ◌≡◌ {A = Bool} false true = (rw yes at no) in
    let w : ◌≡◌ {A = ℕ} 0 1 = cc in
    absurd (omega arith)

-- No type has two forms, so that every defined type has exactly one.
pub no_two_forms : (kind : ℕ)
    → (OneOf counters kind → OneOf gauges kind → ⊥) × (OneOf counters kind → OneOf family_gauges kind → ⊥) × (OneOf gauges kind → OneOf family_gauges kind → ⊥)
no_two_forms kind = (no_two counters gauges refl refl kind, no_two counters family_gauges refl refl kind, no_two gauges family_gauges refl refl kind)
