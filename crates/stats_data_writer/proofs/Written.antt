-- What `data_writable` asks of data, both ways, and the bytes of data. Assumes nothing.
use mathlib.Core.Path.{◌≡◌, sym, ◌∙◌}
use mathlib.Core.Bool.{true}
use mathlib.Core.List.{List}
use mathlib.Core.Logic.{◌⊎◌, inl, inr, ⊎_elim}
use Prim.Native.Nat.{ℕ, ◌+◌, ◌^◌, ◌≤◌, ◌<◌}
use native.Mathlib.Omega.{arith}
use borrow.Author.Tests.{ltb-true, eqb-true, eqb-false, lt-ltb, eq-eqb, ne_eqb}
use lib.Dec.{ltb, eqb}
use lib.ListN.{length}
use Rattle.wire.specs.Bytes.{be, Bytes}
use Rattle.wire.specs.declared.View.{View}
use Rattle.wire.proofs.Bytes.{bytes_be, bytes_append}
use Rattle.wire.proofs.Views.{bytes_viewed}
use Rattle.writing.specs.Write.{tlv_fits}
use Rattle.writing.proofs.Tests.{both, past}
use Rattle.writing.proofs.Tlv.{view_long, fits_of, fits_from, value_long}
use Rattle.stats_data.specs.Grammar.{GoodValue}
use Rattle.stats_data.specs.Shown.{value_in}
use Rattle.stats_data_writer.specs.Write.{data_bytes, data_writable}
use Rattle.stats_data.specs.declared.StatsData.{StatsData}
use Rattle.stats_data.specs.declared.StatsData.TheVariants.{Counter, Gauge, AfiSafiGauge, Unknown}

-- ---- a raw value: its length is that of no other form
abbrev OtherForm : ℕ → Type 0
OtherForm size = (size ≡ 4) ⊎ ((size ≡ 8) ⊎ (size ≡ 11))

no_other_form : (buffer_length kind size : ℕ) (v : View) → (OtherForm size → ⊥) → data_writable buffer_length kind size (Unknown v) ≡ tlv_fits kind size v buffer_length
unfolding data_writable
no_other_form buffer_length kind size v h = rw (ne_eqb size 4 (λ e. h (inl e)), ne_eqb size 8 (λ e. h (inr (inl e))), ne_eqb size 11 (λ e. h (inr (inr e))))

-- ---- what `data_writable` asks of data whose view points into b: numbers that fit, and the length of its bytes
pub record Fine (b : List ℕ) (kind size : ℕ) (d : StatsData) : Type 0 where
  pub kind_fits : kind < 256 ^ 2
  pub size_fits : size < 256 ^ 2
  pub size_is : length (data_bytes b d) ≡ size
  pub value_good : GoodValue (value_in b d)

pub fine_of : (b : List ℕ) (kind size : ℕ) (d : StatsData) → data_writable (length b) kind size d ≡ true → Fine b kind size d
unfolding data_writable be
fine_of b kind size (Counter n) e =
    let k = both (ltb kind (256 ^ 2)) _ e in
    let c = both (ltb n (256 ^ 4)) (eqb size 4) k.1 in
    let z = eqb-true size 4 c.1 in
    record { kind_fits = ltb-true kind (256 ^ 2) k.0; size_fits = omega arith; size_is = sym z; value_good = ltb-true n (256 ^ 4) c.0 }
fine_of b kind size (Gauge n) e =
    let k = both (ltb kind (256 ^ 2)) _ e in
    let g = both (ltb n (256 ^ 8)) (eqb size 8) k.1 in
    let z = eqb-true size 8 g.1 in
    record { kind_fits = ltb-true kind (256 ^ 2) k.0; size_fits = omega arith; size_is = sym z; value_good = ltb-true n (256 ^ 8) g.0 }
fine_of b kind size (AfiSafiGauge afi safi n) e =
    let k = both (ltb kind (256 ^ 2)) _ e in
    let a = both (ltb afi (256 ^ 2)) _ k.1 in
    let s = both (ltb safi (256 ^ 1)) _ a.1 in
    let g = both (ltb n (256 ^ 8)) (eqb size 11) s.1 in
    let z = eqb-true size 11 g.1 in
    record {
      kind_fits = ltb-true kind (256 ^ 2) k.0;
      size_fits = omega arith;
      size_is = sym z;
      value_good = (ltb-true afi (256 ^ 2) a.0, ltb-true safi (256 ^ 1) s.0, ltb-true n (256 ^ 8) g.0);
    }
fine_of b kind size (Unknown v) e =
    let x = past (eqb size 4) _ e in
    let y = past (eqb size 8) _ x.1 in
    let u = past (eqb size 11) (tlv_fits kind size v (length b)) y.1 in
    let f = fits_of kind size v (length b) u.1 in
    let l = value_long kind size v b f in
    record {
      kind_fits = f.kind_fits;
      size_fits = f.size_fits;
      size_is = l;
      value_good = record { not_4 = λ z. eqb-false size 4 x.0 (sym l ∙ z); not_8 = λ z. eqb-false size 8 y.0 (sym l ∙ z); not_11 = λ z. eqb-false size 11 u.0 (sym l ∙ z) };
    }

-- the view of a raw value lies inside b
abbrev pub InsideData : List ℕ → StatsData → Type 0
InsideData b (Counter n) = Unit {0}
InsideData b (Gauge n) = Unit {0}
InsideData b (AfiSafiGauge afi safi n) = Unit {0}
InsideData b (Unknown v) = v.place + v.length ≤ length b

pub fine_from : (b : List ℕ) (kind size : ℕ) (d : StatsData) → Fine b kind size d → InsideData b d → data_writable (length b) kind size d ≡ true
unfolding data_writable be
fine_from b kind size (Counter n) f h =
    rw (lt-ltb kind (256 ^ 2) f.kind_fits, lt-ltb n (256 ^ 4) f.value_good) (eq-eqb size 4 (sym f.size_is))
fine_from b kind size (Gauge n) f h =
    rw (lt-ltb kind (256 ^ 2) f.kind_fits, lt-ltb n (256 ^ 8) f.value_good) (eq-eqb size 8 (sym f.size_is))
fine_from b kind size (AfiSafiGauge afi safi n) f h =
    let g = f.value_good in
    rw (lt-ltb kind (256 ^ 2) f.kind_fits, lt-ltb afi (256 ^ 2) g.0, lt-ltb safi (256 ^ 1) g.1, lt-ltb n (256 ^ 8) g.2)
    (eq-eqb size 11 (sym f.size_is))
fine_from b kind size (Unknown v) f h =
    let g = f.value_good in
    no_other_form (length b) kind size v
    (⊎_elim (λ e. g.not_4 (f.size_is ∙ e)) (⊎_elim (λ e. g.not_8 (f.size_is ∙ e)) (λ e. g.not_11 (f.size_is ∙ e))))
    ∙ fits_from kind size v (length b) (record { kind_fits = f.kind_fits; size_fits = f.size_fits; view_is = sym (view_long b v h) ∙ f.size_is; within = h })

-- ---- the bytes of data
pub data-bytes : (b : List ℕ) → Bytes b → (d : StatsData) → Bytes (data_bytes b d)
data-bytes b p (Counter n) = bytes_be 4 n
data-bytes b p (Gauge n) = bytes_be 8 n
data-bytes b p (AfiSafiGauge afi safi n) = bytes_append (bytes_be 2 afi) (bytes_append (bytes_be 1 safi) (bytes_be 8 n))
data-bytes b p (Unknown v) = bytes_viewed b v p
