-- A value and its bytes, both ways, and how the code's answers tell of it. Assumes nothing.
use mathlib.Core.Path.{◌≡◌, refl, sym, ap, ◌∙◌, subst}
use mathlib.Core.List.{List}
use mathlib.Core.Bool.{Bool, true, false}
use Prim.Native.Nat.{ℕ, ◌+◌, ◌-◌, ◌%◌, ◌^◌, ◌≤◌, ◌<◌}
use native.Mathlib.Omega.{arith}
use native.Mathlib.Nat.{add-zero, mod-eq_of_lt}
use borrow.Author.Tests.{eqb-true, eqb-false, ne_eqb, leb-true, leb-false, le-leb, lt-leb}
use lib.Dec.{eqb}
use lib.ListN.{length, take, drop}
use Rattle.std.specs.declared.result.Result.TheVariants.{Ok, Err}
use Rattle.wire.specs.Bytes.{be, pick, has, num_at, Bytes}
use Rattle.wire.specs.Refusal.{cut_at}
use Rattle.cursor.specs.Read.{cursor}
use Rattle.wire.specs.View.{view, viewed}
use Rattle.wire.specs.declared.Refusal.{Refusal}
use Rattle.cursor.specs.declared.Cursor.{Cursor}
use Rattle.wire.proofs.Bytes.{value_be, num_lt, num_back, num_last, num_part}
use Rattle.stats_data.specs.Grammar.{Value, counter, gauge, afi_safi_gauge, raw, value_bytes, GoodValue}
use Rattle.stats_data.specs.Shown.{ReadData, data_at, afi_of, safi_of, number_of, data_of, value_in}
use Rattle.stats_data.specs.Read.{value_of, whole_data, read_data}
use Rattle.stats_data.specs.declared.StatsData.TheVariants.{Counter, AfiSafiGauge}

-- the form of a value, by its length
pub data Form (size : ℕ) (b : List ℕ) : Value → Type 0 where
  is_4 : size ≡ 4 → Form size b (counter (num_at 4 b 0))
  is_8 : size ≡ 8 → Form size b (gauge (num_at 8 b 0))
  is_11 : size ≡ 11 → Form size b (afi_safi_gauge (num_at 2 b 0) (num_at 1 b 2) (num_at 8 b 3))
  is-raw : (size ≡ 4 → ⊥) → (size ≡ 8 → ⊥) → (size ≡ 11 → ⊥) → Form size b (raw b)

form : (size : ℕ) (b : List ℕ) → Form size b (value_of size b)
unfolding value_of
form size b = go (eqb size 4) refl (eqb size 8) refl (eqb size 11) refl
  where
    go : (x : Bool) → eqb size 4 ≡ x → (y : Bool) → eqb size 8 ≡ y → (z : Bool) → eqb size 11 ≡ z
        → Form size b (pick x (counter (num_at 4 b 0)) (pick y (gauge (num_at 8 b 0)) (pick z (afi_safi_gauge (num_at 2 b 0) (num_at 1 b 2) (num_at 8 b 3)) (raw b))))
    go true h y k z l = is_4 (eqb-true size 4 h)
    go false h true k z l = is_8 (eqb-true size 8 k)
    go false h false k true l = is_11 (eqb-true size 11 l)
    go false h false k false l = is-raw (eqb-false size 4 h) (eqb-false size 8 k) (eqb-false size 11 l)

pub of_form : (size : ℕ) (b : List ℕ) {v : Value} → Form size b v → value_of size b ≡ v
unfolding value_of
of_form size b (is_4 e) = rw e
of_form size b (is_8 e) = rw e
of_form size b (is_11 e) = rw e
of_form size b (is-raw h k l) = rw (ne_eqb size 4 h, ne_eqb size 8 k, ne_eqb size 11 l)

-- ---- bytes as a value, and back
pub record Back (b : List ℕ) (v : Value) : Type 0 where
  pub is_good : GoodValue v
  pub bytes_are : value_bytes v ≡ b

pub value_back : (size : ℕ) (b : List ℕ) → Bytes b → length b ≡ size → Back b (value_of size b)
value_back size b p e = go (form size b)
  where
    go : {v : Value} → Form size b v → Back b v
    go (is_4 h) = record { is_good = num_lt 4 0 p; bytes_are = num_last 4 0 p (omega arith) }
    go (is_8 h) = record { is_good = num_lt 8 0 p; bytes_are = num_last 8 0 p (omega arith) }
    go (is_11 h) =
        record {
          is_good = (num_lt 2 0 p, num_lt 1 2 p, num_lt 8 3 p);
          bytes_are = rw (num_last 8 3 p (omega arith), num_back 1 2 p (omega arith)) (num_back 2 0 p (omega arith));
        }
    go (is-raw h k l) = record { is_good = record { not_4 = λ q. h (sym e ∙ q); not_8 = λ q. k (sym e ∙ q); not_11 = λ q. l (sym e ∙ q) }; bytes_are = refl }

by_length : (v : Value) → GoodValue v → value_of (length (value_bytes v)) (value_bytes v) ≡ v
unfolding be value_of
by_length (counter n) g = ap counter (value_be 4 n g)
by_length (gauge n) g = ap gauge (value_be 8 n g)
by_length (afi_safi_gauge afi safi n) g = λ i. afi_safi_gauge (value_be 2 afi g.0 i) (value_be 1 safi g.1 i) (value_be 8 n g.2 i)
by_length (raw b) g = rw (ne_eqb (length b) 4 g.not_4, ne_eqb (length b) 8 g.not_8, ne_eqb (length b) 11 g.not_11)

pub value_forth : (size : ℕ) (v : Value) → GoodValue v → length (value_bytes v) ≡ size → value_of size (value_bytes v) ≡ v
value_forth size v g e = subst (λ (k : ℕ). value_of k (value_bytes v) ≡ v) e (by_length v g)

-- ---- a value that is read at a place, by its length
module _ (size : ℕ) (s : List ℕ) (at : ℕ) where
  pub value_4 : size ≡ 4 → counter (num_at 4 s at) ≡ value_of size (take size (drop at s))
  value_4 e = rw (e, of_form 4 (take 4 (drop at s)) (is_4 refl), num_part 4 0 4 s at (omega arith), add-zero at)

  pub value_8 : size ≡ 8 → gauge (num_at 8 s at) ≡ value_of size (take size (drop at s))
  value_8 e = rw (e, of_form 8 (take 8 (drop at s)) (is_8 refl), num_part 8 0 8 s at (omega arith), add-zero at)

  pub value_11 : size ≡ 11 → afi_safi_gauge (num_at 2 s at) (num_at 1 s (at + 2)) (num_at 8 s (at + 3)) ≡ value_of size (take size (drop at s))
  value_11 e =
      rw (
        e,
        of_form 11 (take 11 (drop at s)) (is_11 refl),
        num_part 2 0 11 s at (omega arith),
        add-zero at,
        num_part 1 2 11 s at (omega arith),
        num_part 8 3 11 s at (omega arith),
      )

  pub value_raw : (size ≡ 4 → ⊥) → (size ≡ 8 → ⊥) → (size ≡ 11 → ⊥) → raw (take size (drop at s)) ≡ value_of size (take size (drop at s))
  value_raw h k l = sym (of_form size (take size (drop at s)) (is-raw h k l))

-- ---- both answers of a value that is read at a place
module _ (size : ℕ) (s : List ℕ) (at : ℕ) where
  pub data_good : (v : Value) → v ≡ value_of size (take size (drop at s)) → (afi safi n : ℕ) → size ≤ length s - at
      → afi ≡ afi_of v → safi ≡ safi_of v → n ≡ number_of at v → ◌≡◌ {A = ReadData} (Ok (afi, safi, n, cursor (at + size))) (read_data size s at)
  data_good v e afi safi n h p q r =
      (λ i. Ok (p i, q i, r i, cursor (at + size))) ∙ sym (rw (le-leb size (length s - at) h)) ∙ ap (whole_data size s at) e

  pub data_cut : (r : Refusal) → length s - at < size → r ≡ cut_at (length s) at size → ◌≡◌ {A = ReadData} (Err r) (read_data size s at)
  data_cut r h p = (λ i. Err (p i)) ∙ sym (rw (lt-leb size (length s - at) h))

  -- and the other way
  pub record WasData (afi safi n : ℕ) (c : Cursor) : Type 0 where
    pub left : size ≤ length s - at
    pub afi_is : afi ≡ afi_of (value_of size (take size (drop at s)))
    pub safi_is : safi ≡ safi_of (value_of size (take size (drop at s)))
    pub number_is : n ≡ number_of at (value_of size (take size (drop at s)))
    pub next : c.at ≡ at + size

  pub was_data : (afi safi n : ℕ) (c : Cursor) → ◌≡◌ {A = ReadData} (Ok (afi, safi, n, c)) (read_data size s at) → WasData afi safi n c
  was_data afi safi n c = go (has size s at) refl
    where
      v : Value
      v = value_of size (take size (drop at s))

      go : (x : Bool) → has size s at ≡ x
          → ◌≡◌ {A = ReadData} (Ok (afi, safi, n, c)) (pick x (Ok (afi_of v, safi_of v, number_of at v, cursor (at + size))) (Err (cut_at (length s) at size)))
          → WasData afi safi n c
      go true h q =
          let all : ◌≡◌ {A = ℕ × ℕ × ℕ × Cursor} (afi, safi, n, c) (afi_of v, safi_of v, number_of at v, cursor (at + size)) = cc in
          record {
            left = leb-true size (length s - at) h;
            afi_is = ap (λ (d : ℕ × ℕ × ℕ × Cursor). d.0) all;
            safi_is = ap (λ (d : ℕ × ℕ × ℕ × Cursor). d.1) all;
            number_is = ap (λ (d : ℕ × ℕ × ℕ × Cursor). d.2) all;
            next = ap (λ (d : ℕ × ℕ × ℕ × Cursor). d.3.at) all;
          }
      go false h q = let z : ◌≡◌ {A = ℕ} 0 1 = cc in absurd (omega arith)

  pub no_data : (r : Refusal) → ◌≡◌ {A = ReadData} (Err r) (read_data size s at) → (length s - at < size) × (r ≡ cut_at (length s) at size)
  no_data r = go (has size s at) refl
    where
      v : Value
      v = value_of size (take size (drop at s))

      go : (x : Bool) → has size s at ≡ x
          → ◌≡◌ {A = ReadData} (Err r) (pick x (Ok (afi_of v, safi_of v, number_of at v, cursor (at + size))) (Err (cut_at (length s) at size)))
          → (length s - at < size) × (r ≡ cut_at (length s) at size)
      go true h q = let z : ◌≡◌ {A = ℕ} 0 1 = cc in absurd (omega arith)
      go false h q = (leb-false size (length s - at) h, cc)

-- ---- the numbers of a good value say the data that shows it
by_numbers : (place : ℕ) (v : Value) → GoodValue v
    → data_of (length (value_bytes v)) (afi_of v) (safi_of v) (number_of place v) ≡ data_at place (length (value_bytes v)) v
unfolding be data_of
by_numbers place (counter n) g = ap Counter (mod-eq_of_lt g)
by_numbers place (gauge n) g = refl
by_numbers place (afi_safi_gauge afi safi n) g = let safi_is : safi % 2 ^ 8 ≡ safi = mod-eq_of_lt g.1 in λ i. AfiSafiGauge afi (safi_is i) n
by_numbers place (raw b) g = rw (ne_eqb (length b) 4 g.not_4, ne_eqb (length b) 8 g.not_8, ne_eqb (length b) 11 g.not_11)

pub data_shown : (place size : ℕ) (v : Value) → GoodValue v → length (value_bytes v) ≡ size
    → data_of size (afi_of v) (safi_of v) (number_of place v) ≡ data_at place size v
data_shown place size v g e =
    subst (λ (k : ℕ). data_of k (afi_of v) (safi_of v) (number_of place v) ≡ data_at place k v) e (by_numbers place v g)

-- ---- data that shows a value says it again, where its view shows the value's bytes
pub value_seen : (s : List ℕ) (place size : ℕ) (v : Value) → viewed s (view place size) ≡ value_bytes v → value_in s (data_at place size v) ≡ v
value_seen s place size (counter n) e = refl
value_seen s place size (gauge n) e = refl
value_seen s place size (afi_safi_gauge afi safi n) e = refl
value_seen s place size (raw b) e = ap raw e
