-- What a user of a value relies on. Assumes nothing.
use mathlib.Core.Path.{◌≡◌, refl, sym, ap, ◌∙◌}
use mathlib.Core.List.{List, ◌++◌}
use mathlib.Core.Bool.{Bool, true, false}
use Prim.Native.Nat.{ℕ, ◌-◌, ◌+◌, ◌<◌}
use lib.ListN.{length, take, drop, length-drop, length-append}
use lib.Seq.{length-take-le, take_at}
use Rattle.std.specs.declared.result.Result.TheVariants.{Ok, Err}
use Rattle.wire.specs.Number as Number
use Rattle.wire.specs.Bytes.{Bytes, has}
use Rattle.wire.specs.View.{view}
use Rattle.wire.specs.Refusal.{cut_at}
use Rattle.wire.proofs.Bytes.{bytes_take, bytes_drop}
use Rattle.wire.proofs.Views.{viewed_part}
use Rattle.wire.proofs.Determined.{determined}
use Rattle.stats_data.specs.Grammar.{Value, value_bytes, GoodValue}
use Rattle.stats_data.specs.Shown.{afi_of, safi_of, number_of, data_of, ReadData, value_in, refusal_of, data_read}
use Rattle.stats_data.specs.Read.{value_of, read_data}
use Rattle.stats_data.specs.declared.StatsData.{StatsData}
use Rattle.stats_data.proofs.Values.{value_back, value_forth, data_shown, value_seen}
use native.Mathlib.Omega.{arith}
use borrow.Author.Tests.{le-leb, lt-leb, leb-true}
use Rattle.cursor.specs.Read.{cursor}

-- a value of so many bytes stands at a place, and the answer shows it and the cursor past it
pub record ShowsValue (size : ℕ) (s : List ℕ) (at : ℕ) (v : Value) : Type 0 where
  pub is_good : GoodValue v
  pub long : length (value_bytes v) ≡ size
  pub there : take size (drop at s) ≡ value_bytes v
  pub shown_so : read_data size s at ≡ Ok (afi_of v, safi_of v, number_of at v, cursor (at + size))

-- What is accepted is a good value of that many bytes, and the answer shows it.
pub sound : (size : ℕ) (s : List ℕ) (at : ℕ) → Bytes s → (refusal_of (read_data size s at)).number ≡ Number.Good → (v : Value) × ShowsValue size s at v
sound size s at p e = go (has size s at) refl
  where
    b : List ℕ
    b = take size (drop at s)

    go : (x : Bool) → has size s at ≡ x → (v : Value) × ShowsValue size s at v
    go true h =
        let long : length b ≡ size = length-take-le size (drop at s) (simp length-drop (leb-true size (length s - at) h)) in
        let v = value_back size b (bytes_take size (bytes_drop at p)) long in
        (value_of size b, record { is_good = v.is_good; long = ap length v.bytes_are ∙ long; there = sym v.bytes_are; shown_so = rw h })
    go false h = let z : Number.Cut ≡ Number.Good = (rw h at e) in absurd (omega arith)

-- The bytes of a good value, at any place and whatever follows them, are accepted, and the answer shows that value.
pub complete : (v : Value) → GoodValue v → (s : List ℕ) (at : ℕ) (r : List ℕ) → drop at s ≡ value_bytes v ++ r → ShowsValue (length (value_bytes v)) s at v
complete v g s at r e =
    let size = length (value_bytes v) in
    let there : take size (drop at s) ≡ value_bytes v = ap (take size) e ∙ take_at (value_bytes v) r size refl in
    let left : length s - at ≡ size + length r = sym (length-drop at s) ∙ ap length e ∙ length-append (value_bytes v) r in
    let value-is : value_of size (take size (drop at s)) ≡ v = ap (value_of size) there ∙ value_forth size v g refl in
    record {
      is_good = g;
      long = refl;
      there = there;
      shown_so =
          rw (le-leb size (length s - at) (omega (arith, left))) (ap (λ (w : Value). Ok (afi_of w, safi_of w, number_of at w, cursor (at + size))) value-is);
    }

-- Where fewer bytes are left, the whole value is Cut at its start, with as many missing as it lacks.
pub refuses_cut : (size : ℕ) (s : List ℕ) (at : ℕ) → length s - at < size → read_data size s at ≡ Err (cut_at (length s) at size)
refuses_cut size s at h = rw (lt-leb size (length s - at) h)

-- No bytes are those of two good values.
pub unique : (v w : Value) → GoodValue v → GoodValue w → value_bytes v ≡ value_bytes w → v ≡ w
unique v w g h e =
    let n = length (value_bytes w) in
    sym (value_forth n v g (ap length e)) ∙ ap (value_of n) e ∙ value_forth n w h refl

-- The data that shows a value tells it again: the view of a raw one shows its bytes.
pub views : (size : ℕ) (s : List ℕ) (at : ℕ) (v : Value) → ShowsValue size s at v → value_in s (data_read size (read_data size s at)) ≡ v
views size s at v h =
    ap (λ (a : ReadData). value_in s (data_read size a)) h.shown_so
    ∙ ap (value_in s) (data_shown at size v h.is_good h.long)
    ∙ value_seen s at size v (viewed_part s (view at size) (ap length h.there ∙ h.long) ∙ h.there)

-- ---- any two answers that the contracts allow are equal
pub read_determined : (size : ℕ) (s : List ℕ) (at : ℕ) (r q : ReadData) → r ≡ read_data size s at → q ≡ read_data size s at → r ≡ q
read_determined size s at r q = determined

pub data_determined : (size afi safi number : ℕ) (d e : StatsData) → d ≡ data_of size afi safi number → e ≡ data_of size afi safi number → d ≡ e
data_determined size afi safi number d e = determined
