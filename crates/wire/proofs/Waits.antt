-- What one who waits for the missing bytes gets, by how a reader judges its input: by needs, tests and walks, one after the other.
-- Assumes nothing.
use mathlib.Core.Path.{◌≡◌, refl, sym, ap, ◌∙◌}
use mathlib.Core.Bool.{Bool, true, false}
use mathlib.Core.List.{List, ◌++◌}
use Prim.Native.Nat.{ℕ, ◌+◌, ◌-◌, ◌≤◌, ◌<◌}
use native.Mathlib.Omega.{arith}
use borrow.Author.Tests.{leb-true, leb-false, ltb-true, ltb-false, eqb-false, le-leb, lt-leb, le-ltb}
use lib.Dec.{leb, ltb, eqb}
use lib.ListN.{length, take, drop, length-append, length-drop}
use lib.Seq.{take-append-le, drop-append-le}
use Rattle.wire.specs.Number as Number
use Rattle.wire.specs.Bytes.{pick, value, has, num_at, number_at}
use Rattle.wire.specs.Refusal.{refusal, lacking, cut_at}
use Rattle.wire.specs.Exactly.{Reader}
use Rattle.wire.specs.Waits.{Waited, WaitsBut, TellsMissing, MissingTells}
use Rattle.wire.specs.declared.Refusal.{Refusal}
use Rattle.wire.proofs.Bytes.{number_is}

-- ---- a refusal that is no Cut
module _ (n p : ℕ) (other : eqb n Number.Cut ≡ false) where
  pub other_waited : {Again : ℕ → Type 0} {k : ℕ} {q : Refusal} → Waited Again k (refusal n p) q
  other_waited =
      record {
        too_few = λ e h. absurd (eqb-false n Number.Cut other e);
        enough = λ e h c d. absurd (eqb-false n Number.Cut other e);
      }

  pub other_tells : TellsMissing (refusal n p)
  other_tells = record { cut_lacks = λ e. absurd (eqb-false n Number.Cut other e); lacking_cut = λ h. absurd (omega arith) }

-- ---- a need of w bytes at a place of n bytes, and then what is judged behind it; the same with k bytes more
pub cut_tells : (n at w : ℕ) → n - at < w → TellsMissing (cut_at n at w)
cut_tells n at w h = record { cut_lacks = λ e. omega arith; lacking_cut = λ e. refl }

module _ (Again : ℕ → Type 0) (n k m at w : ℕ) (long : m ≡ n + k) (inside : at ≤ n) where
  -- the second need is not met either
  few_waited : m - at < w → Waited Again k (cut_at n at w) (cut_at m at w)
  few_waited h =
      let missing_is : w - (m - at) ≡ w - (n - at) - k = omega arith in
      record { too_few = λ e l. λ i. lacking at (missing_is i); enough = λ e l c d. absurd (omega arith) }

  pub need_waited : (r q : Refusal) → (at + w ≤ n → Waited Again k r q)
      → (n - at < w → at + w ≤ m → q.number ≡ Number.Cut → q.place ≡ at → Again at)
      → Waited Again k (pick (leb w (n - at)) r (cut_at n at w)) (pick (leb w (m - at)) q (cut_at m at w))
  need_waited r q behind now = go (leb w (n - at)) refl (leb w (m - at)) refl
    where
      go : (b : Bool) → leb w (n - at) ≡ b → (c : Bool) → leb w (m - at) ≡ c → Waited Again k (pick b r (cut_at n at w)) (pick c q (cut_at m at w))
      go true hb true hc = let l = leb-true w (n - at) hb in behind (omega arith)
      go true hb false hc = let l = leb-true w (n - at) hb in let f = leb-false w (m - at) hc in absurd (omega arith)
      go false hb true hc =
          let f = leb-false w (n - at) hb in
          let l = leb-true w (m - at) hc in
          record { too_few = λ e h. absurd (omega arith); enough = λ e h. now f (omega arith) }
      go false hb false hc = few_waited (leb-false w (m - at) hc)

-- ---- what depends on the first bytes alone
abbrev pub FromFront : {A : Type 0} → ℕ → (List ℕ → A) → Type 0
FromFront n f = (s t : List ℕ) → n ≤ length s → f (s ++ t) ≡ f s

-- as a number that stands among them does, and all that is made of it
pub part_more : (n at : ℕ) (s t : List ℕ) → at + n ≤ length s → take n (drop at (s ++ t)) ≡ take n (drop at s)
part_more n at s t h =
    ap (take n) (drop-append-le at s t (omega arith)) ∙ take-append-le n (drop at s) t (rw (length-drop at s) (omega arith))

pub by_number : {A : Type 0} (w at : ℕ) {n : ℕ} → at + w ≤ n → (f : ℕ → A) → FromFront n (λ s. f (num_at w s at))
by_number w at h f s t l = ap (λ (b : List ℕ). f (value b)) (part_more w at s t (omega arith))

pub by_number_at : {A : Type 0} (w at : ℕ) {n : ℕ} → at + w ≤ n → (f : ℕ → A) → FromFront n (λ s. f (number_at w s at))
by_number_at w at {n} h f s t l =
    let longer = length-append s t in
    let there : number_at w (s ++ t) at ≡ num_at w (s ++ t) at = number_is w (s ++ t) at (omega arith) in
    let here : number_at w s at ≡ num_at w s at = number_is w s at (omega arith) in
    rw (there, here) (by_number w at h f s t l)

-- How a reader judges an input from a place on, where so many bytes are known to be there: with which refusal; what waiting gets; that each Cut is
-- at that place or behind it; and that it is told.
pub record Judge (Again : List ℕ → ℕ → ℕ → Type 0) (at known : ℕ) : Type 0 where
  pub judge : List ℕ → Refusal
  pub waited : (s t : List ℕ) → at ≤ length s → known ≤ length s → Waited (Again s (length (s ++ t))) (length t) (judge s) (judge (s ++ t))
  pub not_before : (s : List ℕ) → at ≤ length s → known ≤ length s → (judge s).number ≡ Number.Cut → at ≤ (judge s).place
  pub tells : (s : List ℕ) → at ≤ length s → known ≤ length s → TellsMissing (judge s)

module _ {Again : List ℕ → ℕ → ℕ → Type 0} {at known : ℕ} where
  -- it ends with a number that is no Cut
  unfoldable pub ends : (n p : ℕ) → eqb n Number.Cut ≡ false → Judge Again at known
  ends n p other =
      record {
        judge = λ s. refusal n p;
        waited = λ s t h k. other_waited n p other;
        not_before = λ s h k e. absurd (eqb-false n Number.Cut other e);
        tells = λ s h k. other_tells n p other;
      }

  unfoldable pub good : Judge Again at known
  good = ends Number.Good 0 refl

  -- it goes by a test of the bytes that are known
  unfoldable pub test : (b : List ℕ → Bool) → FromFront known b → Judge Again at known → Judge Again at known → Judge Again at known
  test b front x y =
      record {
        judge = λ s. pick (b s) (x.judge s) (y.judge s);
        waited = waited_so;
        not_before = λ s h k. go_before s h k (b s);
        tells = λ s h k. go_tells s h k (b s);
      }
    where
      waited_so : (s t : List ℕ) → at ≤ length s → known ≤ length s
          → Waited (Again s (length (s ++ t))) (length t) (pick (b s) (x.judge s) (y.judge s)) (pick (b (s ++ t)) (x.judge (s ++ t)) (y.judge (s ++ t)))
      waited_so s t h k = rw (front s t k) (go (b s))
        where
          go : (c : Bool) → Waited (Again s (length (s ++ t))) (length t) (pick c (x.judge s) (y.judge s)) (pick c (x.judge (s ++ t)) (y.judge (s ++ t)))
          go true = x.waited s t h k
          go false = y.waited s t h k

      go_before : (s : List ℕ) → at ≤ length s → known ≤ length s → (c : Bool) → (pick c (x.judge s) (y.judge s)).number ≡ Number.Cut
          → at ≤ (pick c (x.judge s) (y.judge s)).place
      go_before s h k true = x.not_before s h k
      go_before s h k false = y.not_before s h k

      go_tells : (s : List ℕ) → at ≤ length s → known ≤ length s → (c : Bool) → TellsMissing (pick c (x.judge s) (y.judge s))
      go_tells s h k true = x.tells s h k
      go_tells s h k false = y.tells s h k

  -- it goes by a number that the bytes that are known give
  unfoldable pub given : (f : List ℕ → ℕ) → FromFront known f → ((n : ℕ) → Judge (λ s m p. f s ≡ n → Again s m p) at known) → Judge Again at known
  given f front x =
      record {
        judge = λ s. (x (f s)).judge s;
        waited = λ s t h k.
            let w = (x (f s)).waited s t h k in
            rw (front s t k) (record { too_few = w.too_few; enough = λ c l d e. w.enough c l d e refl });
        not_before = λ s. (x (f s)).not_before s;
        tells = λ s. (x (f s)).tells s;
      }

  -- it needs w bytes, and goes on at a place among them; where they have come since, and it is Cut here again, `Again` has to say so
  unfoldable pub need : (w p : ℕ) → at ≤ p → p ≤ at + w → (x : Judge Again p (at + w))
      → ((s t : List ℕ) → at ≤ length s → length s - at < w → at + w ≤ length (s ++ t) → (x.judge (s ++ t)).number ≡ Number.Cut
      → (x.judge (s ++ t)).place ≡ at → Again s (length (s ++ t)) at)
      → Judge Again at known
  need w p from-here to-there x again =
      record {
        judge = λ s. pick (has w s at) (x.judge s) (cut_at (length s) at w);
        waited = λ s t h k.
            need_waited (Again s (length (s ++ t))) (length s) (length t) (length (s ++ t)) at w (length-append s t) h (x.judge s) (x.judge (s ++ t))
            (λ l. x.waited s t (omega arith) l) (again s t h);
        not_before = λ s h k. go_before s h (has w s at) refl;
        tells = λ s h k. go_tells s h (has w s at) refl;
      }
    where
      go_before : (s : List ℕ) → at ≤ length s → (b : Bool) → has w s at ≡ b → (pick b (x.judge s) (cut_at (length s) at w)).number ≡ Number.Cut
          → at ≤ (pick b (x.judge s) (cut_at (length s) at w)).place
      go_before s h true e c =
          let l = leb-true w (length s - at) e in
          let b = x.not_before s (omega arith) (omega arith) c in
          omega arith
      go_before s h false e c = omega arith

      go_tells : (s : List ℕ) → at ≤ length s → (b : Bool) → has w s at ≡ b → TellsMissing (pick b (x.judge s) (cut_at (length s) at w))
      go_tells s h true e = let l = leb-true w (length s - at) e in x.tells s (omega arith) (omega arith)
      go_tells s h false e = cut_tells (length s) at w (leb-false w (length s - at) e)

  -- it needs w bytes, and goes on behind them
  unfoldable pub ask : (w : ℕ) → Judge Again (at + w) (at + w) → Judge Again at known
  ask w x =
      need w (at + w) (omega arith) (omega arith) x
      (λ s t h few l c e. let b = x.not_before (s ++ t) l l c in absurd (omega arith))

  -- it needs w bytes, and goes on in front of them: so it may be Cut here once more
  unfoldable pub look : (w : ℕ) → ((s : List ℕ) (m : ℕ) → at ≤ length s → length s - at < w → at + w ≤ m → Again s m at) → Judge Again at (at + w)
      → Judge Again at known
  look w again x = need w at (omega arith) (omega arith) x (λ s t h few l c e. again s (length (s ++ t)) h few l)

-- ---- a reader that judges the length, and then goes on from the start
module _ {Again : List ℕ → ℕ → ℕ → Type 0} (R : Reader) (x : Judge Again 0 0)
    (reads : (s : List ℕ) → R.refusal_of (R.read s) ≡ pick (ltb Number.limit (length s)) (refusal Number.TooLong 0) (x.judge s)) where
  short_read : (s : List ℕ) → length s ≤ Number.limit → R.refusal_of (R.read s) ≡ x.judge s
  short_read s h = reads s ∙ rw (le-ltb Number.limit (length s) h)

  pub waits_by : WaitsBut Again R
  waits_by s t h =
      let both = length-append s t in
      rw (short_read s (omega arith), short_read (s ++ t) h) (x.waited s t (omega arith) (omega arith))

  pub tells_by : MissingTells R
  tells_by s = rw (reads s) (go (ltb Number.limit (length s)))
    where
      go : (b : Bool) → TellsMissing (pick b (refusal Number.TooLong 0) (x.judge s))
      go true = other_tells Number.TooLong 0 refl
      go false = x.tells s (omega arith) (omega arith)

-- ---- what a function says of the answer that a test picks is picked by the test
pub said_by : {A B : Type 0} (f : A → B) (b : Bool) {x y : A} {p q : B} → (b ≡ true → f x ≡ p) → (b ≡ false → f y ≡ q) → f (pick b x y) ≡ pick b p q
said_by f true e d = e refl
said_by f false e d = d refl

pub said : {A B : Type 0} (f : A → B) (b : Bool) {x y : A} {p q : B} → f x ≡ p → f y ≡ q → f (pick b x y) ≡ pick b p q
said f b e d = said_by f b (λ h. e) (λ h. d)

-- where readers test for too few bytes, and a need for enough of them
pub said_few : {A B : Type 0} (f : A → B) (n w : ℕ) {x y : A} {p q : B} → (n < w → f x ≡ p) → (w ≤ n → f y ≡ q) → f (pick (ltb n w) x y) ≡ pick (leb w n) q p
said_few {A} {B} f n w {x} {y} {p} {q} e d = go (ltb n w) refl
  where
    go : (b : Bool) → ltb n w ≡ b → f (pick b x y) ≡ pick (leb w n) q p
    go true h = let few = ltb-true n w h in e few ∙ sym (rw (lt-leb w n few))
    go false h = let enough = ltb-false n w h in d enough ∙ sym (rw (le-leb w n enough))
