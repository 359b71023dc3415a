-- What one who waits for the missing bytes gets of a walk: one law for every kit, by what its step says. Assumes nothing.
use mathlib.Core.Path.{◌≡◌, refl, sym, ap, ◌∙◌, subst}
use mathlib.Core.Bool.{Bool, true, false}
use mathlib.Core.List.{List, [], ◌∷◌, ◌++◌}
use Prim.Native.Nat.{ℕ, zero, suc, ◌+◌, ◌-◌, ◌≤◌, ◌<◌}
use native.Mathlib.Omega.{arith}
use borrow.Author.Tests.{leb-true, leb-false, ltb-true, ltb-false, eqb-false}
use lib.Dec.{leb, ltb, eqb}
use lib.ListN.{length, drop, set, replicate, length-drop, length-append}
use lib.Seq.{drop-append-le}
use Rattle.wire.specs.Number as Number
use Rattle.wire.specs.Bytes.{pick, num_at}
use Rattle.wire.specs.Refusal.{refusal, no_refusal, lacking, cut_at}
use Rattle.wire.specs.Walk.{Step, stop, bad, item, End, tail, fault, Kit, Out, good, refused, from, fill, resume, read_from}
use Rattle.wire.specs.Exactly.{Reader}
use Rattle.wire.specs.Waits.{Waited, Waits, Never, TellsMissing, MissingTells}
use Rattle.wire.specs.declared.Refusal.{Refusal}
use Rattle.wire.proofs.Walk.{Takes, resume_done, resume_stop, resume_bad, resume_full, resume_room}
use Rattle.wire.proofs.Waits.{Judge, other_waited, other_tells, by_number, waits_by, tells_by, said}

-- a test says whether fewer than w bytes are left at a place of n bytes
abbrev pub Lacks : Bool → ℕ → ℕ → ℕ → Type 0
Lacks b n at w = (b ≡ true → n - at < w) × (b ≡ false → w ≤ n - at)

pub lacks : (n at w : ℕ) → Lacks (ltb (n - at) w) n at w
lacks n at w = (ltb-true (n - at) w, ltb-false (n - at) w)

-- ---- one step at the front of some bytes, and the same with k bytes more behind them
module _ {A : Type 0} (size : A → ℕ) where
  -- the field at a place is whole now: there is no Cut of it, and an item goes beyond it
  abbrev pub Past : ℕ → Step A → Type 0
  Past p stop = Unit {0}
  Past p (bad r) = r.number ≡ Number.Cut → r.place ≡ p → ⊥
  Past p (item a) = p < size a

  pub record BadWaited (k : ℕ) (r : Refusal) (y : Step A) : Type 0 where
    pub too_few : r.number ≡ Number.Cut → k < r.missing → y ≡ bad (lacking r.place (r.missing - k))
    pub enough : r.number ≡ Number.Cut → r.missing ≤ k → Past r.place y

  -- a fault is waited for as a refusal is, and an item stays the same item
  pub data StepWaited (k : ℕ) : Step A → Step A → Type 0 where
    stopped : {y : Step A} → StepWaited k stop y
    faulty : {r : Refusal} {y : Step A} → BadWaited k r y → StepWaited k (bad r) y
    whole : {a : A} → StepWaited k (item a) (item a)

  -- ---- a step that is made by tests, one after the other
  module _ (k : ℕ) where
    pub step_fault : (n p : ℕ) → eqb n Number.Cut ≡ false → {y : Step A} → StepWaited k (bad (refusal n p)) y
    step_fault n p other =
        faulty {r = refusal n p} (record { too_few = λ e h. absurd (eqb-false n Number.Cut other e); enough = λ e h. absurd (eqb-false n Number.Cut other e) })

    -- a test that has the same outcome
    pub step_test : (b c : Bool) {x y v w : Step A} → c ≡ b → (b ≡ true → StepWaited k x v) → (b ≡ false → StepWaited k y w)
        → StepWaited k (pick b x y) (pick c v w)
    step_test true c e p q = rw e (p refl)
    step_test false c e p q = rw e (q refl)

    -- a stop may be none any more
    pub step_stop : (b c : Bool) {x y : Step A} → (b ≡ false → c ≡ false) → (b ≡ false → StepWaited k x y) → StepWaited k (pick b stop x) (pick c stop y)
    step_stop true c e p = stopped
    step_stop false c e p = rw (e refl) (p refl)

    -- a need of w bytes at a place of n bytes, by whatever test it is asked for
    pub step_need : (n m at w : ℕ) → m ≡ n + k → at ≤ n → (b c : Bool) → Lacks b n at w → Lacks c m at w → {x y : Step A} → (at + w ≤ n → StepWaited k x y)
        → (n - at < w → at + w ≤ m → Past at y) → StepWaited k (pick b (bad (cut_at n at w)) x) (pick c (bad (cut_at m at w)) y)
    step_need n m at w long inside true true hb hc behind now =
        let f = hc.0 refl in
        let missing_is : w - (m - at) ≡ w - (n - at) - k = omega arith in
        faulty {r = cut_at n at w} (record { too_few = λ e l. λ i. bad (lacking at (missing_is i)); enough = λ e l. absurd (omega arith) })
    step_need n m at w long inside true false hb hc behind now =
        let f = hb.0 refl in
        let l = hc.1 refl in
        faulty {r = cut_at n at w} (record { too_few = λ e h. absurd (omega arith); enough = λ e h. now f (omega arith) })
    step_need n m at w long inside false true hb hc behind now = let l = hb.1 refl in let f = hc.0 refl in absurd (omega arith)
    step_need n m at w long inside false false hb hc behind now = let l = hb.1 refl in behind (omega arith)

-- a number that is there stays the same
pub num_more : (w at : ℕ) (s t : List ℕ) → at + w ≤ length s → num_at w (s ++ t) at ≡ num_at w s at
num_more w at s t h = by_number w at h (λ n. n) s t (omega arith)

-- a fault says that bytes are missing exactly where it is a Cut
abbrev pub StepTells : {A : Type 0} → Step A → Type 0
StepTells stop = Unit {0}
StepTells (bad r) = TellsMissing r
StepTells (item a) = Unit {0}

-- ---- all of the walk
-- the refusal of what it hands back
abbrev pub refusal_in : {T : Type 0} → Out T → Refusal
refusal_in (good n at table z) = no_refusal
refusal_in (refused r) = r

-- and of the answer that is made of that
pub walk_said : {A T : Type 0} (refusal_of : A → Refusal) (answer : Out T → A)
    → ((n at : ℕ) (table : List T) (z : List ℕ) → refusal_of (answer (good n at table z)) ≡ no_refusal) → ((r : Refusal) → refusal_of (answer (refused r)) ≡ r)
    → (o : Out T) → refusal_of (answer o) ≡ refusal_in o
walk_said refusal_of answer when-good when-refused (good n at table z) = when-good n at table z
walk_said refusal_of answer when-good when-refused (refused r) = when-refused r

pub record StepsWait (K : Kit) : Type 0 where
  pub takes : Takes K
  pub steps : (s t : List ℕ) → StepWaited K.size (length t) (K.step s) (K.step (s ++ t))
  pub tells : (s : List ℕ) → StepTells (K.step s)

-- each Cut is at the place where the walk starts or behind it
pub fill_not_before : (K : Kit) (l : List K.Item) (n at : ℕ) (table : List K.Entry) (e : End) → (refusal_in (fill K n at table l e)).number ≡ Number.Cut
    → at ≤ (refusal_in (fill K n at table l e)).place
unfolding fill
fill_not_before K [] n at table (tail z) c = absurd (omega arith)
fill_not_before K [] n at table (fault r) c = omega arith
fill_not_before K (a ∷ l) n at table e c = go (leb K.limit n) (fill_not_before K l (n + 1) (at + K.size a) (set table n (K.entry at a)) e) c
  where
    o : Out K.Entry
    o = fill K (n + 1) (at + K.size a) (set table n (K.entry at a)) l e

    go : (b : Bool) → ((refusal_in o).number ≡ Number.Cut → at + K.size a ≤ (refusal_in o).place)
        → (refusal_in (pick b (refused (refusal Number.TooMany at)) o)).number ≡ Number.Cut → at ≤ (refusal_in (pick b (refused (refusal Number.TooMany at)) o)).place
    go true i c = absurd (omega arith)
    go false i c = omega (arith, i c)

module _ (K : Kit) (wait : StepsWait K) where
  pub resume_tells : (f n at : ℕ) (table : List K.Entry) (s : List ℕ) → TellsMissing (refusal_in (resume K f n at table s))
  resume_tells zero n at table s = rw (resume_done K n at table s) (other_tells Number.Good 0 refl)
  resume_tells (suc f) n at table s =
      go (K.step (drop at s)) refl (wait.tells (drop at s)) (λ a. resume_tells f (n + 1) (at + K.size a) (set table n (K.entry at a)) s)
    where
      Onwards : K.Item → Type 0
      Onwards a = TellsMissing (refusal_in (resume K f (n + 1) (at + K.size a) (set table n (K.entry at a)) s))

      room : (a : K.Item) → K.step (drop at s) ≡ item a → (b : Bool) → leb K.limit n ≡ b → Onwards a → TellsMissing (refusal_in (resume K (suc f) n at table s))
      room a e true l i = rw (resume_full K n at table s (suc f) f refl a e (leb-true K.limit n l)) (other_tells Number.TooMany at refl)
      room a e false l i = rw (resume_room K n at table s (suc f) f refl a e (leb-false K.limit n l)) i

      go : (x : Step K.Item) → K.step (drop at s) ≡ x → StepTells (K.step (drop at s)) → ((a : K.Item) → Onwards a)
          → TellsMissing (refusal_in (resume K (suc f) n at table s))
      go stop e h i = rw (resume_stop K n at table s (suc f) e) (other_tells Number.Good 0 refl)
      go (bad r) e h i =
          let told : TellsMissing r = subst StepTells e h in
          rw (resume_bad K n at table s (suc f) f refl r e) (record { cut_lacks = told.cut_lacks; lacking_cut = told.lacking_cut })
      go (item a) e h i = room a e (leb K.limit n) refl (i a)

  module _ (Again : ℕ → Type 0) (s t : List ℕ) where
    -- the fault of a step, seen from the start
    bad_waited : (g n at : ℕ) (table : List K.Entry) (r : Refusal) → BadWaited K.size (length t) r (K.step (drop at (s ++ t)))
        → Waited Again (length t) (from at r) (refusal_in (resume K (suc g) n at table (s ++ t)))
    bad_waited g n at table r w =
        record {
          too_few = λ e h. ap refusal_in (resume_bad K n at table (s ++ t) (suc g) g refl _ (w.too_few e h));
          enough = λ e h. go (K.step (drop at (s ++ t))) refl (w.enough e h);
        }
      where
        Cut-here : Type 0
        Cut-here =
            (refusal_in (resume K (suc g) n at table (s ++ t))).number ≡ Number.Cut → (refusal_in (resume K (suc g) n at table (s ++ t))).place ≡ at + r.place
            → Again (at + r.place)

        room : (a : K.Item) → K.step (drop at (s ++ t)) ≡ item a → r.place < K.size a → (b : Bool) → leb K.limit n ≡ b → Cut-here
        room a e beyond true l =
            rw (resume_full K n at table (s ++ t) (suc g) g refl a e (leb-true K.limit n l)) (λ c d. absurd (omega arith))
        room a e beyond false l =
            rw (resume_room K n at table (s ++ t) (suc g) g refl a e (leb-false K.limit n l))
            (λ c d. let b = fill_not_before K _ (n + 1) (at + K.size a) (set table n (K.entry at a)) _ c in absurd (omega (arith, b, d)))

        go : (y : Step K.Item) → K.step (drop at (s ++ t)) ≡ y → Past K.size r.place (K.step (drop at (s ++ t))) → Cut-here
        go stop e past = rw (resume_stop K n at table (s ++ t) (suc g) e) (λ c d. absurd (omega arith))
        go (bad q) e past =
            let apart : Past K.size r.place (bad q) = subst (Past K.size r.place) e past in
            rw (resume_bad K n at table (s ++ t) (suc g) g refl q e) (λ c d. absurd (apart c (omega (arith, d))))
        go (item a) e past = room a e (subst (Past K.size r.place) e past) (leb K.limit n) refl

    -- a walk that may take more items where there are more bytes
    pub resume_waited : (f g n at : ℕ) (table : List K.Entry) → f ≤ g → at ≤ length s
        → Waited Again (length t) (refusal_in (resume K f n at table s)) (refusal_in (resume K g n at table (s ++ t)))
    resume_waited zero g n at table more inside = rw (resume_done K n at table s) (other_waited Number.Good 0 refl)
    resume_waited (suc f) zero n at table more inside = absurd (omega arith)
    resume_waited (suc f) (suc g) n at table more inside =
        go (K.step (drop at s)) (K.step (drop at (s ++ t))) refl refl (rw (drop-append-le at s t inside) (wait.steps (drop at s) t))
        (λ a. resume_waited f g (n + 1) (at + K.size a) (set table n (K.entry at a)) (omega arith))
      where
        Here : Type 0
        Here = Waited Again (length t) (refusal_in (resume K (suc f) n at table s)) (refusal_in (resume K (suc g) n at table (s ++ t)))

        Onwards : K.Item → Type 0
        Onwards a =
            at + K.size a ≤ length s
            → Waited Again (length t) (refusal_in (resume K f (n + 1) (at + K.size a) (set table n (K.entry at a)) s))
            (refusal_in (resume K g (n + 1) (at + K.size a) (set table n (K.entry at a)) (s ++ t)))

        room : (a : K.Item) → K.step (drop at s) ≡ item a → K.step (drop at (s ++ t)) ≡ item a → (b : Bool) → leb K.limit n ≡ b → Onwards a → Here
        room a e d true l i = rw (resume_full K n at table s (suc f) f refl a e (leb-true K.limit n l)) (other_waited Number.TooMany at refl)
        room a e d false l i =
            let size_fits : K.size a ≤ length s - at = rw length-drop at (wait.takes (drop at s) a e).1 in
            rw (
              resume_room K n at table s (suc f) f refl a e (leb-false K.limit n l),
              resume_room K n at table (s ++ t) (suc g) g refl a d (leb-false K.limit n l),
            )
            (i (omega arith))

        go : (x y : Step K.Item) → K.step (drop at s) ≡ x → K.step (drop at (s ++ t)) ≡ y → StepWaited K.size (length t) x y
            → ((a : K.Item) → Onwards a) → Here
        go x y e d stopped i = rw (resume_stop K n at table s (suc f) e) (other_waited Number.Good 0 refl)
        go x y e d (faulty {r} w) i =
            rw (resume_bad K n at table s (suc f) f refl r e) (bad_waited g n at table r (subst (BadWaited K.size (length t) r) (sym d) w))
        go x y e d (whole {a}) i = room a e d (leb K.limit n) refl (i a)

  -- a reader that walks on from a place, over as many items as `most` allows
  unfoldable pub walk_on : {Again : List ℕ → ℕ → ℕ → Type 0} {at : ℕ} (most : List ℕ → ℕ) → ((s t : List ℕ) → most s ≤ most (s ++ t)) → Judge Again at at
  walk_on {Again} {at} most more =
      record {
        judge = λ s. refusal_in (read_from K (most s) at s);
        waited = λ s t h k. resume_waited (Again s (length (s ++ t))) s t (most s) (most (s ++ t)) 0 at (replicate K.limit K.none) (more s t) h;
        not_before = λ s h k c. fill_not_before K _ 0 at (replicate K.limit K.none) _ c;
        tells = λ s h k. resume_tells (most s) 0 at (replicate K.limit K.none) s;
      }

-- ---- a reader that judges the length, and then walks over all of the input
pub more_bytes : (s t : List ℕ) → length s ≤ length (s ++ t)
more_bytes s t = omega (arith, length-append s t)

module _ (R : Reader) (K : Kit) (wait : StepsWait K) (too_long : R.Answer) (answer : Out K.Entry → R.Answer)
    (reads : (s : List ℕ) → R.read s ≡ pick (ltb Number.limit (length s)) too_long (answer (read_from K (length s) 0 s)))
    (one : R.refusal_of too_long ≡ refusal Number.TooLong 0)
    (when-good : (n at : ℕ) (table : List K.Entry) (z : List ℕ) → R.refusal_of (answer (good n at table z)) ≡ no_refusal)
    (when-refused : (r : Refusal) → R.refusal_of (answer (refused r)) ≡ r) where
  judged : Judge Never 0 0
  judged = walk_on K wait length more_bytes

  said_so : (s : List ℕ) → R.refusal_of (R.read s) ≡ pick (ltb Number.limit (length s)) (refusal Number.TooLong 0) (judged.judge s)
  unfolding judged walk_on
  said_so s =
      ap R.refusal_of (reads s)
      ∙ said R.refusal_of (ltb Number.limit (length s)) one (walk_said R.refusal_of answer when-good when-refused (read_from K (length s) 0 s))

  pub body_waits : Waits R
  body_waits = waits_by R judged said_so

  pub body_tells : MissingTells R
  body_tells = tells_by R judged said_so
