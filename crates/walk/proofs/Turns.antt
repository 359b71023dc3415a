-- A turn of the walk, by what its step finds. Assumes nothing.
use mathlib.Core.Path.{◌≡◌, refl, sym, ap, ◌∙◌}
use mathlib.Core.List.{List}
use Prim.Native.Nat.{ℕ, suc, ◌+◌, ◌-◌, ◌≤◌, ◌<◌}
use native.Mathlib.Omega.{arith}
use borrow.Author.Tests.{lt-leb, le-leb, lt-ltb, le-ltb}
use lib.ListN.{length, drop, set}
use lib.Seq.{drop-drop}
use Rattle.std.specs.declared.result.Result.{Result}
use Rattle.std.specs.declared.result.Result.TheVariants.{Ok, Err}
use Rattle.wire.specs.Number as Number
use Rattle.wire.specs.Refusal.{refusal}
use Rattle.wire.specs.Walk as Wire
use Rattle.wire.specs.Walk.{stop, bad, item, from, walk, Kit, resume}
use Rattle.wire.specs.declared.Refusal.{Refusal}
use Rattle.wire.proofs.Walk.{walk_stop, resume_done, resume_stop, resume_bad, resume_full, resume_room}
use Rattle.cursor.specs.Read.{cursor}
use Rattle.cursor.specs.declared.Cursor.{Cursor}
use Rattle.walk.specs.Walk.{kit_of, step_of, filled, Walks, WalksAndLeaves}
use Rattle.walk.specs.declared.Walked.{Walked}
use Rattle.walk.specs.declared.Step.{Step}
use Rattle.walk.specs.declared.Step.TheVariants.{Stop, Whole}

-- ---- the table that is left, turn by turn
module _ (K : Kit) where
  abbrev pub held : ℕ → ℕ → ℕ → List K.Entry → List ℕ → List K.Entry
  held f n at table s = filled K n at table (walk K f (drop at s)).items

  module _ (n at : ℕ) (table : List K.Entry) (s : List ℕ) where
    held_done : held 0 n at table s ≡ table
    unfolding filled walk
    held_done = refl

    held_stop : (f : ℕ) → K.step (drop at s) ≡ stop → held f n at table s ≡ table
    unfolding filled
    held_stop f e = rw (walk_stop K f (drop at s) e)

    module _ (f g : ℕ) (one : f ≡ suc g) where
      held_bad : (r : Refusal) → K.step (drop at s) ≡ bad r → held f n at table s ≡ table
      unfolding filled walk
      held_bad r e = rw (one, e)

      held_full : (a : K.Item) → K.step (drop at s) ≡ item a → K.limit ≤ n → held f n at table s ≡ table
      unfolding filled walk
      held_full a e h = rw (one, e) (rw (le-leb K.limit n h))

      held_room : (a : K.Item) → K.step (drop at s) ≡ item a → n < K.limit
          → held f n at table s ≡ held g (n + 1) (at + K.size a) (set table n (K.entry at a)) s
      unfolding filled walk
      held_room a e h = rw (one, e) (rw (lt-leb K.limit n h, drop-drop (K.size a) at s))

module _ {I E : Type 0} (step : List ℕ → Wire.Step I) (size : I → ℕ) (entry : ℕ → I → E) (none : E) (limit : ℕ) (stop_at : ℕ → List ℕ → ℕ) where
  abbrev pub answer : ℕ → List ℕ → Wire.Step I → Result (Step E) Refusal
  answer = step_of entry size stop_at

  -- ---- what an answer of step_at says of the step
  pub was_stop : (at p : ℕ) (z : List ℕ) (x : Wire.Step I) → answer at z x ≡ Ok (Stop p) → (x ≡ stop) × (p ≡ stop_at at z)
  was_stop at p z stop e = (refl, sym (ap place e))
    where
      place : Result (Step E) Refusal → ℕ
      place (Ok (Stop q)) = q
      place (Ok (Whole a c)) = 0
      place (Err r) = 0
  was_stop at p z (bad r) e = let n : ◌≡◌ {A = ℕ} 0 1 = cc in absurd (omega arith)
  was_stop at p z (item t) e = let n : ◌≡◌ {A = ℕ} 0 1 = cc in absurd (omega arith)

  pub was_bad : (at : ℕ) (r : Refusal) (z : List ℕ) (x : Wire.Step I) → answer at z x ≡ Err r → (q : Refusal) × (x ≡ bad q) × (from at q ≡ r)
  was_bad at r z stop e = let n : ◌≡◌ {A = ℕ} 0 1 = cc in absurd (omega arith)
  was_bad at r z (bad q) e = (q, refl, cc)
  was_bad at r z (item t) e = let n : ◌≡◌ {A = ℕ} 0 1 = cc in absurd (omega arith)

  pub record Found (at : ℕ) (x : Wire.Step I) (a : E) (c : Cursor) : Type 0 where
    pub found : I
    pub is_item : x ≡ item found
    pub shown : entry at found ≡ a
    pub next : at + size found ≡ c.at

  pub was_item : (at : ℕ) (a : E) (c : Cursor) (z : List ℕ) (x : Wire.Step I) → answer at z x ≡ Ok (Whole a c) → Found at x a c
  was_item at a c z stop e = let n : ◌≡◌ {A = ℕ} 0 1 = cc in absurd (omega arith)
  was_item at a c z (bad r) e = let n : ◌≡◌ {A = ℕ} 0 1 = cc in absurd (omega arith)
  was_item at a c z (item t) e =
      let cursor_is : cursor (at + size t) ≡ c = cc in
      record { found = t; is_item = refl; shown = cc; next = ap (λ (d : Cursor). d.at) cursor_is }

  -- ---- a turn with n entries in the table
  abbrev K : Kit
  K = kit_of I E step size entry none limit

  module _ (most start : ℕ) (s : List ℕ) (old : List E) (short : length s ≤ Number.limit) (n at : ℕ) (table : List E) where
    module _ (so_far : resume K most 0 start old s ≡ resume K (most - n) n at table s) where
      pub on_done : n ≡ most → Walks K stop_at most start s old (Ok (record { count = most; end = at; stop = at })) table
      on_done all =
          let none_left : most - n ≡ 0 = omega arith in
          record {
            handed_back = rw (le-ltb Number.limit (length s) short, so_far, none_left, ← all) (sym (resume_done K n at table s));
            stops = rw (le-ltb most most (omega arith));
          }

      module _ (more : n < most) where
        one : most - n ≡ suc (most - (n + 1))
        one = omega arith

        pub on_stop : (p : ℕ) → answer at (drop at s) (step (drop at s)) ≡ Ok (Stop p) → Walks K stop_at most start s old (Ok (record { count = n; end = at; stop = p })) table
        on_stop p e =
            let w = was_stop at p (drop at s) (step (drop at s)) e in
            record {
              handed_back = rw (le-ltb Number.limit (length s) short, so_far) (sym (resume_stop K n at table s (most - n) w.0));
              stops = rw (lt-ltb n most more) w.1;
            }

        pub on_bad : (r : Refusal) → answer at (drop at s) (step (drop at s)) ≡ Err r → Walks K stop_at most start s old (Err r) table
        on_bad r e =
            let w = was_bad at r (drop at s) (step (drop at s)) e in
            record {
              handed_back =
                  rw (le-ltb Number.limit (length s) short, so_far, resume_bad K n at table s (most - n) (most - (n + 1)) one w.0 w.1, w.2);
              stops = tt;
            }

        module _ (a : E) (c : Cursor) (e : answer at (drop at s) (step (drop at s)) ≡ Ok (Whole a c)) where
          f : Found at (step (drop at s)) a c
          f = was_item at a c (drop at s) (step (drop at s)) e

          pub on_full : limit ≤ n → Walks K stop_at most start s old (Err (refusal Number.TooMany at)) table
          on_full h =
              record {
                handed_back =
                    rw (le-ltb Number.limit (length s) short, so_far, resume_full K n at table s (most - n) (most - (n + 1)) one f.found f.is_item h);
                stops = tt;
              }

          pub on_item : n < limit → resume K most 0 start old s ≡ resume K (most - (n + 1)) (n + 1) c.at (set table n a) s
          on_item h =
              so_far
              ∙ resume_room K n at table s (most - n) (most - (n + 1)) one f.found f.is_item h
              ∙ (λ i. resume K (most - (n + 1)) (n + 1) (f.next i) (set table n (f.shown i)) s)

    -- ---- the same, and what the table holds
    module _ (so_far : (resume K most 0 start old s ≡ resume K (most - n) n at table s) × (held K most 0 start old s ≡ held K (most - n) n at table s)) where
      leaving : {r : Result Walked Refusal} → Walks K stop_at most start s old r table → held K (most - n) n at table s ≡ table
          → WalksAndLeaves K stop_at most start s old r table
      leaving w h =
          record { handed_back = w.handed_back; leaves = rw (le-ltb Number.limit (length s) short, so_far.1) (sym h); stops = w.stops }

      pub leaving_done : n ≡ most → WalksAndLeaves K stop_at most start s old (Ok (record { count = most; end = at; stop = at })) table
      leaving_done all = let none_left : most - n ≡ 0 = omega arith in leaving (on_done so_far.0 all) (rw none_left (held_done K n at table s))

      module _ (more : n < most) where
        pub leaving_stop : (p : ℕ) → answer at (drop at s) (step (drop at s)) ≡ Ok (Stop p)
            → WalksAndLeaves K stop_at most start s old (Ok (record { count = n; end = at; stop = p })) table
        leaving_stop p e = leaving (on_stop so_far.0 more p e) (held_stop K n at table s (most - n) (was_stop at p (drop at s) (step (drop at s)) e).0)

        pub leaving_bad : (r : Refusal) → answer at (drop at s) (step (drop at s)) ≡ Err r → WalksAndLeaves K stop_at most start s old (Err r) table
        leaving_bad r e =
            let w = was_bad at r (drop at s) (step (drop at s)) e in
            leaving (on_bad so_far.0 more r e) (held_bad K n at table s (most - n) (most - (n + 1)) (one so_far.0 more) w.0 w.1)

        module _ (a : E) (c : Cursor) (e : answer at (drop at s) (step (drop at s)) ≡ Ok (Whole a c)) where
          g : Found at (step (drop at s)) a c
          g = was_item at a c (drop at s) (step (drop at s)) e

          pub leaving_full : limit ≤ n → WalksAndLeaves K stop_at most start s old (Err (refusal Number.TooMany at)) table
          leaving_full h =
              leaving (on_full so_far.0 more a c e h)
              (held_full K n at table s (most - n) (most - (n + 1)) (one so_far.0 more) g.found g.is_item h)

          pub leaving_item : n < limit
              → (resume K most 0 start old s ≡ resume K (most - (n + 1)) (n + 1) c.at (set table n a) s)
              × (held K most 0 start old s ≡ held K (most - (n + 1)) (n + 1) c.at (set table n a) s)
          leaving_item h = (
            on_item so_far.0 more a c e h,
            so_far.1
                ∙ held_room K n at table s (most - n) (most - (n + 1)) (one so_far.0 more) g.found g.is_item h
                ∙ (λ i. held K (most - (n + 1)) (n + 1) (g.next i) (set table n (g.shown i)) s),
          )
