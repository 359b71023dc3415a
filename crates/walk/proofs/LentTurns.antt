-- A turn of the walk whose step is lent its entry: what is handed back by value is that step's answer and the entry that it leaves. Assumes nothing.
use mathlib.Core.Path.{◌≡◌, refl, sym, ap}
use mathlib.Core.List.{List}
use Prim.Native.Nat.{ℕ, ◌+◌, ◌-◌, ◌≤◌, ◌<◌}
use native.Mathlib.Omega.{arith}
use lib.ListN.{length, drop, set}
use Rattle.std.specs.declared.result.Result.{Result}
use Rattle.std.specs.declared.result.Result.TheVariants.{Ok, Err}
use Rattle.wire.specs.Number as Number
use Rattle.wire.specs.Refusal.{refusal}
use Rattle.wire.specs.Walk as Wire
use Rattle.wire.specs.Walk.{stop, bad, item, from, Kit, resume}
use Rattle.wire.specs.declared.Refusal.{Refusal}
use Rattle.cursor.specs.Read.{cursor}
use Rattle.cursor.specs.declared.Cursor.{Cursor}
use Rattle.walk.specs.Walk as Walk
use Rattle.walk.specs.Walk.{kit_of, WalksAndLeaves}
use Rattle.walk.specs.Lent.{step_of}
use Rattle.walk.specs.declared.Step as Value
use Rattle.walk.specs.declared.Step.TheVariants as Handed
use Rattle.walk.specs.declared.lent.Step.{Step}
use Rattle.walk.specs.declared.lent.Step.TheVariants.{Stop, Whole}
use Rattle.walk.proofs.Turns.{held, Found, leaving_done, leaving_stop, leaving_bad, leaving_full, leaving_item}

-- an answer and the entry that was left, as one by value
abbrev pub handed_on : {E : Type 0} → Result Step Refusal × E → Result (Value.Step E) Refusal
handed_on (Ok (Stop p), e) = Ok (Handed.Stop p)
handed_on (Ok (Whole c), e) = Ok (Handed.Whole e c)
handed_on (Err r, e) = Err r

module _ {I E : Type 0} (step : List ℕ → Wire.Step I) (size : I → ℕ) (entry : ℕ → I → E) (none : E) (limit : ℕ) (stop_at : ℕ → List ℕ → ℕ) where
  abbrev pub Answer : Type 0
  Answer = Result Step Refusal × E

  abbrev pub answer : ℕ → List ℕ → E → Wire.Step I → Answer
  answer = step_of entry size stop_at

  -- ---- what an answer of step_at says of the step
  answered : {v w : Answer} → v ≡ w → v.0 ≡ w.0
  answered = ap (λ (v : Answer). v.0)

  pub was_stop : (at p : ℕ) (z : List ℕ) (o e : E) (x : Wire.Step I) → answer at z o x ≡ (Ok (Stop p), e) → (x ≡ stop) × (p ≡ stop_at at z) × (e ≡ o)
  was_stop at p z o e stop q = (refl, sym (ap place q), sym (ap (λ (v : Answer). v.1) q))
    where
      place : Answer → ℕ
      place (Ok (Stop d), f) = d
      place (Ok (Whole c), f) = 0
      place (Err r, f) = 0
  was_stop at p z o e (bad r) q = let a = answered q in let n : ◌≡◌ {A = ℕ} 0 1 = cc in absurd (omega arith)
  was_stop at p z o e (item t) q = let a = answered q in let n : ◌≡◌ {A = ℕ} 0 1 = cc in absurd (omega arith)

  pub was_bad : (at : ℕ) (r : Refusal) (z : List ℕ) (o e : E) (x : Wire.Step I) → answer at z o x ≡ (Err r, e)
      → (q : Refusal) × (x ≡ bad q) × (from at q ≡ r) × (e ≡ o)
  was_bad at r z o e stop p = let a = answered p in let n : ◌≡◌ {A = ℕ} 0 1 = cc in absurd (omega arith)
  was_bad at r z o e (bad q) p = let a = answered p in (q, refl, cc, sym (ap (λ (v : Answer). v.1) p))
  was_bad at r z o e (item t) p = let a = answered p in let n : ◌≡◌ {A = ℕ} 0 1 = cc in absurd (omega arith)

  pub was_item : (at : ℕ) (c : Cursor) (z : List ℕ) (o e : E) (x : Wire.Step I) → answer at z o x ≡ (Ok (Whole c), e) → Found step size entry none limit stop_at at x e c
  was_item at c z o e stop q = let a = answered q in let n : ◌≡◌ {A = ℕ} 0 1 = cc in absurd (omega arith)
  was_item at c z o e (bad r) q = let a = answered q in let n : ◌≡◌ {A = ℕ} 0 1 = cc in absurd (omega arith)
  was_item at c z o e (item t) q =
      let a = answered q in
      let cursor_is : cursor (at + size t) ≡ c = cc in
      record { found = t; is_item = refl; shown = ap (λ (v : Answer). v.1) q; next = ap (λ (d : Cursor). d.at) cursor_is }

  pub by_value : (at : ℕ) (z : List ℕ) (o : E) (x : Wire.Step I) (v : Answer) → answer at z o x ≡ v → Walk.step_of entry size stop_at at z x ≡ handed_on v
  by_value at z o stop v q = ap handed_on q
  by_value at z o (bad r) v q = ap handed_on q
  by_value at z o (item t) v q = ap handed_on q

  -- ---- a turn with n entries in the table
  abbrev K : Kit
  K = kit_of I E step size entry none limit

  module _ (most start : ℕ) (s : List ℕ) (old : List E) (short : length s ≤ Number.limit) (n at : ℕ) (table : List E)
      (so_far : (resume K most 0 start old s ≡ resume K (most - n) n at table s) × (held K most 0 start old s ≡ held K (most - n) n at table s)) where
    pub on_done : n ≡ most → WalksAndLeaves K stop_at most start s old (Ok (record { count = most; end = at; stop = at })) table
    on_done = leaving_done step size entry none limit stop_at most start s old short n at table so_far

    module _ (more : n < most) (o : E) where
      pub on_stop : (p : ℕ) (e : E) → answer at (drop at s) o (step (drop at s)) ≡ (Ok (Stop p), e)
          → WalksAndLeaves K stop_at most start s old (Ok (record { count = n; end = at; stop = p })) table
      on_stop p e q =
          leaving_stop step size entry none limit stop_at most start s old short n at table so_far more p (by_value at (drop at s) o (step (drop at s)) _ q)

      pub on_bad : (r : Refusal) (e : E) → answer at (drop at s) o (step (drop at s)) ≡ (Err r, e)
          → WalksAndLeaves K stop_at most start s old (Err r) table
      on_bad r e q =
          leaving_bad step size entry none limit stop_at most start s old short n at table so_far more r (by_value at (drop at s) o (step (drop at s)) _ q)

      module _ (e : E) (c : Cursor) (q : answer at (drop at s) o (step (drop at s)) ≡ (Ok (Whole c), e)) where
        pub on_full : limit ≤ n → WalksAndLeaves K stop_at most start s old (Err (refusal Number.TooMany at)) table
        on_full =
            leaving_full step size entry none limit stop_at most start s old short n at table so_far more e c
            (by_value at (drop at s) o (step (drop at s)) _ q)

        pub on_item : n < limit
            → (resume K most 0 start old s ≡ resume K (most - (n + 1)) (n + 1) c.at (set table n e) s)
            × (held K most 0 start old s ≡ held K (most - (n + 1)) (n + 1) c.at (set table n e) s)
        on_item =
            leaving_item step size entry none limit stop_at most start s old short n at table so_far more e c
            (by_value at (drop at s) o (step (drop at s)) _ q)
