-- What is said of any walk, and of one over all of an input: it ends by itself, since each item takes some bytes. Assumes nothing.
use mathlib.Core.Path.{◌≡◌, refl, sym, ap, ◌∙◌, subst}
use mathlib.Core.Bool.{Bool, true, false}
use mathlib.Core.List.{List, []}
use Prim.Native.Nat.{ℕ, zero, suc, ◌+◌, ◌≤◌}
use native.Mathlib.Omega.{arith}
use borrow.Author.Tests.{leb-true, leb-false, ltb-false}
use lib.Dec.{leb, ltb}
use lib.ListN.{length, drop, set, length-set, drop_of_length-le}
use Rattle.std.specs.declared.result.Result.{Result}
use Rattle.std.specs.declared.result.Result.TheVariants.{Ok, Err}
use Rattle.wire.specs.Number as Number
use Rattle.wire.specs.Bytes.{pick}
use Rattle.wire.specs.Refusal.{refusal}
use Rattle.wire.specs.Walk as Wire
use Rattle.wire.specs.Walk.{stop, bad, item, Kit, Out, good, refused, resume}
use Rattle.wire.specs.declared.Refusal.{Refusal}
use Rattle.wire.proofs.Waits.{said}
use Rattle.wire.proofs.Walk.{Takes, resume_done, resume_stop, resume_bad, resume_full, resume_room}
use Rattle.walk.specs.Walk.{handed, StopsAt, outcome, Walks, WalksAndLeaves}
use Rattle.walk.specs.declared.Walked.{Walked}

-- what a good outcome says
abbrev count_in : {E : Type 0} → Out E → ℕ
count_in (good n at table z) = n
count_in (refused r) = 0

abbrev end_in : {E : Type 0} → Out E → ℕ
end_in (good n at table z) = at
end_in (refused r) = 0

module _ (K : Kit) (takes : Takes K) (s : List ℕ) where
  abbrev pub Within : Out K.Entry → Type 0
  Within o = count_in o ≤ end_in o

  -- there are no more items than bytes
  pub within : (f n at : ℕ) (table : List K.Entry) → n ≤ at → Within (resume K f n at table s)
  within zero n at table few = rw (resume_done K n at table s) few
  within (suc f) n at table few = go (K.step (drop at s)) refl (λ m p. within f m p)
    where
      go : (x : Wire.Step K.Item) → K.step (drop at s) ≡ x → ((m p : ℕ) (table : List K.Entry) → m ≤ p → Within (resume K f m p table s))
          → Within (resume K (suc f) n at table s)
      go stop e i = rw (resume_stop K n at table s (suc f) e) few
      go (bad r) e i = rw (resume_bad K n at table s (suc f) f refl r e) (omega arith)
      go (item a) e i = room (leb K.limit n) refl
        where
          room : (b : Bool) → leb K.limit n ≡ b → Within (resume K (suc f) n at table s)
          room true h = rw (resume_full K n at table s (suc f) f refl a e (leb-true K.limit n h)) (omega arith)
          room false h =
              let t = (takes (drop at s) a e).0 in
              rw (resume_room K n at table s (suc f) f refl a e (leb-false K.limit n h))
              (i (n + 1) (at + K.size a) (set table n (K.entry at a)) (omega arith))

-- ---- what a walk answers, without what it leaves where it refuses
pub walks_of : {K : Kit} {stop_at : ℕ → List ℕ → ℕ} {most start : ℕ} {s : List ℕ} {old : List K.Entry} {r : Result Walked Refusal} {new : List K.Entry}
    → WalksAndLeaves K stop_at most start s old r new → Walks K stop_at most start s old r new
walks_of w = record { handed_back = w.handed_back; stops = w.stops }

-- ---- a reader's answer that is made of what such a walk hands back
module _ (K : Kit) (stop_at : ℕ → List ℕ → ℕ) (most start : ℕ) (s : List ℕ) (old : List K.Entry) {r : Result Walked Refusal} {table : List K.Entry}
    (w : Walks K stop_at most start s old r table) where
  pub answers : {A : Type 0} (answer : Out K.Entry → A)
      → answer (handed s r table) ≡ pick (ltb Number.limit (length s)) (answer (refused (refusal Number.TooLong 0))) (answer (resume K most 0 start old s))
  answers answer = ap answer w.handed_back ∙ said answer (ltb Number.limit (length s)) refl refl

-- and where it says that it stopped
module _ (K : Kit) (takes : Takes K) (stop_at : ℕ → List ℕ → ℕ) (at_nothing : (at : ℕ) → stop_at at [] ≡ at) (start : ℕ) (s : List ℕ) (old : List K.Entry) where
  within_handed : (o : Out K.Entry) → o ≡ outcome K (length s) start old s → Within K takes s o
  within_handed o e = rw e (go (ltb Number.limit (length s)))
    where
      go : (b : Bool) → Within K takes s (pick b (refused (refusal Number.TooLong 0)) (resume K (length s) 0 start old s))
      go true = omega arith
      go false = within K takes s (length s) 0 start old (omega arith)

  pub stops_all : (w : Walked) (table : List K.Entry) → Walks K stop_at (length s) start s old (Ok w) table → w.stop ≡ stop_at w.end (drop w.end s)
  stops_all w table h = go (ltb w.count (length s)) refl h.stops
    where
      go : (b : Bool) → ltb w.count (length s) ≡ b → w.stop ≡ pick b (stop_at w.end (drop w.end s)) w.end → w.stop ≡ stop_at w.end (drop w.end s)
      go true e q = q
      go false e q =
          let few : w.count ≤ w.end = within_handed (handed s (Ok w) table) h.handed_back in
          let all = ltb-false w.count (length s) e in
          q ∙ sym (rw (drop_of_length-le s {i = w.end} (omega arith)) (at_nothing w.end))

-- ---- where a walk is good it has filled no more entries than its kit has, and the table is as long as before
abbrev Held : (K : Kit) → ℕ → Out K.Entry → Type 0
Held K places (good n at table z) = (n ≤ K.limit) × (length table ≡ places)
Held K places (refused r) = Unit {0}

module _ (K : Kit) (s : List ℕ) where
  held : (f n at : ℕ) (table : List K.Entry) → n ≤ K.limit → Held K (length table) (resume K f n at table s)
  held zero n at table few = rw (resume_done K n at table s) (few, refl)
  held (suc f) n at table few = go (K.step (drop at s)) refl (λ m p t. held f m p t)
    where
      go : (x : Wire.Step K.Item) → K.step (drop at s) ≡ x → ((m p : ℕ) (t : List K.Entry) → m ≤ K.limit → Held K (length t) (resume K f m p t s))
          → Held K (length table) (resume K (suc f) n at table s)
      go stop e i = rw (resume_stop K n at table s (suc f) e) (few, refl)
      go (bad r) e i = rw (resume_bad K n at table s (suc f) f refl r e) tt
      go (item a) e i = room (leb K.limit n) refl
        where
          room : (b : Bool) → leb K.limit n ≡ b → Held K (length table) (resume K (suc f) n at table s)
          room true h = rw (resume_full K n at table s (suc f) f refl a e (leb-true K.limit n h)) tt
          room false h =
              let more = leb-false K.limit n h in
              let next = set table n (K.entry at a) in
              rw (resume_room K n at table s (suc f) f refl a e more)
              (subst (λ (k : ℕ). Held K k (resume K f (n + 1) (at + K.size a) next s)) (length-set table n (K.entry at a))
              (i (n + 1) (at + K.size a) next (omega arith)))

  pub holds : (stop_at : ℕ → List ℕ → ℕ) (most start : ℕ) (old : List K.Entry) (w : Walked) (table : List K.Entry)
      → Walks K stop_at most start s old (Ok w) table → (w.count ≤ K.limit) × (length table ≡ length old)
  holds stop_at most start old w table h = subst (Held K (length old)) (sym h.handed_back) (go (ltb Number.limit (length s)))
    where
      go : (b : Bool) → Held K (length old) (pick b (refused (refusal Number.TooLong 0)) (resume K most 0 start old s))
      go true = tt
      go false = held most 0 start old (omega arith)

-- ---- what a walk answers and what it leaves of the table is determined, where it is refused too
module _ (K : Kit) (stop_at : ℕ → List ℕ → ℕ) (most start : ℕ) (s : List ℕ) (old : List K.Entry) where
  pub walk_determined : (r q : Result Walked Refusal) (new other : List K.Entry)
      → WalksAndLeaves K stop_at most start s old r new → WalksAndLeaves K stop_at most start s old q other → (r ≡ q) × (new ≡ other)
  walk_determined r q new other v w = (go r q v.stops w.stops (v.handed_back ∙ sym w.handed_back), v.leaves ∙ sym w.leaves)
    where
      go : (r q : Result Walked Refusal) → StopsAt stop_at most s r → StopsAt stop_at most s q → handed s r new ≡ handed s q other → r ≡ q
      go (Ok a) (Ok b) f g e =
          let count_is = ap count_in e in
          let end_is = ap end_in e in
          let stop_is : a.stop ≡ b.stop =
          f ∙ (λ i. pick (ltb (count_is i) most) (stop_at (end_is i) (drop (end_is i) s)) (end_is i)) ∙ sym g in
          (λ i. Ok (record { count = count_is i; end = end_is i; stop = stop_is i }))
      go (Ok a) (Err q) f g e = let z : ◌≡◌ {A = ℕ} 0 1 = cc in absurd (omega arith)
      go (Err r) (Ok b) f g e = let z : ◌≡◌ {A = ℕ} 0 1 = cc in absurd (omega arith)
      go (Err r) (Err q) f g e = let same : r ≡ q = cc in ap Err same
