-- The laws of a walk over items, proved once for every kit. Assumes nothing.
use mathlib.Core.Path.{◌≡◌, refl, sym, ap, ap₂, ◌∙◌, subst}
use mathlib.Core.List.{List, [], ◌∷◌, ◌++◌, append_assoc}
use mathlib.Core.Logic.{◌⊎◌, inl, inr, ⊎_elim}
use mathlib.Core.Bool.{Bool, true, false}
use Prim.Native.Nat.{ℕ, zero, suc, ◌+◌, ◌-◌, ◌≤◌, ◌<◌}
use native.Mathlib.Omega.{arith}
use native.Mathlib.Nat.{sub-zero, add-zero, zero-add, suc-sub-suc}
use borrow.Author.Tests.{lt-leb, le-leb, leb-false}
use lib.Dec.{leb}
use lib.ListN.{length, take, drop, set, replicate, length-drop, length-append}
use lib.Seq.{drop-drop, set_at}
use Rattle.wire.specs.Number as Number
use Rattle.wire.specs.Bytes.{Bytes}
use Rattle.wire.specs.Refusal.{refusal}
use Rattle.wire.specs.Parts.{join_all, EachGood, shown_from, items_in, end_from, AllAt}
use Rattle.wire.specs.Walk.{Step, stop, bad, item, End, tail, fault, Walked, Kit, next, walk, Out, good, refused, from, fill, resume, read_from, shows}
use Rattle.wire.specs.declared.Refusal.{Refusal}
use Rattle.wire.proofs.Bytes.{bytes_drop}

empty : (x : List ℕ) → length x ≤ 0 → x ≡ []
empty [] h = refl
empty (b ∷ x) h = absurd (omega arith)

-- ---- one turn of a reader's loop, which has n items in its table and may find f more
walk_suc : (K : Kit) (f : ℕ) (s : List ℕ) → walk K (suc f) s ≡ next (K.step s) s (λ a. walk K f (drop (K.size a) s))
unfolding walk
walk_suc K f s = refl

pub walk_stop : (K : Kit) (f : ℕ) (s : List ℕ) → K.step s ≡ stop → walk K f s ≡ record { items = []; end = tail s }
unfolding walk
walk_stop K zero s e = refl
walk_stop K (suc f) s e = rw e

module _ (K : Kit) (n at : ℕ) (table : List K.Entry) (s : List ℕ) where
  pub resume_done : resume K 0 n at table s ≡ good n at table (drop at s)
  unfolding fill walk
  resume_done = refl

  pub resume_stop : (f : ℕ) → K.step (drop at s) ≡ stop → resume K f n at table s ≡ good n at table (drop at s)
  unfolding fill
  resume_stop f e = rw (walk_stop K f (drop at s) e)

  module _ (f g : ℕ) (one : f ≡ suc g) where
    pub resume_bad : (r : Refusal) → K.step (drop at s) ≡ bad r → resume K f n at table s ≡ refused (from at r)
    unfolding fill
    resume_bad r e = rw (one, walk_suc K g (drop at s), e)

    pub resume_full : (a : K.Item) → K.step (drop at s) ≡ item a → K.limit ≤ n → resume K f n at table s ≡ refused (refusal Number.TooMany at)
    unfolding fill
    resume_full a e h = rw (one, walk_suc K g (drop at s), e) (rw (le-leb K.limit n h))

    pub resume_room : (a : K.Item) → K.step (drop at s) ≡ item a → n < K.limit
        → resume K f n at table s ≡ resume K g (n + 1) (at + K.size a) (set table n (K.entry at a)) s
    unfolding fill
    resume_room a e h = rw (one, walk_suc K g (drop at s), e) (rw (lt-leb K.limit n h, drop-drop (K.size a) at s))

-- ---- a walk that takes as many items as it finds: no more than there are bytes, since each takes some
abbrev pub Takes : Kit → Type 0
Takes K = (s : List ℕ) (a : K.Item) → K.step s ≡ item a → (0 < K.size a) × (K.size a ≤ length s)

abbrev pub onwards : (K : Kit) → ℕ → ℕ → List K.Entry → List ℕ → Out K.Entry
onwards K n at table s = resume K (length s - n) n at table s

module _ (K : Kit) (takes : Takes K) (n at : ℕ) (table : List K.Entry) (s : List ℕ) where
  pub record Turn (a : K.Item) : Type 0 where
    pub moved : at < at + K.size a
    pub within : at + K.size a ≤ length s
    pub full : K.limit ≤ n → onwards K n at table s ≡ refused (refusal Number.TooMany at)
    pub room : n < K.limit → onwards K n at table s ≡ onwards K (n + 1) (at + K.size a) (set table n (K.entry at a)) s

  pub turn : (a : K.Item) → n ≤ at → at ≤ length s → K.step (drop at s) ≡ item a → Turn a
  turn a few h e =
      let v = takes (drop at s) a e in
      let w : K.size a ≤ length s - at = rw length-drop at v.1 in
      let one : length s - n ≡ suc (length s - (n + 1)) = omega arith in
      record {
        moved = omega arith;
        within = omega arith;
        full = resume_full K n at table s (length s - n) (length s - (n + 1)) one a e;
        room = resume_room K n at table s (length s - n) (length s - (n + 1)) one a e;
      }

  -- the same for the entry and the place that a reader has found by other names
  pub record TurnTo (u : K.Entry) (p : ℕ) : Type 0 where
    pub moved : at < p
    pub within : p ≤ length s
    pub full : K.limit ≤ n → onwards K n at table s ≡ refused (refusal Number.TooMany at)
    pub room : n < K.limit → onwards K n at table s ≡ onwards K (n + 1) p (set table n u) s

  pub turn_to : (a : K.Item) (u : K.Entry) (p : ℕ) → n ≤ at → at ≤ length s → K.step (drop at s) ≡ item a
      → K.entry at a ≡ u → at + K.size a ≡ p → TurnTo u p
  turn_to a u p few h e shown end =
      let o = turn a few h e in
      record {
        moved = rw (← end) o.moved;
        within = rw (← end) o.within;
        full = o.full;
        room = λ l. o.room l ∙ rw (shown, end);
      }

-- ---- the table
fill_good : (K : Kit) (l : List K.Item) (n at k : ℕ) (p : List K.Entry) (z : List ℕ) → length p ≡ n → n + k ≡ K.limit → length l ≤ k
    → fill K n at (p ++ replicate k K.none) l (tail z)
    ≡ good (n + length l) (end_from K.size at l) (p ++ (shown_from K.size K.entry at l ++ replicate (k - length l) K.none)) z
unfolding fill
fill_good K [] n at k p z e f h = rw (sub-zero k, add-zero n)
fill_good K (a ∷ l) n at zero p z e f h = absurd (omega arith)
fill_good K (a ∷ l) n at (suc k) p z e f h =
    let x = K.entry at a in
    let one : length (p ++ (x ∷ [])) ≡ n + 1 = length-append p (x ∷ []) ∙ omega arith in
    let m : n + 1 + length l ≡ n + suc (length l) = omega arith in
    rw (
      lt-leb K.limit n (omega arith),
      set_at p K.none (replicate k K.none) x n e,
      ← append_assoc p (x ∷ []) (replicate k K.none),
      suc-sub-suc k (length l),
      ← m,
      ← append_assoc p (x ∷ []) (shown_from K.size K.entry (at + K.size a) l ++ replicate (k - length l) K.none),
    )
    (fill_good K l (n + 1) (at + K.size a) k (p ++ (x ∷ [])) z one (omega arith) (omega arith))

-- an answer that is good has found a tail, and has had room
fill_accepts : (K : Kit) (l : List K.Item) (n at : ℕ) (table : List K.Entry) (e : End) (c b : ℕ) (t : List K.Entry) (z : List ℕ)
    → n ≤ K.limit → fill K n at table l e ≡ good c b t z → (n + length l ≤ K.limit) × (e ≡ tail z)
unfolding fill
fill_accepts K [] n at table (tail y) c b t z h q = (omega arith, cc)
fill_accepts K [] n at table (fault r) c b t z h q = let x : ◌≡◌ {A = ℕ} 0 1 = cc in absurd (omega arith)
fill_accepts K (a ∷ l) n at table e c b t z h q =
    go (leb K.limit n) refl (fill_accepts K l (n + 1) (at + K.size a) (set table n (K.entry at a)) e c b t z)
  where
    go : (d : Bool) → leb K.limit n ≡ d
        → (n + 1 ≤ K.limit → fill K (n + 1) (at + K.size a) (set table n (K.entry at a)) l e ≡ good c b t z → (n + 1 + length l ≤ K.limit) × (e ≡ tail z))
        → (n + length (a ∷ l) ≤ K.limit) × (e ≡ tail z)
    go true r i = let x : ◌≡◌ {A = ℕ} 0 1 = cc in absurd (omega arith)
    go false r i =
        let v = leb-false K.limit n r in
        let j = i (omega arith) (rw r at q) in
        (omega arith, j.1)

-- ---- more items than the table holds are refused at the first that has no room, whatever follows it
fill_full : (K : Kit) (l : List K.Item) (k n at : ℕ) (table : List K.Entry) (e : End) → n + k ≡ K.limit → k < length l
    → fill K n at table l e ≡ refused (refusal Number.TooMany (end_from K.size at (take k l)))
unfolding fill
fill_full K [] k n at table e room h = absurd (omega arith)
fill_full K (a ∷ l) zero n at table e room h = rw (le-leb K.limit n (omega arith))
fill_full K (a ∷ l) (suc k) n at table e room h =
    rw (lt-leb K.limit n (omega arith)) (fill_full K l k (n + 1) (at + K.size a) (set table n (K.entry at a)) e (omega arith) (omega arith))

too_many : (K : Kit) (f at : ℕ) (s : List ℕ) (l : List K.Item) (e : End) → walk K f (drop at s) ≡ record { items = l; end = e } → K.limit < length l
    → read_from K f at s ≡ refused (refusal Number.TooMany (end_from K.size at (take K.limit l)))
too_many K f at s l e w h = rw w (fill_full K l K.limit 0 at (replicate K.limit K.none) e (omega arith) h)

-- ---- what holds of the number of each fault, and of TooMany, holds of a refusal's number
abbrev pub BadIn : {A : Type 0} → (ℕ → Type 0) → Step A → Type 0
BadIn P stop = Unit {0}
BadIn P (bad r) = P r.number
BadIn P (item a) = Unit {0}

abbrev pub FaultsIn : Kit → (ℕ → Type 0) → Type 0
FaultsIn K P = (s : List ℕ) (r : Refusal) → K.step s ≡ bad r → P r.number

pub faults_in : (K : Kit) (P : ℕ → Type 0) → ((s : List ℕ) → BadIn P (K.step s)) → FaultsIn K P
faults_in K P m s r e = subst (BadIn P) e (m s)

module _ (K : Kit) (P : ℕ → Type 0) (m : FaultsIn K P) where
  pub walk_fault : (f : ℕ) (s : List ℕ) (r : Refusal) → (walk K f s).end ≡ fault r → P r.number
  unfolding walk
  walk_fault zero s r e = let x : ◌≡◌ {A = ℕ} 0 1 = cc in absurd (omega arith)
  walk_fault (suc f) s r e = go (K.step s) refl (λ a. walk_fault f (drop (K.size a) s) r) e
    where
      go : (x : Step K.Item) → K.step s ≡ x → ((a : K.Item) → (walk K f (drop (K.size a) s)).end ≡ fault r → P r.number)
          → (next x s (λ a. walk K f (drop (K.size a) s))).end ≡ fault r → P r.number
      go stop h i q = let x : ◌≡◌ {A = ℕ} 0 1 = cc in absurd (omega arith)
      go (bad d) h i q = let y : d ≡ r = cc in subst (λ (j : Refusal). P j.number) y (m s d h)
      go (item a) h i q = i a q

  module _ (many : P Number.TooMany) where
    fill_fault : (l : List K.Item) (n at : ℕ) (table : List K.Entry) (e : End) (r : Refusal)
        → ((d : Refusal) → e ≡ fault d → P d.number) → fill K n at table l e ≡ refused r → P r.number
    unfolding fill
    fill_fault [] n at table (tail z) r h q = let x : ◌≡◌ {A = ℕ} 0 1 = cc in absurd (omega arith)
    fill_fault [] n at table (fault d) r h q = let y : from at d ≡ r = cc in subst (λ (j : Refusal). P j.number) y (h d refl)
    fill_fault (a ∷ l) n at table e r h q =
        go (leb K.limit n) refl (fill_fault l (n + 1) (at + K.size a) (set table n (K.entry at a)) e r h)
      where
        go : (d : Bool) → leb K.limit n ≡ d → (fill K (n + 1) (at + K.size a) (set table n (K.entry at a)) l e ≡ refused r → P r.number) → P r.number
        go true v i = let y : refusal Number.TooMany at ≡ r = cc in subst (λ (j : Refusal). P j.number) y many
        go false v i = i (rw v at q)

    pub fault_in : (f at : ℕ) (s : List ℕ) (r : Refusal) → read_from K f at s ≡ refused r → P r.number
    fault_in f at s r e =
        fill_fault (walk K f (drop at s)).items 0 at (replicate K.limit K.none) (walk K f (drop at s)).end r (walk_fault f (drop at s)) e

-- a refusal's number is not that of a good answer, where each fault's is not
abbrev pub Faults : Kit → Type 0
Faults K = FaultsIn K (λ n. 0 < n)

pub read_fault : (K : Kit) → Faults K → (f at : ℕ) (s : List ℕ) (r : Refusal) → read_from K f at s ≡ refused r → 0 < r.number
read_fault K m = fault_in K (λ n. 0 < n) m (omega arith)

-- ---- the walk and a grammar of its items: `put` and what makes an item good
pub record Laws (K : Kit) (put : K.Item → List ℕ → List ℕ) (G : K.Item → List ℕ → Type 0) : Type 0 where
  pub takes : Takes K
  pub forth : (a : K.Item) (r : List ℕ) → G a r → (K.step (put a r) ≡ item a) × (drop (K.size a) (put a r) ≡ r)
  pub back : (s : List ℕ) → Bytes s → (a : K.Item) → K.step s ≡ item a → G a (drop (K.size a) s) × (put a (drop (K.size a) s) ≡ s)

module _ (K : Kit) {put : K.Item → List ℕ → List ℕ} {G : K.Item → List ℕ → Type 0} (laws : Laws K put G) where
  -- what a walk of at most f items has found, where it ends with a tail
  pub record ItemsOf (f : ℕ) (w : Walked K.Item) (z s : List ℕ) : Type 0 where
    pub each : EachGood put G w.items z
    pub joined : join_all put w.items z ≡ s
    pub are_bytes : Bytes z
    pub ended : (K.step z ≡ stop) ⊎ (length w.items ≡ f)

  pub walk_sound : (f : ℕ) (s : List ℕ) → Bytes s → (z : List ℕ) → (walk K f s).end ≡ tail z → ItemsOf f (walk K f s) z s
  unfolding walk
  walk_sound zero s p z e =
      let q : s ≡ z = cc in
      record { each = tt; joined = sym q; are_bytes = subst Bytes q p; ended = inr refl }
  walk_sound (suc f) s p z e = go (K.step s) refl (λ a. walk_sound f (drop (K.size a) s)) e
    where
      go : (x : Step K.Item) → K.step s ≡ x
          → ((a : K.Item) → Bytes (drop (K.size a) s) → (z : List ℕ) → (walk K f (drop (K.size a) s)).end ≡ tail z
          → ItemsOf f (walk K f (drop (K.size a) s)) z (drop (K.size a) s))
          → (next x s (λ a. walk K f (drop (K.size a) s))).end ≡ tail z → ItemsOf (suc f) (next x s (λ a. walk K f (drop (K.size a) s))) z s
      go stop x i e =
          let q : s ≡ z = cc in
          record { each = tt; joined = sym q; are_bytes = subst Bytes q p; ended = inl (subst (λ (y : List ℕ). K.step y ≡ stop) q x) }
      go (bad r) x i e = let n : ◌≡◌ {A = ℕ} 0 1 = cc in absurd (omega arith)
      go (item a) x i e =
          let j = i a (bytes_drop (K.size a) p) z e in
          let b = laws.back s p a x in
          record {
            each = (subst (G a) (sym j.joined) b.0, j.each);
            joined = ap (put a) j.joined ∙ b.1;
            are_bytes = j.are_bytes;
            ended = ⊎_elim (λ h. inl h) (λ h. inr (ap suc h)) j.ended;
          }

  -- good items in front of a tail are found again
  pub walk_join : (l : List K.Item) (z : List ℕ) (f : ℕ) → EachGood put G l z → length l ≤ f → (K.step z ≡ stop) ⊎ (length l ≡ f)
      → walk K f (join_all put l z) ≡ record { items = l; end = tail z }
  unfolding walk
  walk_join [] z zero g h e = refl
  walk_join [] z (suc f) g h e = walk_stop K (suc f) z (⊎_elim (λ x. x) (λ x. absurd (omega arith)) e)
  walk_join (a ∷ l) z zero g h e = absurd (omega arith)
  walk_join (a ∷ l) z (suc f) g h e =
      let v = laws.forth a (join_all put l z) g.0 in
      rw (v.0, v.1, walk_join l z f g.1 (omega arith) (⊎_elim (λ x. inl x) (λ x. inr (omega arith)) e))

  -- each takes at least a byte
  pub join_longer : (l : List K.Item) (z : List ℕ) → EachGood put G l z → length l + length z ≤ length (join_all put l z)
  join_longer [] z g = omega arith
  join_longer (a ∷ l) z g =
      let r = join_all put l z in
      let v = laws.forth a r g.0 in
      let t = laws.takes (put a r) a v.0 in
      let d : length r ≡ length (put a r) - K.size a = ap length (sym v.1) ∙ length-drop (K.size a) (put a r) in
      let i = join_longer l z g.1 in
      omega arith

  pub shown_good : (f at : ℕ) (s : List ℕ) (l : List K.Item) (z : List ℕ) → walk K f (drop at s) ≡ record { items = l; end = tail z } → length l ≤ K.limit
      → read_from K f at s ≡ shows K at l z
  shown_good f at s l z e h = rw e (fill_good K l 0 at K.limit [] z refl (omega arith) h ∙ rw zero-add)

-- ---- a walk that stops by itself, and the grammar of the tails that it stops at
pub record Tails (K : Kit) (Tail : Type 0) (put_tail : Tail → List ℕ) (GoodTail : Tail → Type 0) : Type 0 where
  pub tail_of : List ℕ → Tail
  pub nil : K.step [] ≡ stop
  pub stops : (z : List ℕ) → Bytes z → K.step z ≡ stop → GoodTail (tail_of z) × (put_tail (tail_of z) ≡ z)
  pub ends : (t : Tail) → GoodTail t → (K.step (put_tail t) ≡ stop) × (tail_of (put_tail t) ≡ t)

module _ (K : Kit) {put : K.Item → List ℕ → List ℕ} {G : K.Item → List ℕ → Type 0} (laws : Laws K put G)
    {Tail : Type 0} {put_tail : Tail → List ℕ} {GoodTail : Tail → Type 0} (tails : Tails K Tail put_tail GoodTail) where
  -- the reader shows a good reading of what stands from a place on
  pub record ShowsItems (at : ℕ) (s : List ℕ) (l : List K.Item) (t : Tail) : Type 0 where
    pub each : EachGood put G l (put_tail t)
    pub tail_good : GoodTail t
    pub joined : join_all put l (put_tail t) ≡ drop at s
    pub few : length l ≤ K.limit
    pub shown_so : read_from K (length s) at s ≡ shows K at l (put_tail t)

  pub walk_all : (l : List K.Item) (t : Tail) (f : ℕ) → EachGood put G l (put_tail t) → GoodTail t → length (join_all put l (put_tail t)) ≤ f
      → walk K f (join_all put l (put_tail t)) ≡ record { items = l; end = tail (put_tail t) }
  walk_all l t f g h k =
      let n = join_longer K laws l (put_tail t) g in
      walk_join K laws l (put_tail t) f g (omega arith) (inl (tails.ends t h).0)

  pub read_complete : (at : ℕ) (s : List ℕ) (l : List K.Item) (t : Tail) → EachGood put G l (put_tail t) → GoodTail t
      → join_all put l (put_tail t) ≡ drop at s → length l ≤ K.limit → ShowsItems at s l t
  read_complete at s l t g h e few =
      let d : length (join_all put l (put_tail t)) ≤ length s = rw e (simp length-drop (omega arith)) in
      let w : walk K (length s) (drop at s) ≡ record { items = l; end = tail (put_tail t) } = ap (walk K (length s)) (sym e) ∙ walk_all l t (length s) g h d in
      record { each = g; tail_good = h; joined = e; few = few; shown_so = shown_good K laws (length s) at s l (put_tail t) w few }

  -- a good reading of more items than the table holds is refused at the first that has no room
  pub read_too_many : (at : ℕ) (s : List ℕ) (l : List K.Item) (t : Tail) → EachGood put G l (put_tail t) → GoodTail t
      → join_all put l (put_tail t) ≡ drop at s → K.limit < length l
      → read_from K (length s) at s ≡ refused (refusal Number.TooMany (end_from K.size at (take K.limit l)))
  read_too_many at s l t g h e many =
      let d : length (join_all put l (put_tail t)) ≤ length s = rw e (simp length-drop (omega arith)) in
      too_many K (length s) at s l (tail (put_tail t)) (ap (walk K (length s)) (sym e) ∙ walk_all l t (length s) g h d) many

  pub read_sound : (at : ℕ) (s : List ℕ) → Bytes s → (c b : ℕ) (table : List K.Entry) (z : List ℕ) → read_from K (length s) at s ≡ good c b table z
      → (l : List K.Item) × (t : Tail) × ShowsItems at s l t
  read_sound at s p c b table z e =
      let w = walk K (length s) (drop at s) in
      let f = fill_accepts K w.items 0 at (replicate K.limit K.none) w.end c b table z (omega arith) e in
      let y = walk_sound K laws (length s) (drop at s) (bytes_drop at p) z f.1 in
      let long = join_longer K laws w.items z y.each in
      let whole : length (join_all put w.items z) ≤ length s = rw y.joined (simp length-drop (omega arith)) in
      let halt : K.step z ≡ stop = ⊎_elim (λ h. h) (λ h. subst (λ (x : List ℕ). K.step x ≡ stop) (sym (empty z (omega arith))) tails.nil) y.ended in
      let t = tails.stops z y.are_bytes halt in
      (w.items, tails.tail_of z, read_complete at s w.items (tails.tail_of z) (rw t.1 y.each) t.0 (rw t.1 y.joined) (omega arith))

  -- what a reader has walked over where its number is 0, by how it answers what the walk has found
  pub read_accepted : {A : Type 0} (number : A → ℕ) (answer : Out K.Entry → A) → Faults K → ((r : Refusal) → number (answer (refused r)) ≡ r.number)
      → (at : ℕ) (s : List ℕ) → Bytes s → number (answer (read_from K (length s) at s)) ≡ Number.Good
      → (l : List K.Item) × (t : Tail) × ShowsItems at s l t
  read_accepted number answer faults numbered at s p e = go (read_from K (length s) at s) refl
    where
      go : (o : Out K.Entry) → read_from K (length s) at s ≡ o → (l : List K.Item) × (t : Tail) × ShowsItems at s l t
      go (good n end table z) k = read_sound at s p n end table z k
      go (refused r) k =
          let f = read_fault K faults (length s) at s r k in
          let x : r.number ≡ 0 = sym (numbered r) ∙ ap (λ (o : Out K.Entry). number (answer o)) (sym k) ∙ e in
          absurd (omega arith)

  -- two good readings with equal joins are equal
  pub unique : (l k : List K.Item) (t u : Tail) → EachGood put G l (put_tail t) → GoodTail t → EachGood put G k (put_tail u) → GoodTail u
      → join_all put l (put_tail t) ≡ join_all put k (put_tail u) → (l ≡ k) × (t ≡ u)
  unique l k t u g h g' h' e =
      let f = length (join_all put k (put_tail u)) in
      let q : ◌≡◌ {A = Walked K.Item} (record { items = l; end = tail (put_tail t) }) (record { items = k; end = tail (put_tail u) }) =
      sym (walk_all l t f g h (omega (arith, ap length e))) ∙ ap (walk K f) e ∙ walk_all k u f g' h' (omega arith) in
      let z : tail (put_tail t) ≡ tail (put_tail u) = ap (λ (w : Walked K.Item). w.end) q in
      let y : put_tail t ≡ put_tail u = cc in
      (ap (λ (w : Walked K.Item). w.items) q, sym (tails.ends t h).1 ∙ ap tails.tail_of y ∙ (tails.ends u h').1)

-- ---- a walk over a given number of items, whose step never stops by itself: what follows the last of them is the tail
abbrev pub Never : Kit → Type 0
Never K = (s : List ℕ) → K.step s ≡ stop → ⊥

module _ (K : Kit) {put : K.Item → List ℕ → List ℕ} {G : K.Item → List ℕ → Type 0} (laws : Laws K put G) where
  -- the reader shows a good reading of f items, and of the bytes z behind them, from a place on
  pub record Counts (f at : ℕ) (s : List ℕ) (l : List K.Item) (z : List ℕ) : Type 0 where
    pub each : EachGood put G l z
    pub as_many : length l ≡ f
    pub tail_bytes : Bytes z
    pub joined : join_all put l z ≡ drop at s
    pub few : length l ≤ K.limit
    pub shown_so : read_from K f at s ≡ shows K at l z

  pub counted_complete : (f at : ℕ) (s : List ℕ) (l : List K.Item) (z : List ℕ) → EachGood put G l z → length l ≡ f → Bytes z
      → join_all put l z ≡ drop at s → length l ≤ K.limit → Counts f at s l z
  counted_complete f at s l z g n p e few =
      let w : walk K f (drop at s) ≡ record { items = l; end = tail z } = ap (walk K f) (sym e) ∙ walk_join K laws l z f g (omega arith) (inr n) in
      record { each = g; as_many = n; tail_bytes = p; joined = e; few = few; shown_so = shown_good K laws f at s l z w few }

  pub counted_too_many : (f at : ℕ) (s : List ℕ) (l : List K.Item) (z : List ℕ) → EachGood put G l z → length l ≡ f
      → join_all put l z ≡ drop at s → K.limit < length l
      → read_from K f at s ≡ refused (refusal Number.TooMany (end_from K.size at (take K.limit l)))
  counted_too_many f at s l z g n e many =
      too_many K f at s l (tail z) (ap (walk K f) (sym e) ∙ walk_join K laws l z f g (omega arith) (inr n)) many

  pub counted_sound : Never K → (f at : ℕ) (s : List ℕ) → Bytes s → (c b : ℕ) (table : List K.Entry) (z : List ℕ) → read_from K f at s ≡ good c b table z
      → (l : List K.Item) × Counts f at s l z
  counted_sound never f at s p c b table z e =
      let w = walk K f (drop at s) in
      let a = fill_accepts K w.items 0 at (replicate K.limit K.none) w.end c b table z (omega arith) e in
      let y = walk_sound K laws f (drop at s) (bytes_drop at p) z a.1 in
      let n : length w.items ≡ f = ⊎_elim (λ h. absurd (never z h)) (λ h. h) y.ended in
      (w.items, counted_complete f at s w.items z y.each n y.are_bytes y.joined (omega arith))

  -- two good readings of as many items with equal joins are equal
  pub counted_unique : (l k : List K.Item) (y z : List ℕ) → EachGood put G l y → EachGood put G k z → length l ≡ length k
      → join_all put l y ≡ join_all put k z → (l ≡ k) × (y ≡ z)
  counted_unique l k y z g h n e =
      let f = length k in
      let q : ◌≡◌ {A = Walked K.Item} (record { items = l; end = tail y }) (record { items = k; end = tail z }) =
      sym (walk_join K laws l y f g (omega arith) (inr n)) ∙ ap (walk K f) e ∙ walk_join K laws k z f h (omega arith) (inr refl) in
      let t : tail y ≡ tail z = ap (λ (w : Walked K.Item). w.end) q in
      (ap (λ (w : Walked K.Item). w.items) q, cc)

-- ---- where each item stands: what holds of an item in front of what follows it, at its place, holds of each. For the bytes that views show
pub each_at : (K : Kit) {put : K.Item → List ℕ → List ℕ} {G : K.Item → List ℕ → Type 0} → Laws K put G
    → (P : ℕ → K.Item → Type 0) (s : List ℕ) → ((at : ℕ) (a : K.Item) (r : List ℕ) → G a r → drop at s ≡ put a r → P at a)
    → (l : List K.Item) (z : List ℕ) (at : ℕ) → EachGood put G l z → join_all put l z ≡ drop at s → AllAt K.size P at l
each_at K laws P s h [] z at g e = tt
each_at K {put} laws P s h (a ∷ l) z at g e = (
  h at a (join_all put l z) g.0 (sym e),
  each_at K laws P s h l z (at + K.size a) g.1
      (sym (laws.forth a (join_all put l z) g.0).1 ∙ ap (drop (K.size a)) e ∙ drop-drop (K.size a) at s),
)

-- ---- back from the table: where each entry tells its item, the entries below the count tell the items
pub items_told : {A T : Type 0} (size : A → ℕ) (entry : ℕ → A → T) (told : T → A) (l : List A) (at : ℕ) (rest : List T)
    → AllAt size (λ at a. told (entry at a) ≡ a) at l → items_in told (length l) (shown_from size entry at l ++ rest) ≡ l
items_told size entry told [] at rest h = refl
items_told size entry told (a ∷ l) at rest h = ap₂ ◌∷◌ h.0 (items_told size entry told l (at + size a) rest h.1)

-- and what stands behind the last item is the tail
pub tail_behind : (K : Kit) {put : K.Item → List ℕ → List ℕ} {G : K.Item → List ℕ → Type 0} → Laws K put G
    → (s : List ℕ) (l : List K.Item) (z : List ℕ) (at : ℕ) → EachGood put G l z → join_all put l z ≡ drop at s → drop (end_from K.size at l) s ≡ z
tail_behind K laws s [] z at g e = sym e
tail_behind K {put} laws s (a ∷ l) z at g e =
    tail_behind K laws s l z (at + K.size a) g.1
    (sym (laws.forth a (join_all put l z) g.0).1 ∙ ap (drop (K.size a)) e ∙ drop-drop (K.size a) at s)

-- which is inside
pub end_within : (K : Kit) {put : K.Item → List ℕ → List ℕ} {G : K.Item → List ℕ → Type 0} → Laws K put G
    → (s : List ℕ) (l : List K.Item) (z : List ℕ) (at : ℕ) → EachGood put G l z → join_all put l z ≡ drop at s → at ≤ length s → end_from K.size at l ≤ length s
end_within K laws s [] z at g e h = h
end_within K {put} laws s (a ∷ l) z at g e h =
    let r = join_all put l z in
    let v = laws.forth a r g.0 in
    let t = laws.takes (put a r) a v.0 in
    let n : length (put a r) ≡ length s - at = ap length e ∙ length-drop at s in
    end_within K laws s l z (at + K.size a) g.1 (sym v.1 ∙ ap (drop (K.size a)) e ∙ drop-drop (K.size a) at s) (omega arith)

-- ---- where items and a tail join to the bytes of the items alone, there is no tail
module _ {A : Type 0} (put : A → List ℕ → List ℕ) (long : A → ℕ) (put_long : (a : A) (r : List ℕ) → length (put a r) ≡ long a + length r) where
  join_length : (l : List A) (z : List ℕ) → length (join_all put l z) ≡ length (join_all put l []) + length z
  join_length [] z = omega arith
  join_length (a ∷ l) z =
      let i = join_length l z in
      omega (arith, put_long a (join_all put l z), put_long a (join_all put l []), i)

  pub no_tail : (l : List A) (z : List ℕ) → join_all put l z ≡ join_all put l [] → z ≡ []
  no_tail l z e = empty z (omega (arith, join_length l z, ap length e))

-- ---- a turn of a reader's loop that finds a fault: where nothing is left there is none
pub onwards_bad : (K : Kit) → K.step [] ≡ stop → (n at : ℕ) (table : List K.Entry) (s : List ℕ) (r : Refusal)
    → n ≤ at → K.step (drop at s) ≡ bad r → onwards K n at table s ≡ refused (from at r)
onwards_bad K nil n at table s r few e = go (drop at s) refl
  where
    go : (z : List ℕ) → drop at s ≡ z → onwards K n at table s ≡ refused (from at r)
    go [] d =
        let q : stop ≡ bad r = sym nil ∙ ap K.step (sym d) ∙ e in
        let x : ◌≡◌ {A = ℕ} 0 1 = cc in
        absurd (omega arith)
    go (b ∷ z) d =
        let l : length s - at ≡ suc (length z) = sym (length-drop at s) ∙ ap length d in
        resume_bad K n at table s (length s - n) (length s - (n + 1)) (omega arith) r e
