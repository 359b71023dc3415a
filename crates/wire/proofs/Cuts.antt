-- Where a walk is cut: one law for every kit. Assumes nothing.
use mathlib.Core.Path.{◌≡◌, refl, sym, ap, ◌∙◌, subst}
use mathlib.Core.Bool.{Bool, true, false}
use mathlib.Core.List.{List, [], ◌∷◌, ◌++◌}
use mathlib.Core.Logic.{◌⊎◌, inl, inr}
use Prim.Native.Nat.{ℕ, zero, suc, ◌+◌, ◌-◌, ◌≤◌, ◌<◌}
use native.Mathlib.Omega.{arith}
use lib.Dec.{leb, ltb}
use lib.ListN.{length, drop, set, replicate, length-drop}
use Rattle.wire.specs.Number as Number
use Rattle.wire.specs.Bytes.{pick, Bytes}
use Rattle.wire.specs.Refusal.{refusal, cut_at}
use Rattle.wire.specs.Parts.{join_all, EachGood, end_from}
use Rattle.wire.specs.TlvAt.{tlv_widths}
use Rattle.wire.specs.Lacking.{total, FirstLacking, CutAfter}
use Rattle.wire.specs.Walk.{Step, stop, bad, item, End, tail, fault, Walked, Kit, next, walk, Out, good, refused, from, fill, read_from}
use Rattle.wire.specs.Exactly.{Reader, number_of}
use Rattle.wire.specs.declared.Refusal.{Refusal}
use Rattle.wire.proofs.Bytes.{bytes_drop}
use Rattle.wire.proofs.Walk.{Laws, tail_behind, end_within}

-- the same parts, k bytes further on
pub lacking_behind : (ws : List ℕ) (n : ℕ) (r : Refusal) (k m : ℕ) → k + n ≡ m → FirstLacking ws 0 n r → FirstLacking ws k m (from k r)
lacking_behind ws n r k m e l =
    record {
      before = l.before;
      width = l.width;
      behind = l.behind;
      run_is = l.run_is;
      place_is = omega (arith, l.place_is);
      starts_inside = omega (arith, l.starts_inside);
      ends_outside = omega (arith, l.ends_outside);
      missing_is = omega (arith, l.missing_is);
    }

-- of two answers that a test picks from, the second where the first has another number
pub picked_other : {A : Type 0} (number : A → ℕ) (b : Bool) {x y : A} (n : ℕ) → (number x ≡ n → ⊥) → number (pick b x y) ≡ n → pick b x y ≡ y
picked_other number true n differs e = absurd (differs e)
picked_other number false n differs e = refl

-- a table that was filled in vain had no room, or the walk had ended with a fault
fill_broken : (K : Kit) (l : List K.Item) (n at : ℕ) (table : List K.Entry) (e : End) (r : Refusal) → fill K n at table l e ≡ refused r
    → (r.number ≡ Number.TooMany) ⊎ ((q : Refusal) × (e ≡ fault q) × (from (end_from K.size at l) q ≡ r))
unfolding fill
fill_broken K [] n at table (tail z) r q = let x : ◌≡◌ {A = ℕ} 0 1 = cc in absurd (omega arith)
fill_broken K [] n at table (fault d) r q = let y : from at d ≡ r = cc in inr (d, refl, y)
fill_broken K (a ∷ l) n at table e r q =
    go (leb K.limit n) refl (fill_broken K l (n + 1) (at + K.size a) (set table n (K.entry at a)) e r)
  where
    Broken : Type 0
    Broken = (r.number ≡ Number.TooMany) ⊎ ((q : Refusal) × (e ≡ fault q) × (from (end_from K.size (at + K.size a) l) q ≡ r))

    go : (d : Bool) → leb K.limit n ≡ d → (fill K (n + 1) (at + K.size a) (set table n (K.entry at a)) l e ≡ refused r → Broken) → Broken
    go true v i = let y : refusal Number.TooMany at ≡ r = cc in inl (ap (λ (j : Refusal). j.number) (sym y))
    go false v i = i (rw v at q)

module _ (K : Kit) {put : K.Item → List ℕ → List ℕ} {G : K.Item → List ℕ → Type 0} (laws : Laws K put G) where
  -- items that are whole, and then the bytes z, at whose front the fault is
  record Broken (l : List K.Item) (q : Refusal) (s : List ℕ) : Type 0 where
    rest : List ℕ
    each : EachGood put G l rest
    joined : join_all put l rest ≡ s
    at_front : K.step rest ≡ bad q

  walk_broken : (f : ℕ) (s : List ℕ) → Bytes s → (q : Refusal) → (walk K f s).end ≡ fault q → Broken (walk K f s).items q s
  unfolding walk
  walk_broken zero s p q e = let x : ◌≡◌ {A = ℕ} 0 1 = cc in absurd (omega arith)
  walk_broken (suc f) s p q e = go (K.step s) refl (λ a. walk_broken f (drop (K.size a) s)) e
    where
      go : (x : Step K.Item) → K.step s ≡ x
          → ((a : K.Item) → Bytes (drop (K.size a) s) → (q : Refusal) → (walk K f (drop (K.size a) s)).end ≡ fault q
          → Broken (walk K f (drop (K.size a) s)).items q (drop (K.size a) s))
          → (next x s (λ a. walk K f (drop (K.size a) s))).end ≡ fault q → Broken (next x s (λ a. walk K f (drop (K.size a) s))).items q s
      go stop x i e = let n : ◌≡◌ {A = ℕ} 0 1 = cc in absurd (omega arith)
      go (bad d) x i e =
          let y : d ≡ q = cc in
          record { rest = s; each = tt; joined = refl; at_front = x ∙ ap bad y }
      go (item a) x i e =
          let j = i a (bytes_drop (K.size a) p) q e in
          let b = laws.back s p a x in
          record {
            rest = j.rest;
            each = (subst (G a) (sym j.joined) b.0, j.each);
            joined = ap (put a) j.joined ∙ b.1;
            at_front = j.at_front;
          }

  -- where each Cut at the front of some bytes is at the first part that is not whole, so is a Cut of the walk
  module _ (widths : List ℕ → List ℕ)
      (cuts : (z : List ℕ) (q : Refusal) → K.step z ≡ bad q → q.number ≡ Number.Cut → FirstLacking (widths z) 0 (length z) q) where
    cut_behind : (f at : ℕ) (s : List ℕ) → Bytes s → at ≤ length s → (r : Refusal) → read_from K f at s ≡ refused r → r.number ≡ Number.Cut
        → CutAfter put G K.size widths at s r
    cut_behind f at s p inside r e c =
        go (fill_broken K w.items 0 at (replicate K.limit K.none) w.end r e)
      where
        w : Walked K.Item
        w = walk K f (drop at s)

        go : (r.number ≡ Number.TooMany) ⊎ ((q : Refusal) × (w.end ≡ fault q) × (from (end_from K.size at w.items) q ≡ r))
            → CutAfter put G K.size widths at s r
        go (inl many) = absurd (omega (arith, many, c))
        go (inr (q, e, is-r)) =
            let b = walk_broken f (drop at s) (bytes_drop at p) q e in
            let end = end_from K.size at w.items in
            let rest_is : drop end s ≡ b.rest = tail_behind K laws s w.items b.rest at b.each b.joined in
            let within : end ≤ length s = end_within K laws s w.items b.rest at b.each b.joined inside in
            let long : end + length b.rest ≡ length s = omega (arith, ap length (sym rest_is) ∙ length-drop end s) in
            let number_is : q.number ≡ Number.Cut = ap (λ (x : Refusal). x.number) is-r ∙ c in
            record {
              items = w.items;
              rest = b.rest;
              each_good = b.each;
              joined = b.joined;
              lacking =
                  subst (FirstLacking (widths b.rest) end (length s)) is-r
                  (lacking_behind (widths b.rest) (length b.rest) q end (length s) long (cuts b.rest q b.at_front number_is));
            }

    -- the same of the answer that is made of what the walk hands back
    pub walk_cut : {A : Type 0} (refusal_of : A → Refusal) (answer : Out K.Entry → A)
        → ((n at : ℕ) (table : List K.Entry) (z : List ℕ) → (refusal_of (answer (good n at table z))).number ≡ Number.Good)
        → ((r : Refusal) → refusal_of (answer (refused r)) ≡ r)
        → (f at : ℕ) (s : List ℕ) → Bytes s → at ≤ length s → (refusal_of (answer (read_from K f at s))).number ≡ Number.Cut
        → CutAfter put G K.size widths at s (refusal_of (answer (read_from K f at s)))
    walk_cut refusal_of answer when-good when-refused f at s p inside c = go (read_from K f at s) refl
      where
        go : (o : Out K.Entry) → read_from K f at s ≡ o → CutAfter put G K.size widths at s (refusal_of (answer (read_from K f at s)))
        go (good n end table z) e =
            let x : Number.Good ≡ Number.Cut = sym (when-good n end table z) ∙ ap (λ (o : Out K.Entry). (refusal_of (answer o)).number) (sym e) ∙ c in
            absurd (omega arith)
        go (refused r) e =
            let is-r : refusal_of (answer (read_from K f at s)) ≡ r = ap (λ (o : Out K.Entry). refusal_of (answer o)) e ∙ when-refused r in
            subst (CutAfter put G K.size widths at s) (sym is-r)
            (cut_behind f at s p inside r e (ap (λ (x : Refusal). x.number) (sym is-r) ∙ c))

    -- and of a reader that judges the length, and then walks over all of the input
    pub body_cut : (R : Reader) (too_long : R.Answer) (answer : Out K.Entry → R.Answer)
        → ((s : List ℕ) → R.read s ≡ pick (ltb Number.limit (length s)) too_long (answer (read_from K (length s) 0 s)))
        → (R.refusal_of too_long).number ≡ Number.TooLong
        → ((n at : ℕ) (table : List K.Entry) (z : List ℕ) → (R.refusal_of (answer (good n at table z))).number ≡ Number.Good)
        → ((r : Refusal) → R.refusal_of (answer (refused r)) ≡ r)
        → (s : List ℕ) → Bytes s → number_of R s ≡ Number.Cut → CutAfter put G K.size widths 0 s (R.refusal_of (R.read s))
    body_cut R too_long answer reads one when-good when-refused s p e =
        let number : R.Answer → ℕ = λ a. (R.refusal_of a).number in
        let judged = ap number (sym (reads s)) ∙ e in
        let walked = reads s ∙ picked_other number (ltb Number.limit (length s)) Number.Cut (λ q. omega (arith, q, one)) judged in
        subst (λ (a : R.Answer). CutAfter put G K.size widths 0 s (R.refusal_of a)) (sym walked)
        (walk_cut R.refusal_of answer when-good when-refused (length s) 0 s p (omega arith) (ap number (sym walked) ∙ e))

-- ---- a Cut at the front of n bytes is at the first part that is not whole: for a step that is made by tests, one after the other
abbrev pub CutsIn : {A : Type 0} → List ℕ → ℕ → Step A → Type 0
CutsIn ws n stop = Unit {0}
CutsIn ws n (bad q) = q.number ≡ Number.Cut → FirstLacking ws 0 n q
CutsIn ws n (item a) = Unit {0}

pub cuts_in : {A : Type 0} (ws : List ℕ) (n : ℕ) (x : Step A) → CutsIn ws n x → (q : Refusal) → x ≡ bad q → q.number ≡ Number.Cut
    → FirstLacking ws 0 n q
cuts_in ws n x h q e = subst (CutsIn ws n) e h

-- what holds of each of two where its test holds, holds of the one that the test picks
pub pick_by : {A : Type 0} (P : A → Type 0) (b : Bool) {x y : A} → (b ≡ true → P x) → (b ≡ false → P y) → P (pick b x y)
pick_by P true p q = p refl
pick_by P false p q = q refl

-- a part that lacks bytes, behind those that are whole
pub part_lacks : (before : List ℕ) (width : ℕ) (behind : List ℕ) (n : ℕ) → total before ≤ n → n < total before + width
    → FirstLacking (before ++ width ∷ behind) 0 n (cut_at n (total before) width)
part_lacks before width behind n inside short =
    record {
      before = before;
      width = width;
      behind = behind;
      run_is = refl;
      place_is = omega arith;
      starts_inside = inside;
      ends_outside = short;
      missing_is = omega arith;
    }

-- one part alone that lacks bytes
pub one_lacks : (at width n : ℕ) → at ≤ n → n - at < width → FirstLacking (width ∷ []) at n (cut_at n at width)
one_lacks at width n inside few =
    record {
      before = [];
      width = width;
      behind = [];
      run_is = refl;
      place_is = omega arith;
      starts_inside = inside;
      ends_outside = omega arith;
      missing_is = omega arith;
    }

-- the three parts of a TLV
module _ (need n : ℕ) where
  pub type_lacks : n < 2 → FirstLacking (tlv_widths need) 0 n (cut_at n 0 2)
  type_lacks h = part_lacks [] 2 (2 ∷ need ∷ []) n (omega arith) (omega arith)

  pub length_lacks : 2 ≤ n → n < 4 → FirstLacking (tlv_widths need) 0 n (cut_at n 2 2)
  length_lacks l h = part_lacks (2 ∷ []) 2 (need ∷ []) n (omega arith) (omega arith)

  pub value_lacks : 4 ≤ n → n - 4 < need → FirstLacking (tlv_widths need) 0 n (cut_at n 4 need)
  value_lacks l h = part_lacks (2 ∷ 2 ∷ []) need [] n (omega arith) (omega arith)
