-- One step of the walk by its cases; what it says of the bytes, and what `step_at` answers in each. Assumes nothing.
use mathlib.Core.Path.{◌≡◌, refl, sym, ap, ◌∙◌}
use mathlib.Core.List.{List}
use mathlib.Core.Bool.{Bool, true, false}
use Prim.Native.Nat.{ℕ, ◌+◌, ◌-◌, ◌≤◌, ◌<◌}
use native.Mathlib.Omega.{arith}
use native.Mathlib.Nat.{add-zero}
use borrow.Author.Tests.{lt-ltb, le-ltb, ltb-true, ltb-false, leb-true, leb-false, lt-leb}
use lib.Dec.{ltb, leb}
use lib.ListN.{length, take, drop, length-drop}
use lib.Seq.{drop-drop}
use Rattle.std.specs.declared.result.Result.TheVariants.{Ok, Err}
use Rattle.wire.specs.Bytes.{pick, num_at}
use Rattle.wire.specs.Refusal.{cut_at}
use Rattle.wire.specs.TlvAt.{tlv_of}
use Rattle.wire.specs.Walk as Walk
use Rattle.wire.specs.Walk.{stop, bad, item, from}
use Rattle.wire.specs.declared.Refusal.{Refusal}
use Rattle.wire.proofs.Needs.{cut_from}
use Rattle.std.specs.declared.option.Option.TheVariants.{Some, None}
use Rattle.tlv_head.specs.Head.{head_at}
use Rattle.tlv_head.specs.declared.TlvHead.{TlvHead}
use Rattle.tlv_head.proofs.Heads.{Head, was_found, was_short}
use Rattle.cursor.specs.declared.Cursor.{Cursor}
use Rattle.stats_report.specs.Grammar.{Stat, size_of}
use Rattle.stats_report.specs.Shown.{entry}
use Rattle.stats_data.specs.Shown.{afi_of, safi_of, number_of, ReadData}
use Rattle.stats_data.specs.Read.{value_of, read_data}
use Rattle.stats_data.proofs.Values.{was_data, no_data}
use Rattle.stats_report.specs.Read.{as_stat, step, head_cut, stop_at, Stepped, step_at}
use Rattle.stats_report.specs.declared.StatCounter.{StatCounter}
use Rattle.walk.specs.Lent.{step_of}
use Rattle.walk.specs.declared.lent.Step.TheVariants.{Whole}

pub data Seen (s : List ℕ) : Walk.Step Stat → Type 0 where
  no_type : length s < 2 → Seen s (bad (cut_at (length s) 0 2))
  no_length : 2 ≤ length s → length s < 4 → Seen s (bad (cut_at (length s) 2 2))
  no_value : 4 ≤ length s → length s - 4 < num_at 2 s 2 → Seen s (bad (cut_at (length s) 4 (num_at 2 s 2)))
  whole : 4 ≤ length s → num_at 2 s 2 ≤ length s - 4 → Seen s (item (as_stat (tlv_of s)))

pub see : (s : List ℕ) → Seen s (step s)
unfolding step
see s = go (ltb (length s) 2) refl (ltb (length s) 4) refl (ltb (length s - 4) (num_at 2 s 2)) refl
  where
    go : (a : Bool) → ltb (length s) 2 ≡ a → (b : Bool) → ltb (length s) 4 ≡ b → (c : Bool) → ltb (length s - 4) (num_at 2 s 2) ≡ c
        → Seen s (pick a (bad (cut_at (length s) 0 2)) (pick b (bad (cut_at (length s) 2 2)) (pick c (bad (cut_at (length s) 4 (num_at 2 s 2))) (item (as_stat (tlv_of s))))))
    go true h b k c l = no_type (ltb-true (length s) 2 h)
    go false h true k c l = no_length (ltb-false (length s) 2 h) (ltb-true (length s) 4 k)
    go false h false k true l = no_value (ltb-false (length s) 4 k) (ltb-true (length s - 4) (num_at 2 s 2) l)
    go false h false k false l = whole (ltb-false (length s) 4 k) (ltb-false (length s - 4) (num_at 2 s 2) l)

pub of : (s : List ℕ) {x : Walk.Step Stat} → Seen s x → step s ≡ x
unfolding step
of s (no_type h) = rw (lt-ltb (length s) 2 h)
of s (no_length h k) = rw (le-ltb (length s) 2 h, lt-ltb (length s) 4 k)
of s (no_value h k) = rw (le-ltb (length s) 2 (omega arith), le-ltb (length s) 4 h, lt-ltb (length s - 4) (num_at 2 s 2) k)
of s (whole h k) = rw (le-ltb (length s) 2 (omega arith), le-ltb (length s) 4 h, le-ltb (length s - 4) (num_at 2 s 2) k)

-- ---- what the step's answer says of the bytes
pub record Found (s : List ℕ) (t : Stat) : Type 0 where
  pub is : as_stat (tlv_of s) ≡ t
  pub long : 4 ≤ length s
  pub there : num_at 2 s 2 ≤ length s - 4

pub found : (s : List ℕ) (t : Stat) {x : Walk.Step Stat} → Seen s x → x ≡ item t → Found s t
found s t (no_type h) q = let z : ◌≡◌ {A = ℕ} 0 1 = cc in absurd (omega arith)
found s t (no_length h k) q = let z : ◌≡◌ {A = ℕ} 0 1 = cc in absurd (omega arith)
found s t (no_value h k) q = let z : ◌≡◌ {A = ℕ} 0 1 = cc in absurd (omega arith)
found s t (whole h k) q = record { is = cc; long = h; there = k }

pub no_stop : (s : List ℕ) {x : Walk.Step Stat} → Seen s x → x ≡ stop → ⊥
no_stop s (no_type h) q = let z : ◌≡◌ {A = ℕ} 0 1 = cc in omega arith
no_stop s (no_length h k) q = let z : ◌≡◌ {A = ℕ} 0 1 = cc in omega arith
no_stop s (no_value h k) q = let z : ◌≡◌ {A = ℕ} 0 1 = cc in omega arith
no_stop s (whole h k) q = let z : ◌≡◌ {A = ℕ} 0 1 = cc in omega arith

pub is_fault : (s : List ℕ) (r : Refusal) {x : Walk.Step Stat} → Seen s x → x ≡ bad r → 0 < r.number
is_fault s r (no_type h) q = let z : cut_at (length s) 0 2 ≡ r = cc in omega (arith, ap (λ (x : Refusal). x.number) z)
is_fault s r (no_length h k) q = let z : cut_at (length s) 2 2 ≡ r = cc in omega (arith, ap (λ (x : Refusal). x.number) z)
is_fault s r (no_value h k) q = let z : cut_at (length s) 4 (num_at 2 s 2) ≡ r = cc in omega (arith, ap (λ (x : Refusal). x.number) z)
is_fault s r (whole h k) q = let z : ◌≡◌ {A = ℕ} 0 1 = cc in absurd (omega arith)

-- ---- each answer of `step_at`, by the head and the data that were read
module _ (s : List ℕ) (at : ℕ) (o : StatCounter) where
  pub no_head_at : head_at 0 s at ≡ None → ◌≡◌ {A = Stepped} (Err (head_cut s at), o) (step_at s at o)
  no_head_at e = sym (go (leb 2 (length s - at)) refl)
    where
      few : length s - at < 4
      few = let h = was_short 0 s at refl (sym e) in omega arith

      go : (x : Bool) → leb 2 (length s - at) ≡ x → step_at s at o ≡ (Err (head_cut s at), o)
      go true h =
          let two = leb-true 2 (length s - at) h in
          rw (of (drop at s) (no_length (simp length-drop (omega arith)) (simp length-drop few)), h, lt-leb 2 (length s - (at + 2)) (omega (arith, few)))
          (ap (λ (r : Refusal). (Err r, o)) (cut_from s at 2 (at + 2) 2 refl))
      go false h =
          let less = leb-false 2 (length s - at) h in
          rw (of (drop at s) (no_type (simp length-drop (omega arith))), h) (ap (λ (r : Refusal). (Err r, o)) (cut_from s at 0 at 2 (sym (add-zero at))))

  module _ (h : TlvHead) (e : head_at 0 s at ≡ Some h) where
    head : Head 0 s at h
    head = was_found 0 s at e refl

    long : 4 ≤ length (drop at s)
    long = let w = head in simp length-drop (omega arith)

    pub no_value_at : (r : Refusal) → ◌≡◌ {A = ReadData} (read_data h.length s h.value.at) (Err r) → ◌≡◌ {A = Stepped} (Err r, o) (step_at s at o)
    no_value_at r q =
        let w = head in
        let n = no_data h.length s h.value.at r (sym q) in
        sym (ap (step_of entry size_of stop_at at (drop at s) o) (of (drop at s) (no_value long (rw (length-drop, w.size_is) (omega (arith, n.0)))))
        ∙ ap (λ (r : Refusal). (Err r, o)) (ap (λ (k : ℕ). from at (cut_at (length (drop at s)) 4 k)) w.size_is ∙ cut_from s at 4 h.value.at h.length w.next ∙ sym n.1))

    pub whole_at : (afi safi n : ℕ) (c : Cursor) → ◌≡◌ {A = ReadData} (read_data h.length s h.value.at) (Ok (afi, safi, n, c))
        → ◌≡◌ {A = Stepped} (Ok (Whole c), record { kind = h.kind; stat_len = h.length; afi = afi; safi = safi; value = n }) (step_at s at o)
    whole_at afi safi n c q =
        let w = head in
        let x = drop at s in
        let d = was_data h.length s h.value.at afi safi n c (sym q) in
        let there : drop 4 x ≡ drop h.value.at s = drop-drop 4 at s ∙ ap (λ (j : ℕ). drop j s) (sym w.next) in
        let v : value_of (num_at 2 x 2) (take (num_at 2 x 2) (drop 4 x)) ≡ value_of h.length (take h.length (drop h.value.at s)) = rw (w.size_is, there) in
        let afi-so = ap afi_of v ∙ sym d.afi_is in
        let safi-so = ap safi_of v ∙ sym d.safi_is in
        let number-so : number_of (at + 4) (value_of (num_at 2 x 2) (take (num_at 2 x 2) (drop 4 x))) ≡ n =
        ap (number_of (at + 4)) v ∙ ap (λ (p : ℕ). number_of p (value_of h.length (take h.length (drop h.value.at s)))) (sym w.next) ∙ sym d.number_is in
        let end_is : at + (4 + num_at 2 x 2) ≡ c.at = omega (arith, w.next, w.size_is, d.next) in
        sym (ap (step_of entry size_of stop_at at x o) (of x (whole long (rw (length-drop, w.size_is) (omega (arith, d.left, w.next)))))
        ∙ (λ i. (Ok (Whole (record { at = end_is i })), record { kind = w.kind_is i; stat_len = w.size_is i; afi = afi-so i; safi = safi-so i; value = number-so i })))

pub ruleset answers = (no_head_at, no_value_at, whole_at)
