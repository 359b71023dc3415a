-- One step of the walk by its cases; what it says of the bytes, and what `step_at` answers in each. Assumes nothing.
use mathlib.Core.Path.{◌≡◌, refl, sym, ap, ◌∙◌, subst}
use mathlib.Core.List.{List}
use mathlib.Core.Bool.{Bool, true, false}
use Prim.Native.Nat.{ℕ, ◌+◌, ◌-◌, ◌≤◌, ◌<◌}
use native.Mathlib.Omega.{arith}
use borrow.Author.Tests.{lt-ltb, le-ltb, ltb-true, ltb-false}
use lib.Dec.{ltb}
use lib.ListN.{length, drop, length-drop}
use Rattle.wire.specs.Bytes.{pick, num_at}
use Rattle.wire.specs.Refusal.{cut_at, need_at}
use Rattle.cursor.specs.Read.{cursor}
use Rattle.wire.specs.Tlv.{Tlv, size_of}
use Rattle.wire.specs.TlvAt.{tlv_of}
use Rattle.wire.specs.Walk as Walk
use Rattle.wire.specs.Walk.{stop, bad, item, from}
use Rattle.wire.specs.declared.Refusal.{Refusal}
use Rattle.std.specs.declared.result.Result.TheVariants.{Ok, Err}
use Rattle.std.specs.declared.option.Option.TheVariants.{Some, None}
use Rattle.tlv_head.specs.Head.{head_at}
use Rattle.tlv_head.specs.declared.TlvHead.{TlvHead}
use Rattle.tlv_head.proofs.Heads.{Head, was_found, was_short}
use Rattle.wire.proofs.Needs.{was_met, was_cut, cut_from}
use Rattle.peer_up_notification.specs.Shown.{shown_tlv, entry}
use Rattle.peer_up_notification.specs.Read.{step, stop_at, Stepped, step_at}
use Rattle.peer_up_notification.specs.declared.PeerUpNotificationTlv.{PeerUpNotificationTlv}
use Rattle.walk.specs.Lent.{step_of}
use Rattle.walk.specs.declared.lent.Step.TheVariants.{Stop, Whole}

pub data Seen (s : List ℕ) : Walk.Step Tlv → Type 0 where
  none : length s ≤ 3 → Seen s stop
  cut : Seen s (bad (cut_at (length s) 4 (num_at 2 s 2)))
  whole : 4 ≤ length s → num_at 2 s 2 ≤ length s - 4 → Seen s (item (tlv_of s))

pub see : (s : List ℕ) → Seen s (step s)
unfolding step
see s = go (ltb (length s) 4) refl (ltb (length s - 4) (num_at 2 s 2)) refl
  where
    go : (a : Bool) → ltb (length s) 4 ≡ a → (b : Bool) → ltb (length s - 4) (num_at 2 s 2) ≡ b
        → Seen s (pick a stop (pick b (bad (cut_at (length s) 4 (num_at 2 s 2))) (item (tlv_of s))))
    go true h b k = let l = ltb-true (length s) 4 h in none (omega arith)
    go false h true k = cut
    go false h false k = whole (ltb-false (length s) 4 h) (ltb-false (length s - 4) (num_at 2 s 2) k)

-- ---- and the step by its case
pub none_of : (s : List ℕ) → length s ≤ 3 → step s ≡ stop
unfolding step
none_of s h = rw (lt-ltb (length s) 4 (omega arith))

cut_of : (s : List ℕ) → 4 ≤ length s → length s - 4 < num_at 2 s 2 → step s ≡ bad (cut_at (length s) 4 (num_at 2 s 2))
unfolding step
cut_of s h k = rw (le-ltb (length s) 4 h, lt-ltb (length s - 4) (num_at 2 s 2) k)

pub whole_of : (s : List ℕ) → 4 ≤ length s → num_at 2 s 2 ≤ length s - 4 → step s ≡ item (tlv_of s)
unfolding step
whole_of s h k = rw (le-ltb (length s) 4 h, le-ltb (length s - 4) (num_at 2 s 2) k)

-- ---- what the step's answer says of the bytes
pub record Found (s : List ℕ) (t : Tlv) : Type 0 where
  pub is : tlv_of s ≡ t
  pub long : 4 ≤ length s
  pub there : num_at 2 s 2 ≤ length s - 4

pub found : (s : List ℕ) (t : Tlv) {x : Walk.Step Tlv} → Seen s x → x ≡ item t → Found s t
found s t (none h) q = absurd cc
found s t cut q = absurd cc
found s t (whole h k) q = record { is = cc; long = h; there = k }

pub stopped : (s : List ℕ) {x : Walk.Step Tlv} → Seen s x → x ≡ stop → length s ≤ 3
stopped s (none h) q = h
stopped s cut q = absurd cc
stopped s (whole h k) q = absurd cc

pub numbered : (s : List ℕ) (r : Refusal) {x : Walk.Step Tlv} → Seen s x → x ≡ bad r → 0 < r.number
numbered s r (none h) q = absurd cc
numbered s r cut q = let e : cut_at (length s) 4 (num_at 2 s 2) ≡ r = cc in subst (λ (j : Refusal). 0 < j.number) e (omega arith)
numbered s r (whole h k) q = absurd cc

-- ---- each answer of `step_at`, by the head that was read and what it needed
module _ (s : List ℕ) (at : ℕ) (o : PeerUpNotificationTlv) where
  pub brief_at : head_at 0 s at ≡ None → ◌≡◌ {A = Stepped} (Ok (Stop at), o) (step_at s at o)
  brief_at e =
      let h = was_short 0 s at refl (sym e) in
      sym (ap (step_of entry size_of stop_at at (drop at s) o) (none_of (drop at s) (simp length-drop (omega arith))))

  module _ (h : TlvHead) (e : head_at 0 s at ≡ Some h) where
    head : Head 0 s at h
    head = was_found 0 s at e refl

    long : 4 ≤ length (drop at s)
    long = let w = head in simp length-drop (omega arith)

    pub cut-at : (r : Refusal) → need_at (length s) h.value.at h.length ≡ Err r → ◌≡◌ {A = Stepped} (Err r, o) (step_at s at o)
    cut-at r q =
        let w = head in
        let lacked = was_cut (length s) h.value.at h.length q refl in
        sym (ap (step_of entry size_of stop_at at (drop at s) o) (cut_of (drop at s) long (rw (length-drop, w.size_is) (omega (arith, lacked.few))))
        ∙ ap (λ (r : Refusal). (Err r, o)) (ap (λ (k : ℕ). from at (cut_at (length (drop at s)) 4 k)) w.size_is ∙ cut_from s at 4 h.value.at h.length w.next ∙ sym lacked.cut_is))

    pub whole_at : (u : Unit {0}) → need_at (length s) h.value.at h.length ≡ Ok u
        → ◌≡◌ {A = Stepped} (Ok (Whole (cursor (h.value.at + h.length))), shown_tlv h.kind h.length h.value.at) (step_at s at o)
    whole_at u q =
        let w = head in
        let met = was_met (length s) h.value.at h.length q refl in
        let end_is : at + (4 + num_at 2 (drop at s) 2) ≡ h.value.at + h.length = omega arith in
        sym (ap (step_of entry size_of stop_at at (drop at s) o) (whole_of (drop at s) long (rw (length-drop, w.size_is) (omega arith)))
        ∙ (λ i. (Ok (Whole (cursor (end_is i))), shown_tlv (w.kind_is i) (w.size_is i) (sym w.next i))))

pub ruleset answers = (brief_at, cut-at, whole_at)
