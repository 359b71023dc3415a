-- One step of the walk by its cases; what `step_at` answers in each, and what its answer says of the step. Assumes nothing.
use mathlib.Core.Path.{◌≡◌, refl, sym, ap, ◌∙◌}
use mathlib.Core.List.{List}
use mathlib.Core.Logic.{inl, inr}
use mathlib.Core.Bool.{Bool, true, false}
use Prim.Native.Nat.{ℕ, ◌+◌, ◌-◌, ◌≤◌, ◌<◌}
use native.Mathlib.Omega.{arith}
use borrow.Author.Tests.{lt-leb, le-leb, lt-ltb, le-ltb, leb-true, leb-false, ltb-true, ltb-false}
use lib.Dec.{leb, ltb}
use lib.ListN.{length, drop, length-drop}
use Rattle.std.specs.declared.result.Result.TheVariants.{Ok}
use Rattle.wire.specs.Bytes.{pick, num_at}
use Rattle.cursor.specs.Read.{cursor}
use Rattle.wire.specs.Tlv.{Tlv, size_of}
use Rattle.wire.specs.TlvAt.{tlv_of}
use Rattle.wire.specs.Walk as Walk
use Rattle.wire.specs.Walk.{stop, bad, item}
use Rattle.wire.specs.declared.Refusal.{Refusal}
use Rattle.wire.proofs.Tlv.{NoTlv}
use Rattle.std.specs.declared.option.Option.TheVariants.{Some, None}
use Rattle.tlv_head.specs.Head.{head_at}
use Rattle.tlv_head.specs.declared.TlvHead.{TlvHead}
use Rattle.tlv_head.proofs.Heads.{Head, was_found, was_short}
use Rattle.initiation_message.specs.Shown.{entry}
use Rattle.initiation_message.specs.Read.{step, stop_behind, Stepped, step_at}
use Rattle.initiation_message.specs.declared.InitiationTlv.{InitiationTlv}
use Rattle.walk.specs.Lent.{step_of}
use Rattle.walk.specs.declared.lent.Step.TheVariants.{Stop, Whole}

pub data Seen (s : List ℕ) : Walk.Step Tlv → Type 0 where
  none : NoTlv s → Seen s stop
  whole : 4 < length s → num_at 2 s 2 ≤ length s - 4 → Seen s (item (tlv_of s))

pub see : (s : List ℕ) → Seen s (step s)
unfolding step
see s = go (leb (length s) 4) refl (ltb (length s - 4) (num_at 2 s 2)) refl
  where
    go : (a : Bool) → leb (length s) 4 ≡ a → (b : Bool) → ltb (length s - 4) (num_at 2 s 2) ≡ b → Seen s (pick a stop (pick b stop (item (tlv_of s))))
    go true h b k = none (inl (leb-true (length s) 4 h))
    go false h true k = none (inr (leb-false (length s) 4 h, ltb-true (length s - 4) (num_at 2 s 2) k))
    go false h false k = whole (leb-false (length s) 4 h) (ltb-false (length s - 4) (num_at 2 s 2) k)

pub of : (s : List ℕ) {x : Walk.Step Tlv} → Seen s x → step s ≡ x
unfolding step
of s (none (inl h)) = rw (le-leb (length s) 4 h)
of s (none (inr h)) = rw (lt-leb (length s) 4 h.0, lt-ltb (length s - 4) (num_at 2 s 2) h.1)
of s (whole h k) = rw (lt-leb (length s) 4 h, le-ltb (length s - 4) (num_at 2 s 2) k)

-- ---- what the step's answer says of the bytes
pub record Found (s : List ℕ) (t : Tlv) : Type 0 where
  pub is : tlv_of s ≡ t
  pub long : 4 < length s
  pub there : num_at 2 s 2 ≤ length s - 4

pub found : (s : List ℕ) (t : Tlv) {x : Walk.Step Tlv} → Seen s x → x ≡ item t → Found s t
found s t (none h) q = absurd cc
found s t (whole h k) q = record { is = cc; long = h; there = k }

pub stopped : (s : List ℕ) {x : Walk.Step Tlv} → Seen s x → x ≡ stop → NoTlv s
stopped s (none h) q = h
stopped s (whole h k) q = absurd cc

pub no_fault : (s : List ℕ) (r : Refusal) {x : Walk.Step Tlv} → Seen s x → x ≡ bad r → ⊥
no_fault s r (none h) q = cc
no_fault s r (whole h k) q = cc

-- ---- each answer of `step_at`, by the head that was read
module _ (s : List ℕ) (at : ℕ) (o : InitiationTlv) where
  pub brief_at : head_at 1 s at ≡ None → ◌≡◌ {A = Stepped} (Ok (Stop at), o) (step_at s at o)
  brief_at e =
      let h = was_short 1 s at refl (sym e) in
      let l : length (drop at s) ≤ 4 = simp length-drop (omega arith) in
      rw (of (drop at s) (none (inl l)), le-leb (length (drop at s)) 4 l)

  module _ (h : TlvHead) (e : head_at 1 s at ≡ Some h) where
    head : Head 1 s at h
    head = was_found 1 s at e refl

    long : 4 < length (drop at s)
    long = let w = head in simp length-drop (omega arith)

    pub beyond_at : length s - h.value.at < h.length → ◌≡◌ {A = Stepped} (Ok (Stop h.value.at), o) (step_at s at o)
    beyond_at l =
        let w = head in
        rw (of (drop at s) (none (inr (long, rw (length-drop, w.size_is) (omega arith)))), lt-leb (length (drop at s)) 4 long, w.next)

    pub whole_at : h.length ≤ length s - h.value.at
        → ◌≡◌ {A = Stepped} (Ok (Whole (cursor (h.value.at + h.length))), record { kind = h.kind; info_len = h.length; place = h.value.at }) (step_at s at o)
    whole_at l =
        let w = head in
        let end_is : at + (4 + num_at 2 (drop at s) 2) ≡ h.value.at + h.length = omega arith in
        sym (ap (step_of entry size_of stop_behind at (drop at s) o) (of (drop at s) (whole long (rw (length-drop, w.size_is) (omega arith))))
        ∙ (λ i. (Ok (Whole (cursor (end_is i))), record { kind = w.kind_is i; info_len = w.size_is i; place = sym w.next i })))

pub ruleset answers = (brief_at, beyond_at, whole_at)
