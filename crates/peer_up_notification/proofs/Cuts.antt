-- A Cut is at the first part that is not whole. Assumes nothing.
use mathlib.Core.Path.{◌≡◌, refl, ap}
use mathlib.Core.List.{List}
use mathlib.Core.Logic.{inl, inr}
use Prim.Native.Nat.{ℕ, ◌+◌, ◌-◌, ◌≤◌}
use native.Mathlib.Omega.{arith}
use borrow.Author.Tests.{ltb-true, ltb-false}
use lib.Dec.{ltb}
use lib.ListN.{length}
use Rattle.wire.specs.Number as Number
use Rattle.wire.specs.Bytes.{num_at, Bytes}
use Rattle.wire.specs.View.{view}
use Rattle.wire.specs.Walk.{read_from}
use Rattle.wire.specs.declared.View.{View}
use Rattle.wire.proofs.Cuts.{CutsIn, cuts_in, pick_by, value_lacks, one_lacks, walk_cut}
use Rattle.layout.proofs.Promises.{first_lacking}
use Rattle.models.specs.declared.Afi.{Afi}
use Rattle.per_peer_type.specs.declared.BmpPeerType.{BmpPeerType}
use Rattle.peer_up_notification.specs.Grammar.{widths}
use Rattle.peer_up_notification.specs.Shown.{sent_at, ReadPeerUp, refusal_of}
use Rattle.peer_up_notification.specs.Read.{Open, open_at, front_of, step, widths_in, kit, with_tlvs, with_received, with_sent, read_peer_up}
use Rattle.peer_up_notification.specs.Cuts.{end_at, CutIn, in_front, in_sent, in_received, in_tlv}
use Rattle.peer_up_notification.proofs.Laws.{laws}

cuts : (s : List ℕ) → CutsIn (widths_in s) (length s) (step s)
unfolding step
cuts s =
    let P = CutsIn (widths_in s) (length s) in
    let size = num_at 2 s 2 in
    pick_by P (ltb (length s) 4) (λ h. tt) (λ four. pick_by P (ltb (length s - 4) size)
    (λ h e. value_lacks size (length s) (ltb-false (length s) 4 four) (ltb-true (length s - 4) size h))
    (λ h. tt))

module _ (afi : Afi) (peer : BmpPeerType) (s : List ℕ) (p : Bytes s) where
  abbrev Cuts : ReadPeerUp → Type 0
  Cuts a = (refusal_of a).number ≡ Number.Cut → CutIn s (refusal_of a)

  in_tlvs : (sent received : View) (at : ℕ) → sent_at + 19 ≤ length s → end_at s sent_at + 19 ≤ length s → at ≡ end_at s (end_at s sent_at) → at ≤ length s
      → Cuts (with_tlvs peer (front_of afi s sent received) (read_from kit (length s) at s))
  in_tlvs sent received at one two here inside e =
      in_tlv at one two here inside
      (walk_cut kit laws widths_in (λ z. cuts_in (widths_in z) (length z) (step z) (cuts z)) refusal_of
      (with_tlvs peer (front_of afi s sent received)) (λ n at table z. refl) (λ r. refl) (length s) at s p inside e)

  after_sent : (sent : View) (at : ℕ) → sent_at + 19 ≤ length s → at ≡ end_at s sent_at → at ≤ length s → Cuts (with_received afi peer s sent (open_at s at))
  unfolding open_at
  after_sent sent at one here inside =
      let size = num_at 2 s (at + 16) in
      let P : Open → Type 0 = λ o. Cuts (with_received afi peer s sent o) in
      pick_by P (ltb (length s - at) 19) (λ h e. in_received at one here (inl (one_lacks at 19 (length s) inside (ltb-true (length s - at) 19 h)))) (λ header.
      pick_by P (ltb size 19) (λ h e. absurd (omega arith)) (λ h. pick_by P (ltb (length s - at) size)
      (λ h e. in_received at one here (inr (omega (arith, ltb-false (length s - at) 19 header), one_lacks at size (length s) inside (ltb-true (length s - at) size h))))
      (λ h. in_tlvs sent (view at size) (at + size) one (omega (arith, here, ltb-false (length s - at) 19 header)) (ap (end_at s) here)
      (omega (arith, ltb-false (length s - at) size h)))))

  pub refuses_cut : Cuts (read_peer_up afi peer s)
  unfolding open_at
  refuses_cut =
      let size = num_at 2 s (sent_at + 16) in
      let P : Open → Type 0 = λ o. Cuts (with_sent afi peer s o) in
      pick_by Cuts (ltb Number.limit (length s)) (λ h e. absurd (omega arith)) (λ h. pick_by Cuts (ltb (length s) sent_at)
      (λ h e. in_front (first_lacking widths 0 (length s) (omega arith) (ltb-true (length s) sent_at h))) (λ front. let f = ltb-false (length s) sent_at front in
      pick_by P (ltb (length s - sent_at) 19) (λ h e. in_sent (inl (one_lacks sent_at 19 (length s) f (ltb-true (length s - sent_at) 19 h)))) (λ header.
      pick_by P (ltb size 19) (λ h e. absurd (omega arith)) (λ h. pick_by P (ltb (length s - sent_at) size)
      (λ h e. in_sent (inr (omega (arith, ltb-false (length s - sent_at) 19 header), one_lacks sent_at size (length s) f (ltb-true (length s - sent_at) size h))))
      (λ h. after_sent (view sent_at size) (sent_at + size) (omega (arith, ltb-false (length s - sent_at) 19 header)) refl (omega (arith, ltb-false (length s - sent_at) size h, f)))))))
