-- What one who waits for the missing bytes gets. Assumes nothing.
use mathlib.Core.Path.{◌≡◌, refl, sym, ap, ◌∙◌}
use mathlib.Core.List.{List, ◌++◌}
use mathlib.Core.Logic.{inl, inr}
use Prim.Native.Nat.{ℕ, ◌+◌, ◌-◌, ◌≤◌, ◌<◌}
use native.Mathlib.Omega.{arith}
use borrow.Author.Tests.{ltb-true, ltb-false, le-ltb}
use lib.Dec.{ltb}
use lib.ListN.{length, length-append}
use Rattle.wire.specs.Number as Number
use Rattle.wire.specs.Bytes.{pick, num_at}
use Rattle.wire.specs.Refusal.{refusal}
use Rattle.wire.specs.Tlv.{size_of}
use Rattle.wire.specs.View.{view}
use Rattle.wire.specs.Walk.{read_from}
use Rattle.wire.specs.Waits.{WaitsBut, MissingTells}
use Rattle.wire.specs.declared.Refusal.{Refusal}
use Rattle.std.specs.declared.result.Result.TheVariants.{Ok, Err}
use Rattle.wire.proofs.Cuts.{pick_by}
use Rattle.wire.proofs.Waits.{Judge, by_number, part_more, cut_tells, said, said_few, ends, test, given, need, ask, look, waits_by, tells_by}
use Rattle.wire.proofs.WalkWaits.{lacks, StepWaited, whole, step_stop, step_need, num_more, StepTells, walk_said, StepsWait, walk_on, more_bytes}
use Rattle.cursor.specs.Read.{cursor}
use Rattle.layout.proofs.Waits.{fields, fields_judge}
use Rattle.models.specs.declared.Afi.{Afi}
use Rattle.per_peer_type.specs.declared.BmpPeerType.{BmpPeerType}
use Rattle.peer_up_notification.specs.Grammar.{widths}
use Rattle.peer_up_notification.specs.Shown.{sent_at, refusal_of}
use Rattle.peer_up_notification.specs.Read.{Open, open_at, front_of, step, kit, with_tlvs, with_received, with_sent, read_peer_up, reader}
use Rattle.peer_up_notification.specs.Cuts.{OpenBegun}
use Rattle.peer_up_notification.proofs.Laws.{takes}

-- ---- the TLVs
steps : (s t : List ℕ) → StepWaited size_of (length t) (step s) (step (s ++ t))
unfolding step
steps s t =
    let n = length s in
    let m = length (s ++ t) in
    let k = length t in
    let longer = length-append s t in
    let size = num_at 2 s 2 in
    step_stop size_of k (ltb n 4) (ltb m 4) (λ h. let four = ltb-false n 4 h in le-ltb m 4 (omega arith)) (λ h.
    let four = ltb-false n 4 h in
    rw (num_more 2 2 s t four)
    (step_need size_of k n m 4 size longer four (ltb (n - 4) size) (ltb (m - 4) size) (lacks n 4 size) (lacks m 4 size)
    (λ there. rw (num_more 2 0 s t (omega arith), part_more size 4 s t there) whole) (λ few now. omega arith)))

told : (s : List ℕ) → StepTells (step s)
unfolding step
told s =
    let n = length s in
    let size = num_at 2 s 2 in
    pick_by StepTells (ltb n 4) (λ h. tt) (λ h. pick_by StepTells (ltb (n - 4) size) (λ v. cut_tells n 4 size (ltb-true (n - 4) size v)) (λ v. tt))

wait : StepsWait kit
wait = record { takes = takes; steps = steps; tells = told }

-- ---- an OPEN at a place, and what stands behind it
module _ {Again : List ℕ → ℕ → ℕ → Type 0} (at : ℕ) (again : (s : List ℕ) (m : ℕ) → at ≤ length s → length s - at < 19 → at + 19 ≤ m → Again s m at)
    (next : (size : ℕ) → Judge (λ s m p. num_at 2 s (at + 16) ≡ size → Again s m p) (at + size) (at + size)) where
  open_then : Judge Again at at
  open_then =
      look 19 again (given (λ s. num_at 2 s (at + 16)) (by_number 2 (at + 16) (omega arith) (λ n. n)) (λ size.
      test (λ s. ltb size 19) (λ s t h. refl) (ends Number.BgpLength (at + 16) refl) (ask size (next size))))

  -- the refusal that g makes of what stands there, where it hands on that of a broken OPEN
  open_said : (g : Open → Refusal) → ((r : Refusal) → g (Err r) ≡ r) → (s : List ℕ)
      → g (Ok (view at (num_at 2 s (at + 16)), cursor (at + num_at 2 s (at + 16)))) ≡ (next (num_at 2 s (at + 16))).judge s → g (open_at s at) ≡ open_then.judge s
  unfolding open_then open_at look given test ends ask need
  open_said g broken s found =
      let size = num_at 2 s (at + 16) in
      said_few g (length s - at) 19 (λ h. broken _) (λ h. said g (ltb size 19) (broken _) (said_few g (length s - at) size (λ l. broken _) (λ l. found)))

-- ---- address and ports, both messages, and then the TLVs
sent_begun : (s : List ℕ) (m : ℕ) → sent_at ≤ length s → length s - sent_at < 19 → sent_at + 19 ≤ m → OpenBegun s m sent_at
sent_begun s m h few now = (omega arith, now, inl refl)

-- the sent one has this size, and the received one stands behind it
module _ (size : ℕ) where
  abbrev Behind : List ℕ → ℕ → ℕ → Type 0
  Behind s m p = num_at 2 s (sent_at + 16) ≡ size → OpenBegun s m p

  received_begun : (s : List ℕ) (m : ℕ) → sent_at + size ≤ length s → length s - (sent_at + size) < 19 → sent_at + size + 19 ≤ m → Behind s m (sent_at + size)
  received_begun s m h few now e = (omega arith, now, inr (ap (λ (n : ℕ). sent_at + n) (sym e)))

  tlvs : (n : ℕ) → Judge (λ s m p. num_at 2 s (sent_at + size + 16) ≡ n → Behind s m p) (sent_at + size + n) (sent_at + size + n)
  tlvs n = walk_on kit wait length more_bytes

  received : Judge Behind (sent_at + size) (sent_at + size)
  received = open_then (sent_at + size) received_begun tlvs

sent : Judge OpenBegun sent_at sent_at
sent = open_then sent_at sent_begun received

judged : Judge OpenBegun 0 0
judged = fields widths 0 sent_at refl sent

module _ (afi : Afi) (peer : BmpPeerType) where
  reads : (s : List ℕ) → refusal_of (read_peer_up afi peer s) ≡ pick (ltb Number.limit (length s)) (refusal Number.TooLong 0) (judged.judge s)
  unfolding judged sent received tlvs walk_on
  reads s =
      let size = num_at 2 s (sent_at + 16) in
      said refusal_of (ltb Number.limit (length s)) refl
      (said refusal_of (ltb (length s) sent_at) refl
      (open_said sent_at sent_begun received (λ o. refusal_of (with_sent afi peer s o)) (λ r. refl) s
      (open_said (sent_at + size) (received_begun size) (tlvs size) (λ o. refusal_of (with_received afi peer s (view sent_at size) o)) (λ r. refl) s
      (walk_said refusal_of (with_tlvs peer (front_of afi s _ _)) (λ n at table z. refl) (λ r. refl) (read_from kit (length s) _ s))))
      ∙ sym (fields_judge 0 widths 0 sent_at refl sent s (omega arith)))

  pub waits : WaitsBut OpenBegun (reader afi peer)
  waits = waits_by (reader afi peer) judged reads

  pub missing_tells : MissingTells (reader afi peer)
  missing_tells = tells_by (reader afi peer) judged reads
