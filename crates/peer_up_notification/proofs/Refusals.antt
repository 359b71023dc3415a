-- What the reader refuses, and with which numbers. Assumes nothing.
use Prim.Native.Nat.{ℕ, ◌+◌, ◌-◌, ◌≤◌, ◌<◌}
use mathlib.Core.Path.{◌≡◌, refl, sym, ap, ◌∙◌}
use mathlib.Core.List.{List, [], ◌∷◌, ◌++◌}
use native.Mathlib.Omega.{arith}
use borrow.Author.Tests.{ltb-true, le-ltb}
use lib.Dec.{ltb}
use lib.ListN.{length, take, replicate}
use Rattle.wire.specs.Number as Number
use Rattle.wire.specs.Bytes.{value, none, num_at}
use Rattle.wire.specs.Refusal.{refusal}
use Rattle.wire.specs.View.{view}
use Rattle.wire.specs.Parts.{end_from}
use Rattle.wire.specs.Tlv.{size_of}
use Rattle.wire.specs.Walk.{walk, fill}
use Rattle.wire.specs.Refuses.{OneOf, Refuses}
use Rattle.wire.specs.declared.View.{View}
use Rattle.wire.proofs.Cuts.{pick_by}
use Rattle.wire.proofs.Walk.{BadIn, faults_in, read_too_many}
use Rattle.wire.proofs.Refuses.{pick_in, Answered, is_empty, one_of, GivesEach, gives_too_long, walk_answered, refuses_from, bytes_are}
use Rattle.layout.proofs.Cuts.{cut_one_of}
use Rattle.models.specs.declared.Afi.{Afi}
use Rattle.per_peer_type.specs.declared.BmpPeerType.{BmpPeerType}
use Rattle.peer_up_notification.specs.Grammar.{widths, Reading, join, Good, places}
use Rattle.peer_up_notification.specs.Shown.{ReadPeerUp, refused_answer, sent_at, received_at, tlvs_at}
use Rattle.peer_up_notification.specs.Read.{open_at, front_of, step, kit, with_tlvs, with_received, with_sent, read_peer_up, numbers, reader}
use Rattle.peer_up_notification.proofs.Laws.{laws, tails}
use Rattle.peer_up_notification.proofs.Shows.{long_enough, sent-at, received-at}

faults : (s : List ℕ) → BadIn (OneOf numbers) (step s)
unfolding step
faults s =
    let P = BadIn (OneOf numbers) in
    pick_in P (ltb (length s) 4) tt (pick_in P (ltb (length s - 4) (num_at 2 s 2)) (one_of numbers Number.Cut refl) tt)

module _ (afi : Afi) (peer : BmpPeerType) where
  abbrev Fine : ReadPeerUp → Type 0
  Fine = Answered (reader afi peer)

  received_answered : (s : List ℕ) (sent : View) (at : ℕ) → Fine (with_received afi peer s sent (open_at s at))
  unfolding open_at
  received_answered s sent at =
      let size = num_at 2 s (at + 16) in
      let P : _ → Type 0 = λ o. Fine (with_received afi peer s sent o) in
      pick_in P (ltb (length s - at) 19) (is_empty refl (one_of numbers Number.Cut refl))
      (pick_in P (ltb size 19) (is_empty refl (one_of numbers Number.BgpLength refl))
      (pick_in P (ltb (length s - at) size) (is_empty refl (one_of numbers Number.Cut refl))
      (walk_answered (reader afi peer) kit (with_tlvs peer (front_of afi s sent (view at size))) (faults_in kit (OneOf numbers) faults)
      (one_of numbers Number.TooMany refl) (λ n at table z. refl) (λ r. refl) (λ r. refl) (length s) (at + size) s)))

  answered : (s : List ℕ) → Fine (read_peer_up afi peer s)
  unfolding open_at
  answered s =
      let size = num_at 2 s (sent_at + 16) in
      let P : _ → Type 0 = λ o. Fine (with_sent afi peer s o) in
      pick_in Fine (ltb Number.limit (length s)) (is_empty refl (one_of numbers Number.TooLong refl))
      (pick_by Fine (ltb (length s) sent_at)
      (λ h. is_empty refl (cut_one_of numbers (one_of numbers Number.Cut refl) widths 0 (length s) (omega arith) (ltb-true (length s) sent_at h))) (λ h.
      pick_in P (ltb (length s - sent_at) 19) (is_empty refl (one_of numbers Number.Cut refl))
      (pick_in P (ltb size 19) (is_empty refl (one_of numbers Number.BgpLength refl))
      (pick_in P (ltb (length s - sent_at) size) (is_empty refl (one_of numbers Number.Cut refl))
      (received_answered s (view sent_at size) (sent_at + size))))))

  -- none, a message of length 0, and two messages of length 19 with 33 TLVs of length 0
  given : GivesEach (reader afi peer) numbers
  unfolding value walk fill step open_at
  given = (
    gives_too_long (reader afi peer) _ _ (λ s. refl) refl,
    (
      ([], none, refl),
      (
        (replicate 39 0, bytes_are _ refl, refl),
        ((replicate 36 0 ++ (0 ∷ 19 ∷ replicate 17 0 ++ (0 ∷ 19 ∷ replicate 133 0)), bytes_are _ refl, refl), tt),
      ),
    ),
  )

  pub refuses : Refuses (reader afi peer)
  refuses = refuses_from (reader afi peer) answered given

  -- ---- a good reading of more TLVs than the table holds is refused at the first that has no room
  pub too_many : (r : Reading) → Good afi r → length (join r) ≤ Number.limit → places < length r.tlvs
      → read_peer_up afi peer (join r) ≡ refused_answer (refusal Number.TooMany (end_from size_of (tlvs_at r) (take places r.tlvs)))
  too_many r g h many =
      let s = join r in
      rw (le-ltb Number.limit (length s) h, le-ltb (length s) sent_at (long_enough afi r g))
      (ap (with_sent afi peer s) (sent-at afi r g).found_is
      ∙ ap (with_received afi peer s (view sent_at r.sent_open.size)) (received-at afi r g).found_is
      ∙ ap (with_tlvs peer (front_of afi s (view sent_at r.sent_open.size) (view (received_at r) r.received_open.size)))
      (read_too_many kit laws tails (tlvs_at r) s r.tlvs r.tail g.each g.tail_good (sym (received-at afi r g).behind_is) many))
