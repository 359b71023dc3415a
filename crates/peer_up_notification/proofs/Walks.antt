-- The walk over the TLVs behind the two OPENs, and the answer that is made of it. Assumes nothing.
use mathlib.Core.Path.{◌≡◌, refl, sym, ap, ◌∙◌, subst}
use mathlib.Core.Bool.{Bool}
use mathlib.Core.List.{List}
use Prim.Native.Nat.{ℕ, ◌≤◌}
use native.Mathlib.Omega.{arith}
use borrow.Author.Tests.{le-ltb}
use lib.ListN.{length, replicate}
use Rattle.std.specs.declared.result.Result.{Result}
use Rattle.std.specs.declared.result.Result.TheVariants.{Ok}
use Rattle.wire.specs.Number as Number
use Rattle.wire.specs.Bytes.{pick}
use Rattle.wire.specs.Refusal.{refusal}
use Rattle.wire.specs.Walk.{refused, read_from}
use Rattle.wire.specs.declared.Refusal.{Refusal}
use Rattle.wire.specs.declared.View.{View}
use Rattle.walk.specs.Walk.{handed, Walks}
use Rattle.walk.specs.declared.Walked.{Walked}
use Rattle.walk.proofs.Whole.{answers, stops_all, holds}
use Rattle.models.specs.declared.Afi.{Afi}
use Rattle.per_peer_type.specs.declared.BmpPeerType.{BmpPeerType}
use Rattle.peer_up_notification.specs.Grammar.{places}
use Rattle.peer_up_notification.specs.Shown.{zero_tlv}
use Rattle.peer_up_notification.specs.Read.{kit, stop_at, front_of, opens_of, with_tlvs, with_opens, read_peer_up}
use Rattle.peer_up_notification.specs.declared.PeerUpNotificationTlv.{PeerUpNotificationTlv}
use Rattle.peer_up_notification.proofs.Laws.{takes}
use Rattle.peer_up_notification.proofs.Opens.{opens_then, opens_short}

abbrev unused : List PeerUpNotificationTlv
unused = replicate places zero_tlv

module _ (s : List ℕ) (at : ℕ) {r : Result Walked Refusal} {table : List PeerUpNotificationTlv} (h : Walks kit stop_at (length s) at s unused r table) where
  pub answer_is : (afi : Afi) (peer : BmpPeerType) (v w : View) → opens_of s ≡ Ok (v, w, at)
      → with_tlvs peer (front_of afi s v w) (handed s r table) ≡ read_peer_up afi peer s
  answer_is afi peer v w e =
      let answer = with_tlvs peer (front_of afi s v w) in
      answers kit stop_at (length s) at s unused h answer
      ∙ ap (λ (b : Bool). pick b (answer (refused (refusal Number.TooLong 0))) (answer (read_from kit (length s) at s)))
      (le-ltb Number.limit (length s) (opens_short s v w at e))
      ∙ sym (opens_then afi peer s ∙ ap (with_opens afi peer s) e)

  module _ (w : Walked) (e : r ≡ Ok w) where
    good : Walks kit stop_at (length s) at s unused (Ok w) table
    good = subst (λ (x : Result Walked Refusal). Walks kit stop_at (length s) at s unused x table) e h

    pub stop_is : w.stop ≡ w.end
    stop_is = stops_all kit takes stop_at (λ p. refl) at s unused w table good

    pub inside : w.count ≤ length table
    inside = let b = holds kit s stop_at (length s) at unused w table good in omega arith
