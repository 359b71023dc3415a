-- What the walk kit asks of the TLVs of a Peer Up. Assumes nothing.
use mathlib.Core.Path.{◌≡◌, refl, ap, ◌∙◌, subst}
use mathlib.Core.List.{List, []}
use Prim.Native.Nat.{ℕ, ◌≤◌, ◌<◌}
use native.Mathlib.Omega.{arith}
use lib.ListN.{length, drop}
use Rattle.wire.specs.Bytes.{Bytes}
use Rattle.wire.specs.Tlv.{Tlv, put_tlv, size_of}
use Rattle.wire.specs.Walk.{stop, item}
use Rattle.wire.proofs.Tlv.{tlv_length, tlv_there, tlv_join, tlv_rest, tlv_parts}
use Rattle.wire.proofs.Walk.{Takes, Faults, Laws, Tails}
use Rattle.peer_up_notification.specs.Grammar.{ReadTlv, GoodTail}
use Rattle.peer_up_notification.specs.Read.{step, kit}
use Rattle.peer_up_notification.proofs.Steps.{see, none_of, whole_of, Found, found, stopped, numbered}

pub faults : Faults kit
faults s r e = numbered s r (see s) e

pub takes : Takes kit
takes s t e =
    let f = found s t (see s) e in
    subst (λ (u : Tlv). (0 < size_of u) × (size_of u ≤ length s)) f.is (omega arith, omega (arith, f.long, f.there))

back : (s : List ℕ) → Bytes s → (t : Tlv) → Found s t → ReadTlv t (drop (size_of t) s) × (put_tlv t (drop (size_of t) s) ≡ s)
back s p t f =
    subst (λ (u : Tlv). ReadTlv u (drop (size_of u) s) × (put_tlv u (drop (size_of u) s) ≡ s)) f.is (tlv_parts s p f.long f.there)

pub laws : Laws kit put_tlv ReadTlv
laws =
    record {
      takes = takes;
      forth = λ t r g.
          (whole_of (put_tlv t r) (omega (arith, tlv_length t r g)) (tlv_there t r g) ∙ ap item (tlv_join t r g), tlv_rest t r g);
      back = λ s p t e. back s p t (found s t (see s) e);
    }

nil : step [] ≡ stop
nil = none_of [] (omega arith)

pub tails : Tails kit (List ℕ) (λ z. z) GoodTail
tails =
    record {
      tail_of = λ z. z;
      nil = nil;
      stops = λ z p e. ((stopped z (see z) e, p), refl);
      ends = λ z g. (none_of z g.0, refl);
    }
