-- What the walk kit asks of an Initiation body. Assumes nothing.
use mathlib.Core.Path.{◌≡◌, ap, ◌∙◌, subst}
use mathlib.Core.List.{[]}
use mathlib.Core.Logic.{inl}
use Prim.Native.Nat.{◌≤◌, ◌<◌}
use native.Mathlib.Omega.{arith}
use lib.ListN.{length, drop}
use Rattle.wire.specs.Tlv.{Tlv, put_tlv, size_of, Tail, put_tail, GoodTail}
use Rattle.wire.specs.TlvAt.{tlv_of, tail_of}
use Rattle.wire.specs.Walk.{item}
use Rattle.wire.proofs.Tlv.{tlv_there, tlv_join, tlv_rest, tlv_parts, tail_none, tail_join, tail_parts}
use Rattle.wire.proofs.Walk.{Takes, Faults, Laws, Tails}
use Rattle.initiation_message.specs.Grammar.{ReadTlv}
use Rattle.initiation_message.specs.Read.{kit}
use Rattle.initiation_message.proofs.Steps.{none, whole, see, of, found, stopped, no_fault}

pub faults : Faults kit
faults s r e = absurd (no_fault s r (see s) e)

pub takes : Takes kit
takes s t e =
    let f = found s t (see s) e in
    subst (λ (u : Tlv). (0 < size_of u) × (size_of u ≤ length s)) f.is (omega (arith, f.long, f.there))

pub laws : Laws kit put_tlv ReadTlv
laws =
    record {
      takes = takes;
      forth = λ t r g. (
        of (put_tlv t r) (whole g.more_than_four (tlv_there t r g.well_formed)) ∙ ap item (tlv_join t r g.well_formed),
        tlv_rest t r g.well_formed,
      );
      back = λ s p t e.
          let f = found s t (see s) e in
          let b = tlv_parts s p (omega (arith, f.long)) f.there in
          let m : 4 < length (put_tlv (tlv_of s) (drop (size_of (tlv_of s)) s)) = rw b.1 f.long in
          subst (λ (u : Tlv). ReadTlv u (drop (size_of u) s) × (put_tlv u (drop (size_of u) s) ≡ s)) f.is
          (record { well_formed = b.0; more_than_four = m }, b.1);
    }

pub tails : Tails kit Tail put_tail GoodTail
tails =
    record {
      tail_of = tail_of;
      nil = of [] (none (inl (omega arith)));
      stops = λ z p e. tail_parts z p (stopped z (see z) e);
      ends = λ t g. (of (put_tail t) (none (tail_none t g)), tail_join t g);
    }
