-- What the walk kit asks of a Route Mirroring body. Assumes nothing.
use mathlib.Core.Path.{◌≡◌, refl, ap, ◌∙◌, subst}
use mathlib.Core.List.{List, [], ◌++◌}
use Prim.Native.Nat.{ℕ, ◌≤◌, ◌<◌}
use native.Mathlib.Omega.{arith}
use lib.Dec.{lit<}
use lib.ListN.{length, drop}
use Rattle.wire.specs.Bytes.{be, Bytes, num_at}
use Rattle.wire.specs.Tlv.{put_tlv, GoodTlv}
use Rattle.wire.specs.Tlv as Wire
use Rattle.wire.specs.TlvAt.{tlv_of}
use Rattle.wire.specs.Walk.{stop, item}
use Rattle.wire.proofs.Bytes.{num_lt}
use Rattle.wire.proofs.Tlv.{tlv_length, tlv_there, tlv_join, tlv_rest, tlv_parts, coded_join, coded_parts}
use Rattle.wire.proofs.Walk.{Takes, Faults, Laws, Tails}
use Rattle.route_mirroring.specs.Grammar.{Tlv, bgp_message, information, put, GoodInformation, ReadTlv, GoodTail, size_of}
use Rattle.route_mirroring.specs.Read.{message_of, step, kit}
use Rattle.route_mirroring.proofs.Steps.{see, none_of, whole_message, whole_info, Found, found_message, found_info, found, stopped, numbered}

pub faults : Faults kit
faults s r e = numbered s r (see s) e

taken : (s : List ℕ) (t : Tlv) → Found s t → (0 < size_of t) × (size_of t ≤ length s)
taken s _ (found_message m) = omega (arith, m.long, m.there)
taken s _ (found_info i) = omega (arith, i.there)

pub takes : Takes kit
takes s t e = taken s t (found s t (see s) e)

forth_information : (size code : ℕ) (r : List ℕ) → GoodInformation size code
    → (step (put (information size code) r) ≡ item (information size code)) × (drop 6 (put (information size code) r) ≡ r)
unfolding be
forth_information size code r g =
    let j = coded_join 1 size code r (lit< tt) g.size_fits (omega (arith, g.known)) in (
      whole_info (put (information size code) r) (record { kind_is = j.kind_is; there = omega arith; known = omega (arith, j.code_is, g.known) })
          ∙ (λ i. item (information (j.size_is i) (j.code_is i))),
      refl,
    )

forth : (t : Tlv) (r : List ℕ) → ReadTlv t r → (step (put t r) ≡ item t) × (drop (size_of t) (put t r) ≡ r)
forth (bgp_message size value) r g =
    let t : Wire.Tlv = record { kind = 0; size = size; value = value } in
    let w = g.well_formed in
    let j = tlv_join t r w in
    let n = ap (λ (u : Wire.Tlv). u.size) j in
    let whole = whole_message (put_tlv t r) (record {
      long = omega (arith, tlv_length t r w, g.has-header);
      kind_is = ap (λ (u : Wire.Tlv). u.kind) j;
      has-header = omega (arith, n, g.has-header);
      there = tlv_there t r w;
    }) in
    (whole ∙ ap (λ (u : Wire.Tlv). item (bgp_message u.size u.value)) j, tlv_rest t r w)
forth (information size code) r g = forth_information size code r g

back : (s : List ℕ) → Bytes s → (t : Tlv) → Found s t → ReadTlv t (drop (size_of t) s) × (put t (drop (size_of t) s) ≡ s)
back s p _ (found_message m) =
    let r = drop (size_of (message_of s)) s in
    let b = subst (λ (k : ℕ).
    GoodTlv (record { kind = k; size = (tlv_of s).size; value = (tlv_of s).value })
    × (put_tlv (record { kind = k; size = (tlv_of s).size; value = (tlv_of s).value }) r ≡ s)) m.kind_is
    (tlv_parts s p (omega (arith, m.long)) m.there) in
    (record { well_formed = b.0; has-header = m.has-header }, b.1)
back s p _ (found_info i) = (
  record { size_fits = num_lt 2 2 p; known = i.known },
  subst (λ (k : ℕ). be 2 k ++ (be 2 (num_at 2 s 2) ++ (be 2 (num_at 2 s 4) ++ drop 6 s)) ≡ s) i.kind_is (coded_parts p (omega (arith, i.there))),
)

pub laws : Laws kit put ReadTlv
laws = record { takes = takes; forth = forth; back = λ s p t e. back s p t (found s t (see s) e) }

nil : step [] ≡ stop
nil = none_of [] (omega arith)

pub tails : Tails kit (List ℕ) (λ z. z) GoodTail
tails =
    record {
      tail_of = λ z. z;
      nil = nil;
      stops = λ z p e. ((stopped z (see z) e, p), refl);
      ends = λ z g. (none_of z g.0, refl);
    }
