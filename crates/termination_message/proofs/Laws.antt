-- What the walk kit asks of a Termination body. Assumes nothing.
use mathlib.Core.Path.{◌≡◌, refl, ap, ◌∙◌, subst}
use mathlib.Core.List.{List, []}
use mathlib.Core.Logic.{inl}
use mathlib.Core.Bool.{Bool, true, false}
use Prim.Native.Nat.{ℕ, ◌+◌, ◌≤◌, ◌<◌}
use native.Mathlib.Omega.{arith}
use borrow.Author.Tests.{leb-false}
use lib.Dec.{leb, lit<}
use lib.ListN.{length, take, drop, length-drop}
use Rattle.wire.specs.Bytes.{pick, be, num_at, Bytes}
use Rattle.wire.specs.Tlv as Wire
use Rattle.wire.specs.Tlv.{put_tlv, GoodTlv, Tail, short, oversized, put_tail}
use Rattle.wire.specs.TlvAt.{tail_of}
use Rattle.wire.specs.Walk.{item}
use Rattle.wire.proofs.Bytes.{value_be, num_lt}
use Rattle.wire.proofs.Tlv.{tlv_there, tlv_join, tlv_rest, tlv_parts, tail_none, tail_join, tail_parts, coded_join, coded_length, coded_rest, coded_parts}
use Rattle.wire.proofs.Walk.{Takes, Faults, Laws, Tails}
use Rattle.termination_message.specs.Grammar.{Tlv, string, reason, put, size_of, ReadTlv, TypeKnown, ReadTail}
use Rattle.termination_message.specs.Read.{step, kit}
use Rattle.termination_message.proofs.Steps.{Begun, none, text, known, of, stopped, faulty, by_item}

pub faults : Faults kit
faults = faulty

pub takes : Takes kit
takes s = by_item s (λ t. (0 < size_of t) × (size_of t ≤ length s)) (λ b. omega (arith, b.long, b.there)) (λ b m k. omega (arith, m))

forth : (t : Tlv) (r : List ℕ) → ReadTlv t r → (step (put t r) ≡ item t) × (drop (size_of t) (put t r) ≡ r)
forth (string size value) r g =
    let s = put (string size value) r in
    let e = tlv_join _ r g.well_formed in
    let b : Begun s 0 = record { long = g.more_than_four; kind_is = ap (λ (u : Wire.Tlv). u.kind) e; there = tlv_there _ r g.well_formed } in
    (of s (text b) ∙ ap (λ (u : Wire.Tlv). item (string u.size u.value)) e, tlv_rest _ r g.well_formed)
forth (reason size code) r g =
    let s = put (reason size code) r in
    let c = coded_join 1 size code r (lit< tt) g.size_fits (omega (arith, g.code_known)) in
    let n = coded_length 1 size code r in
    let b : Begun s 1 = record { long = omega (arith, n); kind_is = c.kind_is; there = rw c.size_is (omega (arith, n, g.size_within)) } in
    (of s (known b (omega (arith, n)) (rw c.code_is g.code_known)) ∙ (λ i. item (reason (c.size_is i) (c.code_is i))), coded_rest 1 size code r)

back : (s : List ℕ) → Bytes s → (t : Tlv) → step s ≡ item t → ReadTlv t (drop (size_of t) s) × (put t (drop (size_of t) s) ≡ s)
back s p =
    by_item s (λ t. ReadTlv t (drop (size_of t) s) × (put t (drop (size_of t) s) ≡ s))
    (λ b.
    let size = num_at 2 s 2 in
    let value = take size (drop 4 s) in
    let q = subst (λ (k : ℕ). GoodTlv (record { kind = k; size = size; value = value }) × (put_tlv (record { kind = k; size = size; value = value }) (drop (4 + size) s) ≡ s))
    b.kind_is (tlv_parts s p (omega (arith, b.long)) b.there) in
    (record { well_formed = q.0; more_than_four = rw q.1 b.long }, q.1))
    (λ b m k. (
      record { size_fits = num_lt 2 2 p; size_within = simp length-drop (omega (arith, b.there, m)); code_known = k },
      subst (λ (j : ℕ). put_tlv (record { kind = j; size = num_at 2 s 2; value = be 2 (num_at 2 s 4) }) (drop 6 s) ≡ s) b.kind_is (coded_parts p (omega (arith, m))),
    ))

pub laws : Laws kit put ReadTlv
laws = record { takes = takes; forth = forth; back = back }

-- ---- tails
type_of_tail : (z : List ℕ) → (4 < length z → num_at 2 z 0 ≤ 1) → TypeKnown (tail_of z)
type_of_tail z h = go (leb (length z) 4) refl
  where
    go : (b : Bool) → leb (length z) 4 ≡ b → TypeKnown (pick b (short z) (oversized (num_at 2 z 0) (num_at 2 z 2) (drop 4 z)))
    go true e = tt
    go false e = h (leb-false (length z) 4 e)

type_in_tail : (t : Tail) → ReadTail t → 4 < length (put_tail t) → num_at 2 (put_tail t) 0 ≤ 1
unfolding be
type_in_tail (short z) g h = absurd (omega (arith, g.well_formed.0))
type_in_tail (oversized kind size z) g h =
    let kind_is : num_at 2 (put_tail (oversized kind size z)) 0 ≡ kind = value_be 2 kind g.well_formed.kind_fits in
    rw kind_is g.type-known

pub tails : Tails kit Tail put_tail ReadTail
tails =
    record {
      tail_of = tail_of;
      nil = of [] (none (inl (omega arith)) (λ h. absurd (omega arith)));
      stops = λ z p e.
          let h = stopped z e in
          let t = tail_parts z p h.0 in
          (record { well_formed = t.0; type-known = type_of_tail z h.1 }, t.1);
      ends = λ t g. (of (put_tail t) (none (tail_none t g.well_formed) (type_in_tail t g)), tail_join t g.well_formed);
    }
