-- A good reading that fits is told by the answer that shows it. Assumes nothing.
use Prim.Native.Nat.{ℕ, ◌-◌}
use mathlib.Core.Path.{◌≡◌, refl, ap}
use mathlib.Core.List.{List}
use native.Mathlib.Omega.{arith}
use lib.ListN.{length, drop, replicate}
use Rattle.wire.specs.View.{viewed}
use Rattle.wire.specs.Exactly.{Told}
use Rattle.wire.proofs.Walk.{each_at, items_told, tail_behind, end_within}
use Rattle.route_mirroring.specs.Grammar.{Tlv, bgp_message, information, put, ReadTlv, join, size_of, places}
use Rattle.route_mirroring.specs.Shown.{entry, zero_tlv}
use Rattle.route_mirroring.specs.Told.{told_tlv}
use Rattle.route_mirroring.specs.Read.{kit, reader}
use Rattle.route_mirroring.proofs.Laws.{laws}
use Rattle.route_mirroring.proofs.Shows.{view_at}

tlv_told : (s : List ℕ) (at : ℕ) (t : Tlv) (r : List ℕ) → ReadTlv t r → drop at s ≡ put t r → told_tlv (viewed s) (entry at t) ≡ t
tlv_told s at (bgp_message size value) r g e = ap (bgp_message size) (view_at s at (bgp_message size value) r g e)
tlv_told s at (information size code) r g e = ap (information size) (view_at s at (information size code) r g e)

pub told_back : Told reader
told_back r g f =
    let s = join r in
    let each = each_at kit laws (λ at t. told_tlv (viewed s) (entry at t) ≡ t) s (tlv_told s) r.tlvs r.tail 0 g.each refl in
    let tlvs-are = items_told size_of entry (told_tlv (viewed s)) r.tlvs 0 (replicate (places - length r.tlvs) zero_tlv) each in
    record {
      told_so = λ i. record { tlvs = tlvs-are i; tail = r.tail };
      tail_so = tail_behind kit laws s r.tlvs r.tail 0 g.each refl;
      tail_within = end_within kit laws s r.tlvs r.tail 0 g.each refl (omega arith);
    }
