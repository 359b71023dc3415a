-- A good reading that fits is told by the answer that shows it. Assumes nothing.
use Prim.Native.Nat.{ℕ, ◌-◌}
use mathlib.Core.Path.{◌≡◌, refl, ap}
use mathlib.Core.List.{List}
use native.Mathlib.Omega.{arith}
use lib.ListN.{length, drop, replicate}
use Rattle.wire.specs.View.{viewed}
use Rattle.wire.specs.Tlv.{put_tail}
use Rattle.wire.specs.Exactly.{Told}
use Rattle.wire.proofs.Tlv.{tail_join}
use Rattle.wire.proofs.Walk.{each_at, items_told, tail_behind, end_within}
use Rattle.termination_message.specs.Grammar.{Tlv, string, reason, put, size_of, ReadTlv, join, places}
use Rattle.termination_message.specs.Shown.{entry, zero_tlv}
use Rattle.termination_message.specs.Told.{told_tlv}
use Rattle.termination_message.specs.Read.{kit, reader}
use Rattle.termination_message.proofs.Laws.{laws}
use Rattle.termination_message.proofs.Shows.{value_at}

tlv_told : (s : List ℕ) (at : ℕ) (t : Tlv) (r : List ℕ) → ReadTlv t r → drop at s ≡ put t r → told_tlv (viewed s) (entry at t) ≡ t
tlv_told s at (string size value) r g e = ap (string size) (value_at s at (string size value) r g e)
tlv_told s at (reason size code) r g e = ap (reason size) (value_at s at (reason size code) r g e)

pub told_back : Told reader
told_back r g f =
    let s = join r in
    let each = each_at kit laws (λ at t. told_tlv (viewed s) (entry at t) ≡ t) s (tlv_told s) r.tlvs (put_tail r.tail) 0 g.each refl in
    let tlvs-are = items_told size_of entry (told_tlv (viewed s)) r.tlvs 0 (replicate (places - length r.tlvs) zero_tlv) each in
    let tail-is = tail_join r.tail g.tail_good.well_formed in
    record {
      told_so = λ i. record { tlvs = tlvs-are i; tail = tail-is i };
      tail_so = tail_behind kit laws s r.tlvs (put_tail r.tail) 0 g.each refl;
      tail_within = end_within kit laws s r.tlvs (put_tail r.tail) 0 g.each refl (omega arith);
    }
