-- A good reading is told by the answer that shows it. Assumes nothing.
use Prim.Native.Nat.{ℕ, ◌+◌, ◌≤◌}
use mathlib.Core.Path.{◌≡◌, refl, sym, ap, ◌∙◌}
use mathlib.Core.List.{◌++◌}
use lib.ListN.{length, take, drop, length-append}
use lib.Seq.{take_at, drop_at, drop-drop, take-add}
use native.Mathlib.Omega.{arith}
use Rattle.wire.specs.Bytes.{be}
use Rattle.wire.specs.View.{view, viewed}
use Rattle.wire.specs.Exactly.{Told}
use Rattle.wire.proofs.Views.{viewed_inside}
use Rattle.common_header.specs.Fields.{fields_of}
use Rattle.common_header.proofs.Laws.{length_join}
use Rattle.splitter.specs.Grammar.{header_of, join}
use Rattle.splitter.specs.Read.{reader}
use Rattle.splitter.proofs.Laws.{hands_out}

pub told_back : Told reader
unfolding be
told_back r g f =
    let s = join r in
    let n = length r.body in
    let out = hands_out (fields_of (header_of r)) (view 0 r.length) in
    let there : r.length ≤ length s = omega (arith, length_join (header_of r), g.length_is, length-append r.body r.rest) in
    let message-is : viewed s (view 0 r.length) ≡ take 6 s ++ take n (drop 6 s) =
    viewed_inside s (view 0 r.length) (omega (arith, there)) ∙ ap (λ (k : ℕ). take k s) g.length_is ∙ take-add 6 n s in
    let body_is : drop 6 (viewed s (view 0 r.length)) ≡ r.body = ap (drop 6) message-is ∙ take_at r.body r.rest n refl in
    let end : 0 + r.length ≡ 6 + n = omega (arith, g.length_is) in
    record {
      told_so = rw (out.fields_are, out.view_is) (λ i. record { version = r.version; length = r.length; kind = r.kind; body = body_is i; rest = r.rest });
      tail_so = rw out.view_is (ap (λ (k : ℕ). drop k s) end ∙ sym (drop-drop n 6 s) ∙ drop_at r.body r.rest n refl);
      tail_within = rw out.view_is (omega (arith, there));
    }
