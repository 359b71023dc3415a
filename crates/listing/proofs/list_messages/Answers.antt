use mathlib.Core.Path.{sym, ap, ◌∙◌, subst}
use mathlib.Core.Bool.{true}
use mathlib.Core.List.{List}
use Prim.Native.Nat.{ℕ}
use native.Mathlib.Omega.{arith}
use Rattle.std.specs.declared.result.Result.TheVariants.{Ok}
use Rattle.wire.specs.Bytes.{Bytes}
use Rattle.wire.proofs.Held.{slice_bytes}
use Rattle.writing.specs.Write.{WriteAnswer, Wrote}
use Rattle.writing.proofs.Answers.{wrote, put_there}
use Rattle.listing.specs.Listing.{text}
use Rattle.listing.proofs.Whole.{written_at_once}
use Rattle.listing.proofs.list_messages.Goals as goal

pub returns-then-out-ge-ENOUGH : goal.returns-then-out-ge-ENOUGH
returns-then-out-ge-ENOUGH c =
    let stream-bytes : Bytes c.args.s.now = slice_bytes c.args.s.now (λ i. omega (arith, c.type_inv.s i)) in
    written_at_once c.args.s.now c.args.out.now c.put_text.new.out c.put_text.result stream-bytes c.if-out-ge-ENOUGH.true c.put_text.ensures.value c.put_text.ensures.puts

pub returns : goal.returns
returns c =
    let s = text c.args.s.now in
    let out = c.args.out.now in
    let n = c.put_text-length.result in
    let w = wrote true s out n (λ e. sym c.put_text-length.ensures.value) c.write_answer.result c.write_answer.ensures _ c.in_ok-write_answer.was in
    let there = put_there true s out n (λ e. sym c.put_text-length.ensures.value) c.write_answer.result c.write_answer.ensures _ c.in_ok-write_answer.was c.put_text-2.new.out
    (c.put_text-2.ensures.puts (omega (arith, w.fits))) in
    subst (λ (r : WriteAnswer). Wrote true s out r c.put_text-2.new.out)
    (c.in_ok-write_answer.was ∙ ap {B = WriteAnswer} (λ (k : ℕ). Ok k) (w.length_is ∙ sym c.put_text-2.ensures.value)) there
