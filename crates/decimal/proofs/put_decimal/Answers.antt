use mathlib.Core.Path.{refl, sym, ◌∙◌}
use Prim.Native.Nat.{◌/◌}
use native.Mathlib.Omega.{arith}
use lib.ListN.{length-set}
use Rattle.writing.proofs.Sets.{put_fits}
use Rattle.decimal.specs.Decimal.{decimal}
use Rattle.decimal.proofs.Laws.{length_some, length_more, put_last, put_first}
use Rattle.decimal.proofs.put_decimal.Goals as goal

pub overflow_sub-last : goal.overflow_sub-last
overflow_sub-last c = omega (arith, c.digit_count-count.ensures, length_some c.args.n)

pub loop-rest-init : goal.loop-rest-init
loop-rest-init c =
    let some = length_some c.args.n in
    (omega (arith, c.digit_count-count.ensures, some), (omega (arith, c.left.ensures, c.digit_count-count.ensures, c.if-left-count.false, some), (refl, refl)))

pub overflow_sub-last-in-loop-rest : goal.overflow_sub-last-in-loop-rest
overflow_sub-last-in-loop-rest c = omega (arith, c.loop-rest.invariant.0, length_more c.loop-rest.rest c.loop-rest-test.true, length_some (c.loop-rest.rest / 10))

pub loop-rest-preserved : goal.loop-rest-preserved
loop-rest-preserved c =
    let k = c.loop-rest in
    let more = length_more k.rest c.loop-rest-test.true in
    let some = length_some (k.rest / 10) in (
      omega (arith, k.invariant.0, more, some),
      (
        omega (arith, k.invariant.0, k.invariant.1.0, more, some),
        (length-set k.out k.last _ ∙ k.invariant.1.1.0, put_last k.out c.args.at k.last k.rest c.loop-rest-test.true k.invariant.0 ∙ k.invariant.1.1.1),
      ),
    )

pub returns-clause-out_after : goal.returns-clause-out_after
returns-clause-out_after c =
    put_first c.loop-rest.out c.args.at c.loop-rest.last c.loop-rest.rest (omega (arith, c.loop-rest-test.false)) c.loop-rest.invariant.0 ∙ c.loop-rest.invariant.1.1.1
    ∙ sym (put_fits c.args.out.now c.args.at (decimal c.args.n) (omega (arith, c.left.ensures, c.digit_count-count.ensures, c.if-left-count.false)))
