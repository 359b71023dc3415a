use native.Mathlib.Omega.{arith}
use Rattle.decimal.proofs.Laws.{length_one, length_more, length_at_most, length_at_least}
use Rattle.decimal.proofs.digit_count.Goals as goal

pub returns-then-n-lt10 : goal.returns-then-n-lt10
returns-then-n-lt10 c = omega (arith, length_one c.args.n (omega (arith, c.if-n-lt10.true)))

pub returns-then-n-lt100 : goal.returns-then-n-lt100
returns-then-n-lt100 c = omega (arith, length_at_least 1 c.args.n c.if-n-lt10.false, length_at_most 1 c.args.n c.if-n-lt100.true)

pub returns-then-n-lt1000 : goal.returns-then-n-lt1000
returns-then-n-lt1000 c = omega (arith, length_at_least 2 c.args.n c.if-n-lt100.false, length_at_most 2 c.args.n c.if-n-lt1000.true)

pub returns-then-n-lt10000 : goal.returns-then-n-lt10000
returns-then-n-lt10000 c = omega (arith, length_at_least 3 c.args.n c.if-n-lt1000.false, length_at_most 3 c.args.n c.if-n-lt10000.true)

pub returns-then-n-lt100000 : goal.returns-then-n-lt100000
returns-then-n-lt100000 c = omega (arith, length_at_least 4 c.args.n c.if-n-lt10000.false, length_at_most 4 c.args.n c.if-n-lt100000.true)

pub overflow_add-count : goal.overflow_add-count
overflow_add-count c = omega (arith, c.loop-rest.invariant, length_at_most 19 c.args.n (omega (arith, c.ranges.n.fits)))

pub loop-rest-preserved : goal.loop-rest-preserved
loop-rest-preserved c = omega (arith, c.loop-rest.invariant, length_more c.loop-rest.rest (omega (arith, c.loop-rest-test.true)))

pub returns : goal.returns
returns c = omega (arith, c.loop-rest.invariant, length_one c.loop-rest.rest (omega arith))
