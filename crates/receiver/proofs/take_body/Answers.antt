use native.Mathlib.Omega.{arith}
use lib.Seq.{length-take-le}
use Rattle.receiver.proofs.Taking.{still_waits, all_fit, body_ends}
use Rattle.receiver.proofs.take_body.Goals as goal

pub returns-then-there-missing-clause-value : goal.returns-then-there-missing-clause-value
returns-then-there-missing-clause-value c =
    let both = let p = c.requires in
    still_waits _ _ _ p.held c.args.rest.now p.le_held.0 c.if-there-missing.true _ _ _ c.put_bytes.ensures c.settle.ensures in both.0

pub returns-then-there-missing-clause-buffer_after : goal.returns-then-there-missing-clause-buffer_after
returns-then-there-missing-clause-buffer_after c =
    let both = let p = c.requires in
    still_waits _ _ _ p.held c.args.rest.now p.le_held.0 c.if-there-missing.true _ _ _ c.put_bytes.ensures c.settle.ensures in both.1

pub put_run-outcome-requires : goal.put_run-outcome-requires
put_run-outcome-requires c =
    let p = c.requires in
    let rest = c.args.rest.now in
    let many = length-take-le c.args.missing rest c.if-there-missing.false in
    let fits = all_fit _ _ _ p.held rest p.le_held.0 c.if-there-missing.false in
    (p.held.size, omega (arith, many, fits))

pub returns-clause-value : goal.returns-clause-value
returns-clause-value c =
    let both = let p = c.requires in
    let put = c.put_run-outcome.ensures in
    body_ends _ _ _ p.held c.args.rest.now p.le_held.0 c.if-there-missing.false _ _ _ _ put.value put.buffer_after c.settle-2.ensures in both.0
