use native.Mathlib.Omega.{arith}
use mathlib.Core.Path.{sym, ap, ◌∙◌}
use lib.ListN.{length, length-set}
use Rattle.std.proofs.lemmas.Result.{err_from_is_err_and}
use Rattle.std.specs.declared.result.Result.TheVariants.{Ok}
use Rattle.walk.proofs.Turns.{leaving_done, leaving_stop, leaving_bad, leaving_full, leaving_item}
use Rattle.walk.proofs.walk.Goals as goal

pub returns-in_err-stop : goal.returns-in_err-stop
returns-in_err-stop g c =
    let a = c.args in
    let k = c.loop-count in
    let p = err_from_is_err_and c.from_residual.result c.from_residual.ensures.1 in
    rw (p.1, p.2)
    (leaving_bad g.E.Entry.step g.E.Entry.size g.E.Entry.entry g.E.Entry.none (length a.table.now) g.E.Entry.stop_at a.most a.start a.s.now a.table.now (omega arith) k.count k.at k.table (k.invariant.1, k.invariant.2) (omega arith) _
    (sym c.step_at.ensures ∙ c.in_err-stop.was))

pub returns-in-Stop : goal.returns-in-Stop
returns-in-Stop g c =
    let a = c.args in
    let k = c.loop-count in
    leaving_stop g.E.Entry.step g.E.Entry.size g.E.Entry.entry g.E.Entry.none (length a.table.now) g.E.Entry.stop_at a.most a.start a.s.now a.table.now (omega arith) k.count k.at k.table (k.invariant.1, k.invariant.2) (omega arith) _
    (sym c.step_at.ensures ∙ c.in_ok-stop.was ∙ ap Ok c.in-Stop.is)

pub returns-then-table-count : goal.returns-then-table-count
returns-then-table-count g c =
    let a = c.args in
    let k = c.loop-count in
    rw c.refusal_at-then-table-count.ensures
    (leaving_full g.E.Entry.step g.E.Entry.size g.E.Entry.entry g.E.Entry.none (length a.table.now) g.E.Entry.stop_at a.most a.start a.s.now a.table.now (omega arith) k.count k.at k.table (k.invariant.1, k.invariant.2) (omega arith) _ _
    (sym c.step_at.ensures ∙ c.in_ok-stop.was ∙ ap Ok c.in-Whole.is) (omega arith))

pub loop-count-preserved : goal.loop-count-preserved
loop-count-preserved g c =
    let a = c.args in
    let k = c.loop-count in
    let next =
    leaving_item g.E.Entry.step g.E.Entry.size g.E.Entry.entry g.E.Entry.none (length a.table.now) g.E.Entry.stop_at a.most a.start a.s.now a.table.now (omega arith) k.count k.at k.table (k.invariant.1, k.invariant.2) (omega arith) _ _
    (sym c.step_at.ensures ∙ c.in_ok-stop.was ∙ ap Ok c.in-Whole.is) (omega arith) in
    (length-set k.table k.count c.in-Whole.entry ∙ k.invariant.0, next.0, next.1)

pub returns : goal.returns
returns g c =
    let a = c.args in
    let k = c.loop-count in
    leaving_done g.E.Entry.step g.E.Entry.size g.E.Entry.entry g.E.Entry.none (length a.table.now) g.E.Entry.stop_at a.most a.start a.s.now a.table.now (omega arith) k.count k.at k.table (k.invariant.1, k.invariant.2) (omega arith)
