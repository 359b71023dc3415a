use native.Mathlib.Omega.{arith}
use mathlib.Core.Path.{sym, ap, ◌∙◌}
use lib.ListN.{length, length-set}
use Rattle.std.proofs.lemmas.Result.{err_from_is_err_and}
use Rattle.std.specs.declared.result.Result.TheVariants.{Ok}
use Rattle.walk.proofs.LentTurns.{on_done, on_stop, on_bad, on_full, on_item}
use Rattle.walk.proofs.lent.walk.Goals as goal

pub returns-in_err-stop : goal.returns-in_err-stop
returns-in_err-stop g c =
    let a = c.args in
    let k = c.loop-count in
    let p = err_from_is_err_and c.from_residual.result c.from_residual.ensures.1 in
    rw (p.1, p.2)
    (on_bad g.E.Entry.step g.E.Entry.size g.E.Entry.entry g.E.Entry.NONE (length a.table.now) g.E.Entry.stop_at a.most a.start a.s.now a.table.now (omega arith) k.count k.at k.table (k.invariant.1, k.invariant.2) (omega arith) _ _ _
    (sym c.step_at.ensures ∙ ap (λ r. (r, c.step_at.new.slot)) c.in_err-stop.was))

pub returns-in-Stop : goal.returns-in-Stop
returns-in-Stop g c =
    let a = c.args in
    let k = c.loop-count in
    on_stop g.E.Entry.step g.E.Entry.size g.E.Entry.entry g.E.Entry.NONE (length a.table.now) g.E.Entry.stop_at a.most a.start a.s.now a.table.now (omega arith) k.count k.at k.table (k.invariant.1, k.invariant.2) (omega arith) _ _ _
    (sym c.step_at.ensures ∙ ap (λ r. (r, c.step_at.new.slot)) (c.in_ok-stop.was ∙ ap Ok c.in-Stop.is))

pub returns-then-table-count : goal.returns-then-table-count
returns-then-table-count g c =
    let a = c.args in
    let k = c.loop-count in
    rw c.refusal_at-then-table-count.ensures
    (on_full g.E.Entry.step g.E.Entry.size g.E.Entry.entry g.E.Entry.NONE (length a.table.now) g.E.Entry.stop_at a.most a.start a.s.now a.table.now (omega arith) k.count k.at k.table (k.invariant.1, k.invariant.2) (omega arith) _ _ _
    (sym c.step_at.ensures ∙ ap (λ r. (r, c.step_at.new.slot)) (c.in_ok-stop.was ∙ ap Ok c.in-Whole.is)) (omega arith))

pub loop-count-preserved : goal.loop-count-preserved
loop-count-preserved g c =
    let a = c.args in
    let k = c.loop-count in
    let next =
    on_item g.E.Entry.step g.E.Entry.size g.E.Entry.entry g.E.Entry.NONE (length a.table.now) g.E.Entry.stop_at a.most a.start a.s.now a.table.now (omega arith) k.count k.at k.table (k.invariant.1, k.invariant.2) (omega arith) _ _ _
    (sym c.step_at.ensures ∙ ap (λ r. (r, c.step_at.new.slot)) (c.in_ok-stop.was ∙ ap Ok c.in-Whole.is)) (omega arith) in
    (length-set k.table k.count c.step_at.new.slot ∙ k.invariant.0, next.0, next.1)

pub returns : goal.returns
returns g c =
    let a = c.args in
    let k = c.loop-count in
    on_done g.E.Entry.step g.E.Entry.size g.E.Entry.entry g.E.Entry.NONE (length a.table.now) g.E.Entry.stop_at a.most a.start a.s.now a.table.now (omega arith) k.count k.at k.table (k.invariant.1, k.invariant.2) (omega arith)
