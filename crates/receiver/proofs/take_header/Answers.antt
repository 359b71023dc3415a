use mathlib.Core.Path.{sym, ◌∙◌}
use Rattle.receiver.proofs.Taking.{waits_for, decided, head_ended, head_on}
use Rattle.receiver.proofs.take_header.Goals as goal

pub returns-in_default-clause-value : goal.returns-in_default-clause-value
returns-in_default-clause-value c =
    let both = let p = c.requires in
    let put = c.put_run-outcome.ensures in
    let ended = decided c.put_run-outcome.result (sym c.missing_in.ensures ∙ c.in_default.is) in
    head_ended _ _ _ p.held c.args.piece.now p.held_nonzero.0 p.held_nonzero.1.0 p.held_nonzero.1.1 _ c.min-run.ensures _ _ put.value put.buffer_after ended _ c.settle.ensures in both.0

pub returns-clause-value : goal.returns-clause-value
returns-clause-value c =
    let both = let p = c.requires in
    let put = c.put_run-outcome.ensures in
    let waits = waits_for c.put_run-outcome.result (sym c.missing_in.ensures ∙ c.in-Some.is) in
    let body = c.take_body.ensures in
    head_on _ _ _ p.held c.args.piece.now p.held_nonzero.0 p.held_nonzero.1.0 p.held_nonzero.1.1 _ c.min-run.ensures _ _ put.value put.buffer_after _ waits _ _ body.value body.buffer_after in both.0

pub returns-clause-buffer_after : goal.returns-clause-buffer_after
returns-clause-buffer_after c =
    let both = let p = c.requires in
    let put = c.put_run-outcome.ensures in
    let waits = waits_for c.put_run-outcome.result (sym c.missing_in.ensures ∙ c.in-Some.is) in
    let body = c.take_body.ensures in
    head_on _ _ _ p.held c.args.piece.now p.held_nonzero.0 p.held_nonzero.1.0 p.held_nonzero.1.1 _ c.min-run.ensures _ _ put.value put.buffer_after _ waits _ _ body.value body.buffer_after in both.1
