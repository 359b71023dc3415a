use mathlib.Core.Path.{sym}
use lib.Seq.{length-take-le}
use Rattle.receiver.proofs.Taking.{first_within, first_taken}
use Rattle.receiver.proofs.take_first.Goals as goal

pub slice_bounds-put_bytes-end : goal.slice_bounds-put_bytes-end
slice_bounds-put_bytes-end c =
    let p = c.requires in
    let given = c.args in
    let buffer = given.buffer.now in
    sym (length-take-le _ _ (first_within buffer p.0 given.piece.now p.1 _ c.judge-outcome.ensures _ c.first_run-run.ensures))

pub returns-clause-value : goal.returns-clause-value
returns-clause-value c =
    let both = let p = c.requires in
    first_taken _ p.0 c.args.piece.now p.1 _ c.judge-outcome.ensures _ c.first_run-run.ensures _ _ c.put_bytes.ensures c.settle.ensures in both.0

pub returns-clause-buffer_after : goal.returns-clause-buffer_after
returns-clause-buffer_after c =
    let both = let p = c.requires in
    first_taken _ p.0 c.args.piece.now p.1 _ c.judge-outcome.ensures _ c.first_run-run.ensures _ _ c.put_bytes.ensures c.settle.ensures in both.1
