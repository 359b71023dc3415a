use Rattle.std.proofs.Common.{sym, arith}
use Rattle.writing.proofs.Sets.{put_nothing}
use Rattle.trial_forms.specs.Text.{hex}
use Rattle.trial_forms.proofs.Laws.{after_fits, after_nothing, length_hex, hex_done}
use Rattle.trial_forms.proofs.put_hex.Goals as goal

pub returns-then-left-bytes-clause-value : goal.returns-then-left-bytes-clause-value
returns-then-left-bytes-clause-value c =
    let n = length_hex c.args.bytes.now in
    sym (after_nothing c.args.out.now c.args.at (hex c.args.bytes.now) (omega arith))

pub returns-then-left-bytes-clause-out_after : goal.returns-then-left-bytes-clause-out_after
returns-then-left-bytes-clause-out_after c =
    let n = length_hex c.args.bytes.now in
    sym (put_nothing c.args.out.now c.args.at (hex c.args.bytes.now) (omega arith))

pub returns-clause-value : goal.returns-clause-value
returns-clause-value c =
    let n = length_hex c.args.bytes.now in
    omega (arith, after_fits c.args.out.now c.args.at (hex c.args.bytes.now) (omega arith))

pub returns-clause-out_after : goal.returns-clause-out_after
returns-clause-out_after c =
    let n = length_hex c.args.bytes.now in
    hex_done c.args.out.now c.loop-i.out c.args.bytes.now c.args.at _ c.loop-i.i (omega arith) (omega arith) c.loop-i.invariant
