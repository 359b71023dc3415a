use Rattle.std.proofs.Common.{arith}
use lib.Seq.{length-take-le}
use Rattle.trial_hex.proofs.Laws.{place_within}
use Rattle.trial_line.proofs.word_of.Goals as goal

pub slice_bounds-result-end : goal.slice_bounds-result-end
slice_bounds-result-end c =
    let within = place_within 32 c.args.cell.now in
    omega (arith, length-take-le c.place_of.result c.args.cell.now (omega arith))
