use native.Mathlib.Omega.{arith}
use lib.ListN.{length}
use mathlib.Core.Path.{ap}
use Rattle.trial_hex.proofs.Laws.{has_digits}
use Rattle.trial_hex.proofs.put_part.Goals as goal

pub put_repeated-requires : goal.put_repeated-requires
put_repeated-requires c = (omega (arith, has_digits c.args.part.now c.requires.part_nonzero.0, ap length c.digits_of.ensures), omega (arith, c.requires.part_nonzero.1, c.part_length-count.ensures))
