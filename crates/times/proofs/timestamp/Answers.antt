use mathlib.Core.Path.{refl}
use lib.Ieee.{of_int, of_bits}
use Rattle.times.proofs.timestamp.Goals as goal

pub returns : goal.returns
unfolding of_int of_bits
returns c = refl
