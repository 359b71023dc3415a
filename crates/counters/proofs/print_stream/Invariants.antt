-- Each message leaves less of the stream.
use Rattle.std.proofs.Common.{length}
use Rattle.counters.proofs.print_stream.Given as goal

abbrev pub decreases-loop-split : goal.decreases-loop-split
decreases-loop-split g l = length l.rest
