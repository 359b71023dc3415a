use mathlib.Core.Path.{sym}
use Rattle.wire.proofs.Flags.{flag_set, flag_clear}
use Rattle.openbmp.proofs.family.Goals as goal

pub returns-then-flags-ne0 : goal.returns-then-flags-ne0
returns-then-flags-ne0 c = sym (rw (flag_set 6 c.args.flags c.if-flags-ne0.true))

pub returns-else-flags-ne0 : goal.returns-else-flags-ne0
returns-else-flags-ne0 c = sym (rw (flag_clear 6 c.args.flags c.if-flags-ne0.false))
