use borrow.Author.Tests.{ne_eqb}
use mathlib.Core.Path.{◌∙◌}
use Rattle.per_peer_header.proofs.Warned.{halves_zero}
use Rattle.per_peer_header.proofs.is_zero_filled.Goals as goal

pub returns-else-read_at-eq0 : goal.returns-else-read_at-eq0
returns-else-read_at-eq0 c =
    let high = c.read_at.ensures in
    rw high (rw (← halves_zero c.args.s.now c.requires, ne_eqb _ 0 (λ e. c.if-read_at-eq0.false (high ∙ e))))
