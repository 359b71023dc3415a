use Rattle.wire.proofs.Flags.{flag_set, flag_clear}
use Rattle.per_peer_type.proofs.PerPeerFlags.asn_length.Goals as goal

pub returns-then-self-ne0 : goal.returns-then-self-ne0
returns-then-self-ne0 c = rw (flag_set 5 c.args.self.0 c.if-self-ne0.true)

pub returns-else-self-ne0 : goal.returns-else-self-ne0
returns-else-self-ne0 c = rw (flag_clear 5 c.args.self.0 c.if-self-ne0.false)
