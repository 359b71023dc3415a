use Rattle.wire.proofs.Flags.{masked}
use Rattle.per_peer_type.proofs.PerPeerFlags.is_post_policy.Goals as goal

pub returns : goal.returns
returns c = masked 6 c.args.self.0
