use Rattle.wire.proofs.Flags.{masked}
use Rattle.per_peer_type.proofs.PerPeerFlags.is_adj_rib_out.Goals as goal

pub returns : goal.returns
returns c = masked 4 c.args.self.0
