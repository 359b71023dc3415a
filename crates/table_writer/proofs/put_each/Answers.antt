use Rattle.table_writer.proofs.Passes.{placed_turn}
use Rattle.table_writer.proofs.put_each.Goals as goal

pub loop-entry-preserved : goal.loop-entry-preserved
loop-entry-preserved g c =
    placed_turn g.met.T.Table.bodied c.loop-entry.invariant c.entry-item.result c.loop-entry-test.true c.entry-item.is c.put.ensures c.length-at.ensures.0
