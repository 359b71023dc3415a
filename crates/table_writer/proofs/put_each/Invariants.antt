use Rattle.table_writer.specs.Writer.{writer_of}
use Rattle.table_writer.proofs.Passes.{Placed}
use Rattle.table_writer.proofs.put_each.Given as goal

abbrev pub invariant-loop-entry : goal.invariant-loop-entry
invariant-loop-entry g l =
    let t = g.T.Table in
    Placed (writer_of _ t.Item t.part t.put_item t.ok t.size) l.entries l.buffer l.initial.out l.from l.out l.at l.entry-index
