use Rattle.table_writer.specs.Writer.{writer_of}
use Rattle.table_writer.proofs.Passes.{MeasuredToLimit}
use Rattle.table_writer.proofs.answer.Given as goal

abbrev pub invariant-loop-i : goal.invariant-loop-i
invariant-loop-i g l =
    let t = g.T.Table in
    MeasuredToLimit (writer_of _ t.Item t.part t.put_item t.ok t.size) l.entries l.buffer_length l.front l.length l.i
