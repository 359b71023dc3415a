use mathlib.Core.Path.{◌≡◌}
use Prim.Native.Nat.{◌-◌}
use lib.ListN.{length}
use Rattle.wire.specs.Walk.{Kit, resume}
use Rattle.walk.specs.Walk.{kit_of}
use Rattle.walk.proofs.Turns.{held}
use Rattle.walk.proofs.lent.walk.Given as goal

abbrev pub invariant-loop-count : goal.invariant-loop-count
invariant-loop-count g l =
    let K : Kit = kit_of g.E.Entry.Item _ g.E.Entry.step g.E.Entry.size g.E.Entry.entry g.E.Entry.NONE (length l.fn.table) in
    (length l.table ≡ length l.fn.table)
    × (resume K l.most 0 l.start l.fn.table l.s ≡ resume K (l.most - l.count) l.count l.at l.table l.s)
    × (held K l.most 0 l.start l.fn.table l.s ≡ held K (l.most - l.count) l.count l.at l.table l.s)
