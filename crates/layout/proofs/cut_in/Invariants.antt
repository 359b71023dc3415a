use mathlib.Core.Path.{◌≡◌}
use Prim.Native.Nat.{◌-◌, ◌≤◌}
use lib.ListN.{drop}
use Rattle.layout.specs.Layout.{cut_in}
use Rattle.layout.proofs.cut_in.Given as goal

abbrev pub invariant-loop-width : goal.invariant-loop-width
invariant-loop-width l =
    (l.at ≤ l.place) × (l.place - l.at ≤ l.there - l.at) × (cut_in l.widths l.at l.there ≡ cut_in (drop l.width-index l.widths) l.place l.there)
