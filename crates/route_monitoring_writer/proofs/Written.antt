-- What `view_writable` asks of a view, both ways. Assumes nothing.
use mathlib.Core.Path.{◌≡◌}
use mathlib.Core.Bool.{true}
use Prim.Native.Nat.{ℕ, ◌+◌, ◌≤◌}
use borrow.Author.Tests.{leb-true, le-leb}
use lib.Dec.{leb}
use Rattle.wire.specs.View.{inside}
use Rattle.wire.specs.declared.View.{View}
use Rattle.writing.proofs.Tests.{both}
use Rattle.route_monitoring_writer.specs.Write.{view_writable}

pub record Fine (v : View) (room : ℕ) : Type 0 where
  pub has-header : 19 ≤ v.length
  pub within : v.place + v.length ≤ room

pub fine_of : (v : View) (room : ℕ) → view_writable v room ≡ true → Fine v room
fine_of v room e =
    let h = both (leb 19 v.length) (inside room v) e in
    record { has-header = leb-true 19 v.length h.0; within = leb-true (v.place + v.length) room h.1 }

pub fine_from : (v : View) (room : ℕ) → Fine v room → view_writable v room ≡ true
fine_from v room f = rw (le-leb 19 v.length f.has-header) (le-leb (v.place + v.length) room f.within)
