-- A view is a place and a length in a buffer (docs/RULES.md, "Views").
use Rattle.std.specs.Prelude.{ℕ, ◌+◌, Bool, List, [], length, take, drop, leb}
use Rattle.wire.specs.Bytes.{pick}
use Rattle.wire.specs.declared.View.{View}

abbrev pub view : ℕ → ℕ → View
view p n = record { place = p; length = n }

-- the view that shows nothing
abbrev pub no_view : View
no_view = view 0 0

-- it lies inside a buffer of this length
abbrev pub inside : ℕ → View → Bool
inside room v = leb (v.place + v.length) room

-- the bytes that it shows of a buffer: none where it lies outside
abbrev pub viewed : List ℕ → View → List ℕ
viewed b v = pick (inside (length b) v) (take v.length (drop v.place b)) []
