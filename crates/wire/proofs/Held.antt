-- What a slice and an array of u8 hold are bytes: from what their types say of each element to what the theorems ask of a list. Assumes nothing.
use Prim.Native.Nat.{ℕ, suc, ◌<◌}
use mathlib.Core.List.{List, [], ◌∷◌}
use denote.Array.{each}
use denote.Builtin.{u8}
use denote.Shadow.{shadow}
use lib.ListN.{get_or}
use mir.Val.{Val}
use Rattle.wire.specs.Bytes.{Bytes, none, more}

-- a `&[u8]`: at every place where a function lends one or reads from it, each of its elements is known to be below 256
pub slice_bytes : (l : List ℕ) → ((i : ℕ) → get_or l i 0 < 256) → Bytes l
slice_bytes [] h = none
slice_bytes (b ∷ l) h = more (h 0) (slice_bytes l (λ i. h (suc i)))

-- a `[u8; n]`, by value: each of its elements has its value in the machine
pub array_bytes : (octets : List ℕ) (values : List Val) → shadow (each u8.Denot u8.own_val octets values) → Bytes octets
array_bytes [] [] s = none
array_bytes [] (v ∷ vs) s = none
array_bytes (b ∷ l) [] s = absurd s
array_bytes (b ∷ l) (v ∷ vs) s = more s.0.1 (array_bytes l vs s.1)
