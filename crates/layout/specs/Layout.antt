-- A run of fields of fixed widths, one after the other.
use Rattle.std.specs.Prelude.{ℕ, ◌+◌, ◌-◌, List, [], ◌∷◌, leb}
use Rattle.wire.specs.Bytes.{pick}
use Rattle.wire.specs.Refusal.{no_refusal, cut_at}
use Rattle.wire.specs.declared.Refusal.{Refusal}

-- The Cut of the first field that does not lie whole in n bytes, where the first of them starts at a place; no refusal, where each of
-- them does.
abbrev pub cut_in : List ℕ → ℕ → ℕ → Refusal
cut_in [] at n = no_refusal
cut_in (w ∷ ws) at n = pick (leb w (n - at)) (cut_in ws (at + w) n) (cut_at n at w)
