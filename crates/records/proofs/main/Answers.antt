-- That an array of a million bytes has as many is proved by a law: computed, it would be counted one by one.
use Rattle.std.proofs.Common.{ℕ, sym}
use Rattle.std.proofs.lemmas.List.{length-replicate}
use Rattle.records.proofs.main.Goals as goal

pub slice_bounds-try_lines-end-3 : goal.slice_bounds-try_lines-end-3
slice_bounds-try_lines-end-3 c = sym (length-replicate {A = ℕ} 1048577 0)

pub slice_bounds-try_lines-end-4 : goal.slice_bounds-try_lines-end-4
slice_bounds-try_lines-end-4 c = sym (length-replicate {A = ℕ} 1048577 0)
