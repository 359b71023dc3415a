-- That an array of a million bytes has as many is proved by a law: computed, it would be counted one by one.
use Rattle.std.proofs.Common.{ℕ, sym}
use Rattle.std.proofs.lemmas.List.{length-replicate}
use Rattle.receive.proofs.main.Goals as goal

pub slice_bounds-answer_lines-end-3 : goal.slice_bounds-answer_lines-end-3
slice_bounds-answer_lines-end-3 c = sym (length-replicate {A = ℕ} 1048577 0)
