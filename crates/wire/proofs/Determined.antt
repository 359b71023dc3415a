-- Any two answers that a contract `r ≡ definition` allows are equal: the one law behind each `determined`. Assumes nothing.
use mathlib.Core.Path.{◌≡◌, sym, ◌∙◌}

pub determined : {A : Type 0} {r q d : A} → r ≡ d → q ≡ d → r ≡ q
determined p q = p ∙ sym q
