-- The table of kept counters, as a loop fills it. Assumes nothing.
use mathlib.Core.Path.{◌≡◌, refl, sym, ap, ◌∙◌}
use Prim.Native.Nat.{ℕ, suc, ◌+◌, ◌-◌, ◌<◌}
use mathlib.Core.List.{List, [], ◌∷◌, ◌++◌, map}
use native.Mathlib.Numerals.{add-one}
use native.Mathlib.Omega.{arith}
use lib.ListN.{length, replicate, take, get_or, set, length-map}
use lib.Seq.{take-suc, set_at, length-take-le}
use Rattle.stats_report.specs.Grammar.{places}
use Rattle.stats_report.specs.declared.StatCounter.{StatCounter}
use Rattle.kept_report.specs.Kept.{kept_counter, no_counter, table}
use Rattle.kept_report.specs.declared.KeptCounter.{KeptCounter}

-- one more at the end
snoc : (l : List StatCounter) (c : StatCounter) (e : List KeptCounter) → map kept_counter (l ++ (c ∷ [])) ++ e ≡ map kept_counter l ++ (kept_counter c ∷ e)
snoc [] c e = refl
snoc (x ∷ l) c e = ap (λ (r : List KeptCounter). kept_counter x ∷ r) (snoc l c e)

length_snoc : (l : List StatCounter) (c : StatCounter) → length (l ++ (c ∷ [])) ≡ suc (length l)
length_snoc [] c = refl
length_snoc (x ∷ l) c = ap suc (length_snoc l c)

more : (l : List StatCounter) (c : StatCounter) → length l < places → set (table l) (length l) (kept_counter c) ≡ table (l ++ (c ∷ []))
unfolding table
more l c h =
    let room : places - length l ≡ suc (places - length (l ++ (c ∷ []))) = let z = length_snoc l c in omega arith in
    ap (λ (n : ℕ). set (map kept_counter l ++ replicate n no_counter) (length l) (kept_counter c)) room
    ∙ set_at (map kept_counter l) no_counter (replicate (places - length (l ++ (c ∷ []))) no_counter) (kept_counter c) (length l) (length-map l kept_counter)
    ∙ sym (snoc l c (replicate (places - length (l ++ (c ∷ []))) no_counter))

pub turn : (t : List StatCounter) (i : ℕ) (d : StatCounter) → i < length t → i < places → set (table (take i t)) i (kept_counter (get_or t i d)) ≡ table (take (i + 1) t)
turn t i d h room =
    let l : length (take i t) ≡ i = length-take-le i t (omega arith) in
    let m = more (take i t) (get_or t i d) (omega arith) in
    ap (λ (n : ℕ). set (table (take i t)) n (kept_counter (get_or t i d))) (sym l) ∙ m ∙ rw (add-one, take-suc t i d h)

pub begins : (t : List StatCounter) → table (take 0 t) ≡ replicate places no_counter
unfolding table
begins t = refl
