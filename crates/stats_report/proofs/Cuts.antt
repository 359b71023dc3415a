-- A Cut is at the first part that is not whole. Assumes nothing.
use mathlib.Core.Path.{◌≡◌, refl, sym, ap, ◌∙◌, subst}
use mathlib.Core.Bool.{Bool, true, false}
use mathlib.Core.List.{List, [], ◌∷◌}
use mathlib.Core.Logic.{◌⊎◌, inl, inr}
use Prim.Native.Nat.{ℕ, ◌-◌}
use native.Mathlib.Omega.{arith}
use borrow.Author.Tests.{leb-true, leb-false, ltb-true, ltb-false}
use lib.Dec.{ltb}
use lib.ListN.{length}
use Rattle.wire.specs.Number as Number
use Rattle.wire.specs.Bytes.{pick, has, num_at, Bytes}
use Rattle.wire.specs.Refusal.{cut_at}
use Rattle.wire.specs.Lacking.{FirstLacking, CutAfter}
use Rattle.wire.specs.Walk.{read_from}
use Rattle.wire.specs.declared.Refusal.{Refusal}
use Rattle.wire.proofs.Cuts.{CutsIn, cuts_in, pick_by, type_lacks, length_lacks, value_lacks, one_lacks, walk_cut, picked_other}
use Rattle.stats_report.specs.Grammar.{put_stat, size_of, GoodStat}
use Rattle.stats_report.specs.Shown.{ReadStats, refused_answer, refusal_of}
use Rattle.stats_report.specs.Read.{step, widths_in, kit, answer, read_stats}
use Rattle.stats_report.proofs.Laws.{laws}

cuts : (s : List ℕ) → CutsIn (widths_in s) (length s) (step s)
unfolding step
cuts s =
    let P = CutsIn (widths_in s) (length s) in
    let size = num_at 2 s 2 in
    pick_by P (ltb (length s) 2) (λ h e. type_lacks size (length s) (ltb-true (length s) 2 h)) (λ two.
    pick_by P (ltb (length s) 4) (λ h e. length_lacks size (length s) (ltb-false (length s) 2 two) (ltb-true (length s) 4 h)) (λ four.
    pick_by P (ltb (length s - 4) size)
    (λ h e. value_lacks size (length s) (ltb-false (length s) 4 four) (ltb-true (length s - 4) size h))
    (λ h. tt)))

-- the count is cut, or a record
abbrev CutIn : List ℕ → Refusal → Type 0
CutIn s r = FirstLacking (4 ∷ []) 0 (length s) r ⊎ CutAfter put_stat GoodStat size_of widths_in 4 s r

pub refuses_cut : (s : List ℕ) → Bytes s → (refusal_of (read_stats s)).number ≡ Number.Cut
    → FirstLacking (4 ∷ []) 0 (length s) (refusal_of (read_stats s)) ⊎ CutAfter put_stat GoodStat size_of widths_in 4 s (refusal_of (read_stats s))
refuses_cut s p e =
    let walked = picked_other (λ (a : ReadStats). (refusal_of a).number) (ltb Number.limit (length s)) Number.Cut (λ q. omega arith) e in
    subst (λ (a : ReadStats). CutIn s (refusal_of a)) (sym walked)
    (go (has 4 s 0) refl (ap (λ (a : ReadStats). (refusal_of a).number) (sym walked) ∙ e))
  where
    total : ℕ
    total = num_at 4 s 0

    go : (b : Bool) → has 4 s 0 ≡ b → (refusal_of (pick b (answer total (read_from kit total 4 s)) (refused_answer (cut_at (length s) 0 4)))).number ≡ Number.Cut
        → CutIn s (refusal_of (pick b (answer total (read_from kit total 4 s)) (refused_answer (cut_at (length s) 0 4))))
    go true h c =
        let long = leb-true 4 (length s - 0) h in
        inr (walk_cut kit laws widths_in (λ z. cuts_in (widths_in z) (length z) (step z) (cuts z)) refusal_of (answer total)
        (λ n at table z. refl) (λ r. refl) total 4 s p (omega arith) c)
    go false h c = inl (one_lacks 0 4 (length s) (omega arith) (leb-false 4 (length s - 0) h))
