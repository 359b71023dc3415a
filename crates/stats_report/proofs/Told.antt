-- A good reading that fits is told by the answer that shows it. Assumes nothing.
use Prim.Native.Nat.{ℕ, ◌-◌}
use mathlib.Core.Path.{◌≡◌, refl}
use mathlib.Core.List.{List}
use native.Mathlib.Omega.{arith}
use lib.ListN.{length, drop, replicate}
use Rattle.wire.specs.Bytes.{be}
use Rattle.wire.specs.View.{viewed}
use Rattle.wire.specs.Exactly.{Told}
use Rattle.wire.proofs.Walk.{each_at, items_told, tail_behind, end_within}
use Rattle.stats_report.specs.Grammar.{Stat, put_stat, GoodStat, join, size_of, places}
use Rattle.stats_report.specs.Shown.{entry, zero_counter}
use Rattle.stats_report.specs.Told.{told_stat}
use Rattle.stats_report.specs.Read.{kit, reader}
use Rattle.stats_report.proofs.Laws.{laws}
use Rattle.stats_report.proofs.Shows.{view_at}

stat_told : (s : List ℕ) (at : ℕ) (t : Stat) (r : List ℕ) → GoodStat t r → drop at s ≡ put_stat t r → told_stat (viewed s) (entry at t) ≡ t
stat_told s at t r g e =
    let value-is = view_at s at t r g e in
    λ i. record { kind = t.kind; size = t.size; value = value-is i }

pub told_back : Told reader
unfolding be
told_back r g f =
    let s = join r in
    let each = each_at kit laws (λ at t. told_stat (viewed s) (entry at t) ≡ t) s (stat_told s) r.stats r.tail 4 g.each refl in
    let stats-are = items_told size_of entry (told_stat (viewed s)) r.stats 4 (replicate (places - length r.stats) zero_counter) each in
    record {
      told_so = λ i. record { count = r.count; stats = stats-are i; tail = r.tail };
      tail_so = tail_behind kit laws s r.stats r.tail 4 g.each refl;
      tail_within = end_within kit laws s r.stats r.tail 4 g.each refl (omega arith);
    }
