-- What the reader shows: a good reading, with views that show its raw values. Assumes nothing.
use mathlib.Core.Path.{◌≡◌, refl, sym, ap, ◌∙◌}
use mathlib.Core.List.{List}
use Prim.Native.Nat.{ℕ, ◌≤◌}
use native.Mathlib.Omega.{arith}
use lib.ListN.{length, drop}
use Rattle.wire.specs.Number as Number
use Rattle.wire.specs.Bytes.{be, num_at}
use Rattle.cursor.specs.Read.{cursor}
use Rattle.wire.proofs.Bytes.{value_be}
use Rattle.cursor.proofs.Reading.{Was}
use Rattle.wire.proofs.Tlv.{tlv_viewed}
use Rattle.wire.proofs.Walk as Walk
use Rattle.stats_data.specs.Shown.{value_in}
use Rattle.stats_data.proofs.Values.{data_shown, value_seen}
use Rattle.stats_report.specs.Grammar.{Stat, as_tlv, put_stat, GoodStat, Reading, join, Good}
use Rattle.stats_report.specs.Shown.{entry, data_in, shown}
use Rattle.stats_report.specs.Read.{kit, answer, read_stats}
use Rattle.stats_report.proofs.Laws.{laws, counted}

-- total records, and z behind them, after a count of total
pub shows_of : (s : List ℕ) → length s ≤ Number.limit → (total : ℕ) (l : List Stat) (z : List ℕ) → Was 4 s 0 total (cursor 4) → Walk.Counts kit laws total 4 s l z
    → read_stats s ≡ shown (record { count = total; stats = l; tail = z })
shows_of s h total l z w a = counted s h total (cursor 4) w ∙ ap (answer total) a.shown_so

-- the count in front of the records of a good reading
pub count_of : (r : Reading) → Good r → Was 4 (join r) 0 r.count (cursor 4)
unfolding be
count_of r g =
    let number_is : num_at 4 (join r) 0 ≡ r.count = value_be 4 r.count g.count_fits in
    record { left = omega arith; number = sym number_is; next = refl }

-- what the data of the entry that shows a record at a place says is its value
abbrev pub ViewAt : List ℕ → ℕ → Stat → Type 0
ViewAt s at t = value_in s (data_in (entry at t)) ≡ t.value

pub view_at : (s : List ℕ) (at : ℕ) (t : Stat) (r : List ℕ) → GoodStat t r → drop at s ≡ put_stat t r → ViewAt s at t
view_at s at t r g e =
    ap (value_in s) (data_shown _ t.size t.value g.value_good g.well_formed.size_is)
    ∙ value_seen s _ t.size t.value (tlv_viewed (as_tlv t) r g.well_formed s at e)
