-- What a user of the Statistics body relies on. Assumes nothing.
use mathlib.Core.Path.{◌≡◌, refl, sym, ap, ◌∙◌}
use mathlib.Core.Bool.{Bool, true, false}
use mathlib.Core.List.{List, [], ◌∷◌}
use mathlib.Core.Logic.{◌⊎◌}
use Prim.Native.Nat.{ℕ, ◌-◌, ◌≤◌, ◌<◌}
use native.Mathlib.Omega.{arith}
use borrow.Author.Tests.{ltb-false, leb-true}
use lib.Dec.{ltb}
use lib.ListN.{length, take}
use Rattle.wire.specs.Number as Number
use Rattle.wire.specs.Bytes.{be, has, num_at, Bytes}
use Rattle.wire.specs.Parts.{AllAt, end_from}
use Rattle.wire.specs.Walk.{Out, good, refused, read_from}
use Rattle.wire.proofs.Bytes.{num_lt, num_back}
use Rattle.wire.proofs.Determined.{determined}
use Rattle.wire.proofs.Walk.{read_fault, counted_sound, counted_complete, counted_unique, each_at, counted_too_many}
use Rattle.wire.specs.Refuses.{Refuses}
use Rattle.wire.specs.Waits.{Waits, MissingTells}
use Rattle.wire.specs.Exactly.{Shows, Sound, Complete, Told, Unique}
use Rattle.wire.specs.Refusal.{refusal}
use Rattle.wire.specs.Lacking.{FirstLacking, CutAfter}
use Rattle.stats_type.specs.Shown.{type_of}
use Rattle.stats_type.specs.declared.StatType.{StatType}
use Rattle.stats_data.specs.declared.StatsData.{StatsData}
use Rattle.stats_report.specs.Grammar.{Reading, join, Good, size_of, grammar, places, put_stat, GoodStat}
use Rattle.stats_report.specs.Read.{kit, read_stats, reader, widths_in, answer}
use Rattle.stats_report.specs.declared.StatCounter.{StatCounter}
use Rattle.stats_report.specs.Shown.{ReadStats, data_in, refused_answer, refusal_of}
use Rattle.stats_report.proofs.Laws.{faults, never, laws, behind, counted}
use Rattle.stats_report.proofs.Shows.{shows_of, count_of, ViewAt, view_at}
use Rattle.stats_report.proofs.Told as ToldProofs
use Rattle.stats_report.proofs.Refusals as Refusals
use Rattle.stats_report.proofs.Waits as Waiting
use Rattle.stats_report.proofs.Cuts as Cuts
use Rattle.cursor.specs.Read.{cursor}

-- What the reader accepts has a good reading that fits, and it shows that reading.
pub sound : Sound reader
sound s p e = go (ltb Number.limit (length s)) refl (has 4 s 0) refl (read_from kit (num_at 4 s 0) 4 s) refl e
  where
    go : (b : Bool) → ltb Number.limit (length s) ≡ b → (d : Bool) → has 4 s 0 ≡ d → (o : Out StatCounter) → read_from kit (num_at 4 s 0) 4 s ≡ o
        → (refusal_of (read_stats s)).number ≡ Number.Good → (r : Reading) × Shows reader s r
    go true h d j o k e = let q : ◌≡◌ {A = ℕ} 1 0 = (rw h at e) in absurd (omega arith)
    go false h false j o k e = let q : ◌≡◌ {A = ℕ} 2 0 = (rw (h, j) at e) in absurd (omega arith)
    go false h true j (refused r) k e =
        let f = read_fault kit faults (num_at 4 s 0) 4 s r k in
        let x : r.number ≡ 0 = (rw (h, j, k) at e) in
        absurd (omega arith)
    go false h true j (good n at table z) k e =
        let long = leb-true 4 (length s - 0) j in
        let a = counted_sound kit laws never (num_at 4 s 0) 4 s p n at table z k in
        let c = a.1 in (
          record { count = num_at 4 s 0; stats = a.0; tail = z },
          record {
            reading =
                record {
                  is_good = record { count_fits = num_lt 4 0 p; count_is = sym c.as_many; each = c.each; tail_bytes = c.tail_bytes };
                  fits = c.few;
                  joined = rw c.joined (num_back 4 0 p long);
                };
            shown_so = shows_of s (ltb-false Number.limit (length s) h) (num_at 4 s 0) a.0 z (record { left = long; number = refl; next = refl }) c;
          },
        )

-- Every good reading that fits is accepted, and shown.
pub complete : Complete reader
unfolding be
complete r g f short =
    shows_of (join r) short r.count r.stats r.tail (count_of r g)
    (counted_complete kit laws r.count 4 (join r) r.stats r.tail g.each (sym g.count_is) g.tail_bytes refl f)

-- Every good reading that fits is told by the answer that shows it, and the tail.
pub told_back : Told reader
told_back = ToldProofs.told_back

-- A refusal shows nothing but itself, and has one of the reader's numbers; each of these is given for some input.
pub refuses : Refuses reader
refuses = Refusals.refuses

-- Who waits for as many bytes as a Cut says are missing waits neither too long nor in vain.
pub waits : Waits reader
waits = Waiting.waits

-- Bytes are missing exactly where the refusal is a Cut.
pub missing_tells : MissingTells reader
missing_tells = Waiting.missing_tells

-- A good reading of more records than the table holds is refused with TooMany, at the first that has no room.
pub too_many : (r : Reading) → Good r → length (join r) ≤ Number.limit → places < length r.stats
    → read_stats (join r) ≡ refused_answer (refusal Number.TooMany (end_from size_of 4 (take places r.stats)))
unfolding be
too_many r g h many =
    counted (join r) h r.count (cursor 4) (count_of r g)
    ∙ ap (answer r.count) (counted_too_many kit laws r.count 4 (join r) r.stats r.tail g.each (sym g.count_is) refl many)

-- No input has two readings, whatever the table holds.
pub unique : Unique grammar
unique r q g h e =
    let n : r.count ≡ q.count = (count_of r g).number ∙ ap (λ (s : List ℕ). num_at 4 s 0) e ∙ sym (count_of q h).number in
    let u = counted_unique kit laws r.stats q.stats r.tail q.tail g.each h.each (sym g.count_is ∙ n ∙ h.count_is)
    (behind r.count q.count _ _ e) in
    λ i. record { count = n i; stats = u.0 i; tail = u.1 i }

-- The data of each counter, in the answer that shows a good reading, says its value: the view of a raw one shows its bytes.
pub views : (r : Reading) → Good r → AllAt size_of (ViewAt (join r)) 4 r.stats
unfolding be
views r g = each_at kit laws (ViewAt (join r)) (join r) (view_at (join r)) r.stats r.tail 4 g.each refl

-- A Cut is at the first part that is not whole, with as many missing as it lacks: the count, or a part of a record behind records that are.
pub refuses_cut : (s : List ℕ) → Bytes s → (refusal_of (read_stats s)).number ≡ Number.Cut
    → FirstLacking (4 ∷ []) 0 (length s) (refusal_of (read_stats s)) ⊎ CutAfter put_stat GoodStat size_of widths_in 4 s (refusal_of (read_stats s))
refuses_cut = Cuts.refuses_cut

-- ---- any two answers that the contracts allow are equal
-- Two names that stat_type may tell of the same counter are equal.
pub stat_type_determined : (c : StatCounter) (r q : StatType) → r ≡ type_of c.kind → q ≡ type_of c.kind → r ≡ q
stat_type_determined c r q = determined

-- Two data that stat_data may tell of the same counter are equal.
pub stat_data_determined : (c : StatCounter) (r q : StatsData) → r ≡ data_in c → q ≡ data_in c → r ≡ q
stat_data_determined c r q = determined

-- Two answers of the reader to the same bytes are equal.
pub parse_determined : (s : List ℕ) (a b : ReadStats) → a ≡ read_stats s → b ≡ read_stats s → a ≡ b
parse_determined s a b = determined
