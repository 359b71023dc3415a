-- What a user of the writer of the Statistics body relies on. Assumes nothing.
use mathlib.Core.Path.{◌≡◌}
use mathlib.Core.Bool.{true, false}
use mathlib.Core.List.{List}
use mathlib.Core.Logic.{◌↔◌}
use Prim.Native.Nat.{ℕ, ◌≤◌, ◌<◌}
use native.Mathlib.Omega.{arith}
use lib.ListN.{length, take, get_or}
use Rattle.wire.specs.Number as Number
use Rattle.wire.specs.Bytes.{Bytes}
use Rattle.std.specs.declared.result.Result.TheVariants.{Ok}
use Rattle.writing.specs.Write.{WriteAnswer, length_of, Wrote}
use Rattle.writing.proofs.Answers.{front, wrote_determined}
use Rattle.stats_report.specs.Grammar.{places}
use Rattle.stats_report.specs.Shown.{zero_counter}
use Rattle.stats_report_writer.specs.Write.{reading_of, bytes_of, writable}
use Rattle.stats_report_writer.specs.Unwritable.{Unwritable, Typed}
use Rattle.stats_report.specs.declared.StatsReport.{StatsReport}
use Rattle.stats_report_writer.proofs.Written.{writes_of}
use Rattle.stats_report_writer.proofs.Trip.{parts_count, good_of, ReadsBack, reads_back}
use Rattle.stats_report_writer.proofs.Converse.{Inside, bytes_written, writable_from}
use Rattle.stats_report_writer.proofs.Unwritable.{listed}
use Rattle.stats_report.proofs.Promises.{sound, complete, views}

-- What the writer has written, where the record is writable and there is room, is read back as the same record.
pub round_trip : (m : StatsReport) (b out out' : List ℕ) (a : WriteAnswer) → Bytes b → length m.counters ≡ places
    → Wrote (writable m (length b)) (bytes_of m b) out a out'
    → writable m (length b) ≡ true → length (bytes_of m b) ≤ Number.limit → length (bytes_of m b) ≤ length out
    → (a ≡ Ok (length (bytes_of m b))) × ReadsBack m b (take (length_of a) out')
round_trip m b out out' a p long wrote w short room =
    let x = writes_of m (length b) w in
    let g = good_of m b p long x in
    let a = complete (reading_of m b) g (omega (arith, parts_count m b long x.few, x.few)) short in
    front (ReadsBack m b) wrote w short room (reads_back m b long x a (views (reading_of m b) g))

-- A record whose views lie inside the buffer, and whose bytes are read back as itself, is writable.
pub only_writable : (m : StatsReport) (b : List ℕ) → Bytes b → length m.counters ≡ places
    → ((i : ℕ) → i < m.count → Inside b (get_or m.counters i zero_counter))
    → ReadsBack m b (bytes_of m b) → writable m (length b) ≡ true
only_writable m b p long inside r =
    let q = sound (bytes_of m b) (bytes_written m b p) r.read_good in
    writable_from m b long inside q.0 q.1 (views q.0 q.1.reading.is_good) r

-- A record whose fields are of their types is not writable exactly where an item of the list holds of it.
pub unwritable : (m : StatsReport) (room : ℕ) → Typed m → (writable m room ≡ false) ↔ Unwritable m room
unwritable = listed

-- ---- any two answers, and any two outputs, that the contract allows are equal
pub write_determined : (m : StatsReport) (b out : List ℕ) (r q : WriteAnswer) (o p : List ℕ)
    → Wrote (writable m (length b)) (bytes_of m b) out r o → Wrote (writable m (length b)) (bytes_of m b) out q p → (r ≡ q) × (o ≡ p)
write_determined m b out r q o p = wrote_determined
