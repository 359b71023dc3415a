-- What a user of the writer of the Termination body relies on. Assumes nothing.
use mathlib.Core.Path.{◌≡◌, ◌∙◌}
use mathlib.Core.Bool.{true, false}
use mathlib.Core.List.{List}
use mathlib.Core.Logic.{◌↔◌}
use Prim.Native.Nat.{ℕ, ◌≤◌, ◌<◌}
use native.Mathlib.Omega.{arith}
use lib.ListN.{length-take, length, take, get_or}
use Rattle.wire.specs.Number as Number
use Rattle.wire.specs.Bytes.{Bytes}
use Rattle.std.specs.declared.result.Result.TheVariants.{Ok}
use Rattle.writing.specs.Write.{WriteAnswer, length_of, Wrote}
use Rattle.writing.proofs.Answers.{front, wrote_determined}
use Rattle.writing.proofs.Table.{length_parts, kept_of}
use Rattle.tlv_table.proofs.Table.{all-bytes}
use Rattle.termination_message.specs.Grammar.{places}
use Rattle.termination_message.specs.Shown.{zero_tlv}
use Rattle.termination_message_writer.specs.Write.{writer, kept, reading_of, bytes_of, writable}
use Rattle.termination_message_writer.specs.Unwritable.{Unwritable, Typed}
use Rattle.termination_message.specs.declared.TerminationMessage.{TerminationMessage}
use Rattle.termination_message_writer.specs.Entries.{entries}
use Rattle.termination_message_writer.proofs.Trip.{good_of, ReadsBack, reads_back}
use Rattle.termination_message_writer.proofs.Converse.{Inside, ReasonTwo, writable_from}
use Rattle.termination_message_writer.proofs.Unwritable.{listed}
use Rattle.termination_message.proofs.Promises.{sound, complete, views}

-- What the writer has written, where the record is writable and there is room, is read back as the same record.
pub round_trip : (m : TerminationMessage) (b out out' : List ℕ) (a : WriteAnswer) → Bytes b → length m.tlvs ≡ places
    → Wrote (writable m (length b)) (bytes_of m b) out a out'
    → writable m (length b) ≡ true → length (bytes_of m b) ≤ Number.limit → length (bytes_of m b) ≤ length out
    → (a ≡ Ok (length (bytes_of m b))) × ReadsBack m b (take (length_of a) out')
round_trip m b out out' a p long wrote w short room =
    let x = kept_of writer places m.count m.tlvs (length b) w in
    let g = good_of m b p x.fine in
    let n = length_parts writer b (kept m) ∙ length-take m.count m.tlvs in
    let a = complete (reading_of m b) g (omega (arith, n, x.few)) short in
    front (ReadsBack m b) wrote w short room (reads_back m b long x a (views (reading_of m b) g))

-- A record whose views lie inside the buffer, whose Reasons have length 2, and whose bytes are read back as itself, is writable.
pub only_writable : (m : TerminationMessage) (b : List ℕ) → Bytes b → length m.tlvs ≡ places
    → ((i : ℕ) → i < m.count → Inside b (get_or m.tlvs i zero_tlv)) → ((i : ℕ) → i < m.count → ReasonTwo (get_or m.tlvs i zero_tlv))
    → ReadsBack m b (bytes_of m b) → writable m (length b) ≡ true
only_writable m b p long inside two r =
    let q = sound (bytes_of m b) (all-bytes entries b p (kept m)) r.read_good in
    writable_from m b long inside two q.0 q.1 (views q.0 q.1.reading.is_good) r

-- A record whose fields are of their types is not writable exactly where an item of the list holds of it.
pub unwritable : (m : TerminationMessage) (room : ℕ) → Typed m → (writable m room ≡ false) ↔ Unwritable m room
unwritable = listed

-- Two answers of the writer to the same record, buffer and output are equal, and so are the outputs that it leaves.
pub write_determined : (m : TerminationMessage) (b out : List ℕ) (r q : WriteAnswer) (o p : List ℕ)
    → Wrote (writable m (length b)) (bytes_of m b) out r o → Wrote (writable m (length b)) (bytes_of m b) out q p → (r ≡ q) × (o ≡ p)
write_determined m b out r q o p = wrote_determined
