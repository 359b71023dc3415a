-- What the steps of the code are held to: the lines from a place on, the row that stands there, and a text that is put.
use Rattle.std.specs.Prelude.{ℕ, ◌+◌, ◌≤◌, ◌≡◌, List, length, drop, Result, Ok, Err}
use Rattle.std.proofs.lemmas.List.Edits.{sets}
use Rattle.wire.specs.View.{viewed}
use Rattle.wire.specs.Walk.{walk}
use Rattle.wire.specs.declared.Refusal.{Refusal}
use Rattle.splitter.specs.Read.{split_of}
use Rattle.splitter.specs.Shown.{SplitAnswer}
use Rattle.splitter.specs.Stream.{Message, known, skipped, fields_of, length_of}
use Rattle.splitter.specs.declared.Split.{Split}
use Rattle.listing.specs.Listing.{answer, kit, lines}
use Rattle.listing.specs.declared.Row.{Row}

-- at most f messages from a place on
abbrev pub lines_from : ℕ → ℕ → List ℕ → List ℕ
lines_from f at s = lines at (walk kit f (drop at s)).items (walk kit f (drop at s)).end

-- the row of the message in front of some bytes, or why none is split off
abbrev pub row_of : Message → Row
row_of m = record { kind = (fields_of m).kind; msg_len = length_of m; answer = answer m }

abbrev pub RowAnswer : Type 0
RowAnswer = Result Row Refusal

abbrev pub row_in : List ℕ → SplitAnswer → RowAnswer
row_in s (Ok (Split.Message h v)) = Ok (row_of (known h (viewed s v)))
row_in s (Ok (Split.Skipped f v)) = Ok (row_of (skipped f (viewed s v)))
row_in s (Err r) = Err r

abbrev pub row_at : List ℕ → RowAnswer
row_at s = row_in s (split_of s)

-- where there is room for a text, it stands at its place afterwards
abbrev pub Puts : List ℕ → ℕ → List ℕ → List ℕ → Type 0
Puts out at l out' = at + length l ≤ length out → out' ≡ sets out at l
