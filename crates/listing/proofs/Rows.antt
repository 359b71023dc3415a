-- What stands at a place of a stream, and the lines from there on. Assumes nothing.
use mathlib.Core.Path.{◌≡◌, refl, subst}
use mathlib.Core.Bool.{Bool, true, false}
use mathlib.Core.List.{List, [], ◌∷◌, ◌++◌}
use Prim.Native.Nat.{ℕ, zero, suc, ◌+◌, ◌-◌, ◌≤◌, ◌<◌}
use native.Mathlib.Omega.{arith}
use borrow.Author.Tests.{eqb-true, eq-eqb, ne_eqb}
use lib.Dec.{eqb}
use lib.ListN.{length, drop}
use lib.Seq.{drop-drop}
use Rattle.std.specs.declared.result.Result.TheVariants.{Ok, Err}
use Rattle.wire.specs.Bytes.{pick, num_at, Bytes}
use Rattle.wire.specs.View.{viewed}
use Rattle.wire.specs.Walk.{Step, stop, bad, item, walk, next}
use Rattle.wire.specs.declared.Refusal.{Refusal}
use Rattle.wire.proofs.Bytes.{num_lt}
use Rattle.wire.proofs.Refuses.{numbers_below}
use Rattle.common_header.proofs.Promises.{kind_known}
use Rattle.splitter.specs.Shown.{SplitAnswer, refusal_of, ByItsType}
use Rattle.splitter.specs.Read as SplitterRead
use Rattle.splitter.specs.Read.{split_of}
use Rattle.splitter.specs.declared.Split.{Split}
use Rattle.splitter.proofs.Promises as Splitter
use Rattle.decimal.proofs.Promises.{at_most}
use Rattle.message_answer.proofs.Promises.{answer_small}
use Rattle.listing.specs.Text.{answer_text, message_line, refused_line, end_line}
use Rattle.splitter.specs.Stream.{Message, known, skipped, fields_of, length_of, as_step}
use Rattle.splitter.proofs.Stream.{Stands, known_stands, skipped_stands}
use Rattle.listing.specs.Listing.{number_of, answer, step, kit, lines}
use Rattle.listing.specs.Steps.{lines_from, row_of, RowAnswer, row_in, row_at}

-- ---- the cases of a step
pub data Seen (s : List ℕ) : Step Message → Type 0 where
  none : length s ≡ 0 → Seen s stop
  refused : (r : Refusal) → split_of s ≡ Err r → Seen s (bad r)
  message : (m : Message) → Stands s m → Seen s (item m)

pub see : (s : List ℕ) → Seen s (step s)
see s = go (eqb (length s) 0) refl (split_of s) refl
  where
    go : (b : Bool) → eqb (length s) 0 ≡ b → (x : SplitAnswer) → split_of s ≡ x → Seen s (pick b stop (as_step s x))
    go true e x q = none (eqb-true (length s) 0 e)
    go false e (Err r) q = refused r q
    go false e (Ok (Split.Message h v)) q = message (known h (viewed s v)) (known_stands s v h q)
    go false e (Ok (Split.Skipped f v)) q = message (skipped f (viewed s v)) (skipped_stands s v f q)

-- ---- what stands at the front of some bytes, as a row
data Rowed (s : List ℕ) : RowAnswer → Type 0 where
  no_row : (r : Refusal) → split_of s ≡ Err r → Rowed s (Err r)
  row : (m : Message) → Stands s m → Rowed s (Ok (row_of m))

rowed : (s : List ℕ) → Rowed s (row_at s)
rowed s = go (split_of s) refl
  where
    go : (x : SplitAnswer) → split_of s ≡ x → Rowed s (row_in s x)
    go (Err r) q = no_row r q
    go (Ok (Split.Message h v)) q = row (known h (viewed s v)) (known_stands s v h q)
    go (Ok (Split.Skipped f v)) q = row (skipped f (viewed s v)) (skipped_stands s v f q)

-- what it tells of these bytes
abbrev pub Tells : List ℕ → RowAnswer → Type 0
Tells s (Err r) = r.number ≤ 10
Tells s (Ok w) = (6 ≤ w.msg_len) × (w.msg_len ≤ length s)

tells_of : (s : List ℕ) {x : RowAnswer} → Rowed s x → Tells s x
tells_of s (no_row r e) = let h = numbers_below SplitterRead.reader Splitter.refuses 11 refl s in subst (λ (x : SplitAnswer). (refusal_of x).number ≤ 10) e (omega (arith, h))
tells_of s (row m x) = (x.fits.least, x.fits.all_there)

pub row_tells : (s : List ℕ) → Tells s (row_at s)
row_tells s = tells_of s (rowed s)

-- and how short its type and its answer are
abbrev pub Short : RowAnswer → Type 0
Short (Err r) = Unit {0}
Short (Ok w) = (w.kind < 256) × (length (answer_text w.answer) ≤ 4)

kind_fits : (s : List ℕ) → Bytes s → (m : Message) → Stands s m → (fields_of m).kind < 256
kind_fits s p (known h b) x = let k = kind_known h.msg_type in omega (arith, k)
kind_fits s p (skipped f b) x =
    let k = subst (ByItsType (num_at 1 s 5)) x.split_so (Splitter.by_its_type s) in
    let byte = num_lt 1 5 p in
    omega (arith, k.1, byte)

answer_fits : (m : Message) → length (answer_text (answer m)) ≤ 4
answer_fits (known h b) =
    let small = answer_small h.msg_type (drop 6 b) in
    let digits = at_most 2 (number_of h b) (omega (arith, small)) in
    omega (arith, digits)
answer_fits (skipped f b) = omega arith

short_of : (s : List ℕ) → Bytes s → {x : RowAnswer} → Rowed s x → Short x
short_of s p (no_row r e) = tt
short_of s p (row m x) = (kind_fits s p m x, answer_fits m)

pub row_short : (s : List ℕ) → Bytes s → Short (row_at s)
row_short s p = short_of s p (rowed s)

-- ---- the lines from a place on, by the row that stands there
abbrev pub by_row : ℕ → ℕ → List ℕ → RowAnswer → List ℕ
by_row f at s (Err r) = refused_line at r.number ++ end_line at
by_row f at s (Ok w) = message_line at w.kind w.msg_len w.answer ++ lines_from f (at + w.msg_len) s

-- where no byte is left
pub lines_at_end : (f at : ℕ) (s : List ℕ) → length (drop at s) ≡ 0 → lines_from f at s ≡ end_line at
unfolding walk
lines_at_end zero at s e = refl
lines_at_end (suc f) at s e = rw (eq-eqb (length (drop at s)) 0 e)

-- and where some are, and as many turns
pub lines_by_row : (f at : ℕ) (s : List ℕ) → 0 < length (drop at s) → length (drop at s) ≤ f → lines_from f at s ≡ by_row (f - 1) at s (row_at (drop at s))
unfolding walk
lines_by_row zero at s some h = absurd (omega arith)
lines_by_row (suc f) at s some h =
    let e : suc f - 1 ≡ f = omega arith in
    rw (e, ne_eqb (length (drop at s)) 0 (λ q. omega arith)) (go (split_of (drop at s)))
  where
    go : (x : SplitAnswer) → lines at (next (as_step (drop at s) x) (drop at s) (λ m. walk kit f (drop (length_of m) (drop at s)))).items
        (next (as_step (drop at s) x) (drop at s) (λ m. walk kit f (drop (length_of m) (drop at s)))).end ≡ by_row f at s (row_in (drop at s) x)
    go (Err r) = refl
    go (Ok (Split.Message h v)) = rw (drop-drop h.msg_len at s)
    go (Ok (Split.Skipped m v)) = rw (drop-drop m.msg_len at s)
