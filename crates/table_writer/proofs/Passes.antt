-- The loops over a table, for every kind of table: it is judged and measured, or judged and held against the room, and then put. Assumes nothing.
use mathlib.Core.Path.{◌≡◌, refl, sym, ap, ap₂, ◌∙◌, subst}
use mathlib.Core.Bool.{Bool, true, false}
use mathlib.Core.List.{List, ◌∷◌}
use Prim.Native.Nat.{ℕ, suc, ◌+◌, ◌*◌, ◌≤◌, ◌<◌, min}
use native.Mathlib.Omega.{arith}
use native.Mathlib.Numerals.{add-one}
use borrow.Author.Tests.{ltb-true, ltb-false}
use lib.Dec.{ltb}
use lib.ListN.{length, drop, get_or}
use lib.Seq.{sets, length-sets, drop-cons}
use Rattle.wire.specs.Number as Number
use Rattle.writing.specs.Write.{put_at, write_answer}
use Rattle.writing.specs.Table.{Writer, joined, all_ok, sizes, Bodied}
use Rattle.writing.proofs.Sets.{sets_append, put_fits}
use Rattle.writing.proofs.Table.{ok_head}

-- a sum as far as it tells the answer: past the limit, by how much is all the same
abbrev told : ℕ → ℕ
told n = min n (Number.limit + 1)

pub same_answer : (m n room : ℕ) → told m ≡ told n → write_answer true m room ≡ write_answer true n room
same_answer m n room e = go (ltb Number.limit m) refl (ltb Number.limit n) refl
  where
    go : (a : Bool) → ltb Number.limit m ≡ a → (c : Bool) → ltb Number.limit n ≡ c → write_answer true m room ≡ write_answer true n room
    go true p true q = rw (p, q)
    go true p false q = absurd (omega (arith, ltb-true Number.limit m p, ltb-false Number.limit n q))
    go false p c q = let k : m ≡ n = omega (arith, ltb-false Number.limit m p) in rw k

-- i of the entries were judged and found good; with what stands in front of the table they take m bytes
pub record Measured (W : Writer) (entries : List W.Entry) (buffer_length front m i : ℕ) : Type 0 where
  pub below : i ≤ length entries
  pub small : m ≤ front + i * 65539
  pub good : all_ok W buffer_length entries ≡ all_ok W buffer_length (drop i entries)
  pub added : m + sizes W (drop i entries) ≡ front + sizes W entries

-- the same, but that past the limit they take m or more: a loop that adds nothing more there can say no other
pub record MeasuredToLimit (W : Writer) (entries : List W.Entry) (buffer_length front m i : ℕ) : Type 0 where
  pub below : i ≤ length entries
  pub good : all_ok W buffer_length entries ≡ all_ok W buffer_length (drop i entries)
  pub added : told (m + sizes W (drop i entries)) ≡ told (front + sizes W entries)

pub to_limit : {W : Writer} {entries : List W.Entry} {buffer_length front m i : ℕ} → Measured W entries buffer_length front m i
    → MeasuredToLimit W entries buffer_length front m i
to_limit x = record { below = x.below; good = x.good; added = ap told x.added }

-- i of the entries were judged and found good; of the room behind a place so much is left
pub record Fitted (W : Writer) (entries : List W.Entry) (buffer_length from room left i : ℕ) : Type 0 where
  pub below : i ≤ length entries
  pub good : all_ok W buffer_length entries ≡ all_ok W buffer_length (drop i entries)
  pub kept : left + from + sizes W entries ≡ room + sizes W (drop i entries)

-- k of the entries were put, from a place of the output on: the bytes of the others, put where the writer stands, give the whole output
pub record Placed (W : Writer) (entries : List W.Entry) (b out₀ : List ℕ) (at₀ : ℕ) (out : List ℕ) (at k : ℕ) : Type 0 where
  pub below : k ≤ length entries
  pub fine : all_ok W (length b) (drop k entries) ≡ true
  pub room : at + sizes W (drop k entries) ≤ length out
  pub so_far : sets out₀ at₀ (joined W b entries) ≡ sets out at (joined W b (drop k entries))

-- ---- a turn of the last
pub placed_turn : {W : Writer} {entries : List W.Entry} {b out₀ : List ℕ} {at₀ : ℕ} {one : List ℕ → W.Entry → List ℕ} → Bodied W one
    → {out : List ℕ} {at k : ℕ} → Placed W entries b out₀ at₀ out at k → (t : W.Entry) → k < length entries → t ≡ get_or entries k t
    → {out' : List ℕ} {j : ℕ} → out' ≡ put_at out at (one b t) → j ≡ W.size t → Placed W entries b out₀ at₀ out' (at + j) (k + 1)
placed_turn {W} {entries} {b} {out₀} {at₀} {one} B {out} {at} {k} x t h e {out'} {j} f p =
    let l : List W.Entry = drop (k + 1) entries in
    let cons : drop k entries ≡ get_or entries k t ∷ drop (suc k) entries = drop-cons entries k t h in
    let head : drop k entries ≡ t ∷ l = cons ∙ rw (← e, add-one k) in
    let oks = ok_head W (length b) t l (subst (λ (u : List W.Entry). all_ok W (length b) u ≡ true) head x.fine) in
    let rest : sizes W (drop k entries) ≡ W.size t + sizes W l = ap (sizes W) head in
    let long = B.length_is b (length l) t oks.0 in
    let q : out' ≡ sets out at (one b t) = f ∙ put_fits out at (one b t) (omega (arith, x.room, rest, long)) in
    let m : length out' ≡ length out = ap length q ∙ length-sets out at (one b t) in
    let i : at + length (one b t) ≡ at + j = omega (arith, long, p) in
    record {
      below = omega arith;
      fine = oks.1;
      room = omega (arith, x.room, rest, m, p);
      so_far = x.so_far ∙ ap (λ (u : List W.Entry). sets out at (joined W b u)) head ∙ ap (sets out at) (B.put_is b t (joined W b l))
          ∙ sets_append (one b t) (joined W b l) out at ∙ ap₂ (λ (o : List ℕ) (h : ℕ). sets o h (joined W b l)) (sym q) i;
    }
