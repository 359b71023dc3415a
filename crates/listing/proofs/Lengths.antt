-- How long a line is, and a listing. Assumes nothing.
use mathlib.Core.Path.{◌≡◌, refl}
use mathlib.Core.Bool.{Bool, true, false}
use mathlib.Core.List.{List, [], ◌∷◌, ◌++◌}
use Prim.Native.Nat.{ℕ, zero, suc, ◌+◌, ◌-◌, ◌*◌, ◌≤◌, ◌<◌}
use native.Mathlib.Omega.{arith}
use borrow.Author.Tests.{ltb-true, ltb-false}
use lib.Dec.{ltb}
use lib.ListN.{length, drop, length-append, length-drop}
use Rattle.std.specs.declared.option.Option.{Option}
use Rattle.std.specs.declared.result.Result.TheVariants.{Ok, Err}
use Rattle.wire.specs.Number as Number
use Rattle.wire.specs.Bytes.{pick, Bytes}
use Rattle.wire.specs.Refusal.{refusal}
use Rattle.wire.specs.Walk.{fault, walk}
use Rattle.wire.proofs.Bytes.{bytes_drop}
use Rattle.decimal.specs.Decimal.{decimal}
use Rattle.decimal.proofs.Promises.{at_most}
use Rattle.listing.specs.Text.{heading, answer_text, message_line, refused_line, end_line}
use Rattle.listing.specs.Listing.{longest, kit, lines, text, enough}
use Rattle.listing.specs.Steps.{lines_from, RowAnswer, row_at}
use Rattle.listing.proofs.Rows.{Tells, row_tells, Short, row_short, by_row, lines_at_end, lines_by_row}

pub length_field : (d : List ℕ) (x : ℕ) → length (d ++ (x ∷ [])) ≡ length d + 1
length_field d x = length-append d (x ∷ [])

pub length_message : (p k n : ℕ) (a : Option ℕ)
    → length (message_line p k n a) ≡ length (decimal p) + length (decimal k) + length (decimal n) + length (answer_text a) + 4
length_message p k n a = simp length-append (omega arith)

pub length_refused : (p n : ℕ) → length (refused_line p n) ≡ length (decimal p) + length (decimal n) + 6
length_refused p n = simp length-append (omega arith)

pub length_end : (p : ℕ) → length (end_line p) ≡ length (decimal p) + 5
length_end p = simp length-append (omega arith)

place_short : (n : ℕ) → n ≤ longest → length (decimal n) ≤ 5
place_short n h = at_most 4 n (omega (arith, h))

-- 16 bytes at most beside the digits of its length, of which there is one up to 9, and five at most
message_short : (p k n : ℕ) (a : Option ℕ) → p ≤ longest → k < 256 → 6 ≤ n → n ≤ longest → length (answer_text a) ≤ 4 → length (message_line p k n a) ≤ 3 * n
message_short p k n a hp hk six hn ha = go (ltb n 10) refl
  where
    line : length (message_line p k n a) ≤ length (decimal n) + 16
    line = omega (arith, length_message p k n a, place_short p hp, at_most 2 k (omega (arith, hk)), ha)

    go : (b : Bool) → ltb n 10 ≡ b → length (message_line p k n a) ≤ 3 * n
    go true e = omega (arith, line, at_most 0 n (omega (arith, ltb-true n 10 e)), six)
    go false e = omega (arith, line, place_short n hn, ltb-false n 10 e)

refusal_short : (p n : ℕ) → p ≤ longest → n ≤ 10 → length (refused_line p n ++ end_line p) ≤ 23
refusal_short p n hp hn =
    omega (arith, length-append (refused_line p n) (end_line p), length_refused p n, length_end p, place_short p hp, at_most 1 n (omega (arith, hn)))

end_short : (p : ℕ) → p ≤ longest → length (end_line p) ≤ 10
end_short p hp = omega (arith, length_end p, place_short p hp)

-- 3 bytes of text for each byte of the stream that is left, by as many turns
abbrev InBounds : ℕ → ℕ → List ℕ → Type 0
InBounds f at s = length (lines_from f at s) ≤ 3 * (length s - at) + 23

lines_short : (f at : ℕ) (s : List ℕ) → Bytes s → length s ≤ longest → at ≤ length s → length s - at ≤ f → InBounds f at s
lines_short zero at s p hs ha few =
    rw (lines_at_end zero at s (omega (arith, length-drop at s, few))) (omega (arith, end_short at (omega (arith, hs, ha))))
lines_short (suc f) at s p hs ha few = go (ltb at (length s)) refl (λ n. lines_short f (at + n) s p hs)
  where
    hp : at ≤ longest
    hp = omega (arith, hs, ha)

    d : length (drop at s) ≡ length s - at
    d = length-drop at s

    by : (r : RowAnswer) → Tells (drop at s) r → Short r → ((n : ℕ) → at + n ≤ length s → length s - (at + n) ≤ f → InBounds f (at + n) s)
        → length (by_row f at s r) ≤ 3 * (length s - at) + 23
    by (Err r) t h i = omega (arith, refusal_short at r.number hp t)
    by (Ok w) t h i =
        let m : w.msg_len ≤ length s - at = omega (arith, d, t.1) in
        let x = message_short at w.kind w.msg_len w.answer hp h.0 t.0 (omega (arith, m, hs)) h.1 in
        let y = i w.msg_len (omega (arith, m, ha)) (omega (arith, few, t.0)) in
        omega (arith, length-append (message_line at w.kind w.msg_len w.answer) (lines_from f (at + w.msg_len) s), x, y, m)

    go : (b : Bool) → ltb at (length s) ≡ b → ((n : ℕ) → at + n ≤ length s → length s - (at + n) ≤ f → InBounds f (at + n) s) → InBounds (suc f) at s
    go true e i =
        let some = ltb-true at (length s) e in
        let one : suc f - 1 ≡ f = omega arith in
        rw (lines_by_row (suc f) at s (omega (arith, d)) (omega (arith, d, few)), one)
        (by (row_at (drop at s)) (row_tells (drop at s)) (row_short (drop at s) (bytes_drop at p)) i)
    go false e i = rw (lines_at_end (suc f) at s (omega (arith, d, ltb-false at (length s) e))) (omega (arith, end_short at hp))

pub text_short : (s : List ℕ) → Bytes s → length (text s) ≤ enough
unfolding text
text_short s p = go (ltb longest (length s)) refl
  where
    go : (b : Bool) → ltb longest (length s) ≡ b
        → length (heading ++ lines 0 (pick b (record { items = []; end = fault (refusal Number.TooLong 0) }) (walk kit (length s) s)).items
        (pick b (record { items = []; end = fault (refusal Number.TooLong 0) }) (walk kit (length s) s)).end) ≤ enough
    go true e = omega (arith, refusal_short 0 Number.TooLong (omega arith) (omega arith))
    go false e = let h = ltb-false longest (length s) e in omega (arith, h, lines_short (length s) 0 s p h (omega arith) (omega arith))
