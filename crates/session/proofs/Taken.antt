-- How many bytes a call takes, by what is judged after each of them. Assumes nothing.
use mathlib.Core.Path.{◌≡◌, refl, sym, ap, ◌∙◌}
use mathlib.Core.Bool.{Bool, true, false}
use mathlib.Core.List.{List, [], ◌∷◌, ◌++◌, append_assoc, append-nil}
use Prim.Native.Nat.{ℕ, zero, suc, ◌+◌, ◌-◌, ◌≤◌, ◌<◌}
use native.Mathlib.Omega.{arith}
use lib.Dec.{ltb}
use borrow.Author.Tests.{ltb-true, ltb-false}
use lib.ListN.{length, take}
use lib.Seq.{take-append-le, take-append-add, take-take}
use Rattle.wire.specs.Bytes.{pick}
use Rattle.receiver.specs.Receive.{room, judge_of, waiting, took_of}
use Rattle.receiver.proofs.Runs.{grown, took_within, in_body_of}
use Rattle.session.proofs.Boundary.{waiting_lacks}

pub took_some : (h xs : List ℕ) → 0 < length xs → 0 < took_of h xs
unfolding took_of
took_some h [] p = absurd (omega (arith, p))
took_some h (x ∷ xs) p = omega arith

-- each byte but the last one taken leaves the bytes since the last boundary waiting
pub took_waits : (h xs : List ℕ) → waiting (judge_of h) ≡ true → (j : ℕ) → j < took_of h xs → waiting (judge_of (h ++ take j xs)) ≡ true
unfolding took_of
took_waits h xs w zero l = ap (λ (z : List ℕ). waiting (judge_of z)) (append-nil h) ∙ w
took_waits h [] w (suc j) l = absurd (omega (arith, l))
took_waits h (x ∷ xs) w (suc j) l = go (waiting (judge_of (h ++ (x ∷ [])))) refl l (λ v. took_waits (h ++ (x ∷ [])) xs v j)
  where
    go : (b : Bool) → waiting (judge_of (h ++ (x ∷ []))) ≡ b → suc j < suc (pick b (took_of (h ++ (x ∷ [])) xs) 0)
        → (waiting (judge_of (h ++ (x ∷ []))) ≡ true → j < took_of (h ++ (x ∷ [])) xs → waiting (judge_of ((h ++ (x ∷ [])) ++ take j xs)) ≡ true)
        → waiting (judge_of (h ++ (x ∷ take j xs))) ≡ true
    go true e l i = ap (λ (z : List ℕ). waiting (judge_of z)) (sym (append_assoc h (x ∷ []) (take j xs))) ∙ i e (omega (arith, l))
    go false e l i = absurd (omega (arith, l))

-- where bytes are left, the last one taken does not
pub took_ends : (h xs : List ℕ) → took_of h xs < length xs → waiting (judge_of (h ++ take (took_of h xs) xs)) ≡ false
unfolding took_of
took_ends h [] l = absurd (omega (arith, l))
took_ends h (x ∷ xs) l = go (waiting (judge_of (h ++ (x ∷ [])))) refl l (took_ends (h ++ (x ∷ [])) xs)
  where
    go : (b : Bool) → waiting (judge_of (h ++ (x ∷ []))) ≡ b → suc (pick b (took_of (h ++ (x ∷ [])) xs) 0) < length (x ∷ xs)
        → (took_of (h ++ (x ∷ [])) xs < length xs → waiting (judge_of ((h ++ (x ∷ [])) ++ take (took_of (h ++ (x ∷ [])) xs) xs)) ≡ false)
        → waiting (judge_of (h ++ (x ∷ take (pick b (took_of (h ++ (x ∷ [])) xs) 0) xs))) ≡ false
    go true e l i = ap (λ (z : List ℕ). waiting (judge_of z)) (sym (append_assoc h (x ∷ []) (take (took_of (h ++ (x ∷ [])) xs) xs))) ∙ i (omega (arith, l))
    go false e l i = e

-- ---- what waits has room for a byte more
waits_short : (h : List ℕ) → length h ≤ room → waiting (judge_of h) ≡ true → length h < room
waits_short h most w = go (ltb (length h) 6) refl
  where
    go : (b : Bool) → ltb (length h) 6 ≡ b → length h < room
    go true e = let z = ltb-true (length h) 6 e in omega (arith, z)
    go false e =
        let lacks = waiting_lacks (judge_of h) w in
        let b = in_body_of h lacks.0 most lacks.1 (ltb-false (length h) 6 e) in
        let some = b.some in
        let sum = b.lacks in
        let high = b.high in
        omega (arith, some, sum, high)

module _ (h xs : List ℕ) (most : length h ≤ room) (w : waiting (judge_of h) ≡ true) where
  fits_so_far : (j : ℕ) → j ≤ took_of h xs → length h + j ≤ room
  fits_so_far zero l = omega (arith, most)
  fits_so_far (suc j) l =
      let i = fits_so_far j (omega (arith, l)) in
      let g = grown h xs j (let t = took_within h xs in omega (arith, t, l)) in
      let s = waits_short (h ++ take j xs) (omega (arith, g, i)) (took_waits h xs w j (omega (arith, l))) in
      omega (arith, s, g)

  pub took_fits : length h + took_of h xs ≤ room
  took_fits = fits_so_far (took_of h xs) (omega arith)

  -- and so does every beginning of what is then held, but for the whole of it
  pub begins_waiting : ((j : ℕ) → j < length h → waiting (judge_of (take j h)) ≡ true)
      → (j : ℕ) → j < length (h ++ take (took_of h xs) xs) → waiting (judge_of (take j (h ++ take (took_of h xs) xs))) ≡ true
  begins_waiting before j l = go (ltb j (length h)) refl
    where
      n : ℕ
      n = took_of h xs

      go : (b : Bool) → ltb j (length h) ≡ b → waiting (judge_of (take j (h ++ take n xs))) ≡ true
      go true e = let z = ltb-true j (length h) e in ap (λ (s : List ℕ). waiting (judge_of s)) (take-append-le j h (take n xs) (omega (arith, z))) ∙ before j z
      go false e =
          let z = ltb-false j (length h) e in
          let i = j - length h in
          let many = grown h xs n (took_within h xs) in
          let sum : length h + i ≡ j = omega (arith, z) in
          let less : i < n = omega (arith, many, l, z) in
          ap (λ (k : ℕ). waiting (judge_of (take k (h ++ take n xs)))) (sym sum) ∙ ap (λ (s : List ℕ). waiting (judge_of s)) (take-append-add h (take n xs) i)
          ∙ ap (λ (s : List ℕ). waiting (judge_of (h ++ s))) (take-take i n xs (omega (arith, less))) ∙ took_waits h xs w i less
