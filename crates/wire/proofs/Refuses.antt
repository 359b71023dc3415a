-- Refusals by how an answer is made: by tests, one after the other, and by a walk. Assumes nothing.
use Prim.Native.Nat.{ℕ, ◌+◌, ◌<◌}
use mathlib.Core.Path.{◌≡◌, refl, sym, ap, ◌∙◌, subst}
use mathlib.Core.Bool.{Bool, true, false}
use mathlib.Core.List.{List, [], ◌∷◌}
use mathlib.Core.Logic.{◌⊎◌, inl, inr}
use native.Mathlib.Omega.{arith}
use borrow.Author.Tests.{ltb-true, lt-ltb, eqb-true}
use lib.Dec.{ltb, eqb}
use lib.ListN.{length, replicate}
use Rattle.wire.specs.Number as Number
use Rattle.wire.specs.Bytes.{pick, Bytes, none, more}
use Rattle.wire.specs.Walk.{Kit, Out, good, refused, read_from}
use Rattle.wire.specs.Exactly.{Reader, number_of}
use Rattle.wire.specs.Refuses.{OneOf, Refuses}
use Rattle.wire.specs.declared.Refusal.{Refusal}
use Rattle.wire.proofs.Views.{octets_zeros}
use Rattle.wire.proofs.Walk.{FaultsIn, fault_in}

-- what holds of both holds of the one that a test picks
pub pick_in : {A : Type 0} (P : A → Type 0) (b : Bool) {x y : A} → P x → P y → P (pick b x y)
pick_in P true p q = p
pick_in P false p q = q

-- an answer is good, or shows nothing but a refusal with one of the reader's numbers
pub data Answered (R : Reader) (a : R.Answer) : Type 0 where
  is_good : (R.refusal_of a).number ≡ Number.Good → Answered R a
  is_empty : a ≡ R.refused (R.refusal_of a) → OneOf R.numbers (R.refusal_of a).number → Answered R a

-- a number that is written out is one of some: a test that antt computes
abbrev pub is_one_of : List ℕ → ℕ → Bool
is_one_of [] n = false
is_one_of (m ∷ l) n = pick (eqb n m) true (is_one_of l n)

pub one_of : (l : List ℕ) (n : ℕ) → is_one_of l n ≡ true → OneOf l n
one_of [] n t = let z : ◌≡◌ {A = ℕ} 0 1 = cc in absurd (omega arith)
one_of (m ∷ l) n t = go (eqb n m) refl (one_of l n) t
  where
    go : (b : Bool) → eqb n m ≡ b → (is_one_of l n ≡ true → OneOf l n) → pick b true (is_one_of l n) ≡ true → OneOf (m ∷ l) n
    go true h i t = inl (eqb-true n m h)
    go false h i t = inr (i t)

-- an input that is answered with a number, and one for each of some numbers
abbrev pub Gives : Reader → ℕ → Type 0
Gives R n = (s : List ℕ) × Bytes s × (number_of R s ≡ n)

abbrev pub GivesEach : Reader → List ℕ → Type 0
GivesEach R [] = Unit {0}
GivesEach R (n ∷ l) = Gives R n × GivesEach R l

given_each : (R : Reader) (l : List ℕ) → GivesEach R l → (n : ℕ) → OneOf l n → Gives R n
given_each R [] g n o = absurd o
given_each R (m ∷ l) g n (inl e) = subst (Gives R) (sym e) g.0
given_each R (m ∷ l) g n (inr o) = given_each R l g.1 n o

pub refuses_from : (R : Reader) → ((s : List ℕ) → Answered R (R.read s)) → GivesEach R R.numbers → Refuses R
refuses_from R answered given =
    record {
      shows_nothing = λ s h. nothing (R.read s) h (answered s);
      no_other = λ s. no_other (R.read s) (answered s);
      each_given = given_each R R.numbers given;
    }
  where
    nothing : (a : R.Answer) → 0 < (R.refusal_of a).number → Answered R a → a ≡ R.refused (R.refusal_of a)
    nothing a h (is_good e) = absurd (omega arith)
    nothing a h (is_empty e o) = e

    no_other : (a : R.Answer) → Answered R a → ((R.refusal_of a).number ≡ Number.Good) ⊎ OneOf R.numbers (R.refusal_of a).number
    no_other a (is_good e) = inl e
    no_other a (is_empty e o) = inr o

-- an answer that is made of what a walk hands back: TooMany is one of the numbers
pub walk_answered : (R : Reader) (K : Kit) (answer : Out K.Entry → R.Answer) → FaultsIn K (OneOf R.numbers) → OneOf R.numbers Number.TooMany
    → ((n at : ℕ) (table : List K.Entry) (z : List ℕ) → (R.refusal_of (answer (good n at table z))).number ≡ Number.Good)
    → ((r : Refusal) → answer (refused r) ≡ R.refused r) → ((r : Refusal) → R.refusal_of (R.refused r) ≡ r)
    → (f at : ℕ) (s : List ℕ) → Answered R (answer (read_from K f at s))
walk_answered R K answer faults many when-good when-refused says f at s = go (read_from K f at s) refl
  where
    go : (o : Out K.Entry) → read_from K f at s ≡ o → Answered R (answer o)
    go (good n place table z) e = is_good (when-good n place table z)
    go (refused r) e =
        let is-r : R.refusal_of (answer (refused r)) ≡ r = ap R.refusal_of (when-refused r) ∙ says r in
        is_empty (when-refused r ∙ ap R.refused (sym is-r))
        (subst (λ (x : Refusal). OneOf R.numbers x.number) (sym is-r) (fault_in K (OneOf R.numbers) faults many f at s r e))

-- ---- numbers that are written out pass a test: one that antt computes for each of them
abbrev pub passes : (ℕ → Bool) → List ℕ → Bool
passes test [] = true
passes test (n ∷ l) = pick (test n) (passes test l) false

pub passed : (test : ℕ → Bool) (l : List ℕ) → passes test l ≡ true → (n : ℕ) → OneOf l n → test n ≡ true
passed test [] t n o = absurd o
passed test (m ∷ l) t n o = go (test m) refl (passed test l) t o
  where
    go : (b : Bool) → test m ≡ b → (passes test l ≡ true → (n : ℕ) → OneOf l n → test n ≡ true) → pick b (passes test l) false ≡ true
        → OneOf (m ∷ l) n → test n ≡ true
    go true h i t (inl e) = ap test e ∙ h
    go true h i t (inr o) = i t n o
    go false h i t o = let z : ◌≡◌ {A = ℕ} 0 1 = cc in absurd (omega arith)

-- so each number of one list is one of another
pub among : (l m : List ℕ) → passes (is_one_of m) l ≡ true → (n : ℕ) → OneOf l n → OneOf m n
among l m t n o = one_of m n (passed (is_one_of m) l t n o)

abbrev pub below : ℕ → ℕ → Bool
below k n = ltb n k

pub bytes_are : (l : List ℕ) → passes (below 256) l ≡ true → Bytes l
bytes_are [] t = none
bytes_are (b ∷ l) t = go (ltb b 256) refl (bytes_are l) t
  where
    go : (c : Bool) → ltb b 256 ≡ c → (passes (below 256) l ≡ true → Bytes l) → pick c (passes (below 256) l) false ≡ true → Bytes (b ∷ l)
    go true h i q = more (ltb-true b 256 h) (i q)
    go false h i q = let z : ◌≡◌ {A = ℕ} 0 1 = cc in absurd (omega arith)

-- there are inputs that are too long
longer : (n : ℕ) → (s : List ℕ) × Bytes s × (n < length s)
longer n = let o = octets_zeros (n + 1) in (replicate (n + 1) 0, o.are_bytes, omega (arith, o.many))

too_long : (s : List ℕ) × Bytes s × (Number.limit < length s)
too_long = longer Number.limit

-- a reader that judges the length first refuses one of them
pub gives_too_long : (R : Reader) (too-long-answer : R.Answer) (other : List ℕ → R.Answer)
    → ((s : List ℕ) → R.read s ≡ pick (ltb Number.limit (length s)) too-long-answer (other s)) → (R.refusal_of too-long-answer).number ≡ Number.TooLong
    → Gives R Number.TooLong
gives_too_long R too-long-answer other judged says =
    let s = too_long.0 in
    let answer_is : R.read s ≡ too-long-answer = judged s ∙ rw (lt-ltb Number.limit (length s) too_long.2) in
    (s, too_long.1, ap (λ (a : R.Answer). (R.refusal_of a).number) answer_is ∙ says)

-- ---- a bound on the numbers of a reader bounds each of its answers'
pub numbers_below : (R : Reader) → Refuses R → (k : ℕ) → passes (below k) (Number.Good ∷ R.numbers) ≡ true → (s : List ℕ) → number_of R s < k
numbers_below R f k t s = ltb-true (number_of R s) k (passed (below k) (Number.Good ∷ R.numbers) t (number_of R s) (f.no_other s))
