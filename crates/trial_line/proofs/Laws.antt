-- Words, byte by byte, tables of them, and the fields of a line. Assumes nothing.
use Rattle.std.proofs.Common.{◌≡◌, refl, sym, ap, ◌∙◌, Bool, true, false, not, cond, ◌&&◌, List, [], ◌∷◌, ◌++◌, ℕ, zero, suc, ◌+◌, ◌-◌, ◌/◌, ◌≤◌, ◌<◌, eqb, length, take, drop, arith, le-leb, eq-eqb, subst, length-append}
use Rattle.std.proofs.Math.Seq.{take-append_seam, drop-append_seam}
use Rattle.std.specs.Cmp.Lexicographic.{pointwise}
use Rattle.std.specs.List.{find, position, position_or_len}
use Rattle.std.specs.Slice.Iter.{chunks_exact_rest, chunks_exact_size, chunks_exact_steps}
use Rattle.std.proofs.lemmas.Iterator.{YieldsList}
use Rattle.std.proofs.lemmas.Iterator.Splits.{YieldsList-from_shown_while}
use Rattle.std.specs.declared.slice.ChunksExact.{ChunksExact}
use Rattle.trial_hex.proofs.Laws.{first_found}
use Rattle.std.specs.Option.{option_map, unwrap_or}
use denote.Ref.{Bor}
use borrow.Author.Tests.{lt-leb, ne_eqb, eqb-true, eqb-false}
use Rattle.std.specs.declared.option.Option.{Option}
use Rattle.std.specs.declared.option.Option.TheVariants.{Some, None}
use Rattle.std.specs.declared.result.Result.TheVariants.{Err}
use Rattle.wire.specs.Bytes.{pick}
use Rattle.wire.specs.View.{view}
use Rattle.trial_hex.specs.Hex.{place_of}
use Rattle.trial_line.specs.Words.{Row, word, starts, same, meaning, word_of, word_in}
use Rattle.trial_line.specs.Line.{FoundVerb, Line, bad_line, verb_of, command_of, line_with, behind_verb, line_of}

-- ---- two texts are the same, or one starts the other, as `==` and `strip_prefix` answer
eqb_suc : (n m : ℕ) → eqb (suc n) (suc m) ≡ eqb n m
eqb_suc n m = go (eqb n m) refl
  where
    go : (b : Bool) → eqb n m ≡ b → eqb (suc n) (suc m) ≡ b
    go true e = eq-eqb (suc n) (suc m) (ap suc (eqb-true n m e))
    go false e = let other = eqb-false n m e in ne_eqb (suc n) (suc m) (λ k. other (omega (arith, k)))

pub equal_is : (t w : List ℕ) → pointwise eqb t w ≡ same t w
unfolding starts
equal_is [] [] = refl
equal_is [] (b ∷ w) = rw (ne_eqb 0 (length (b ∷ w)) (λ e. absurd (omega (arith, e))))
equal_is (a ∷ t) [] = rw (ne_eqb (length (a ∷ t)) 0 (λ e. absurd (omega (arith, e))))
equal_is (a ∷ t) (b ∷ w) = rw (eqb_suc (length t) (length w), equal_is t w) (go (eqb a b) (eqb (length t) (length w)) (starts t w))
  where
    go : (c d e : Bool) → (c && pick d e false) ≡ pick d (pick c e false) false
    go true d e = refl
    go false true e = refl
    go false false e = refl

pub starts_is : (t w : List ℕ) → pointwise eqb (take (length w) t) w ≡ starts t w
unfolding starts
starts_is t [] = refl
starts_is [] (b ∷ w) = refl
starts_is (a ∷ t) (b ∷ w) = rw (starts_is t w) (go (eqb a b) (starts t w))
  where
    go : (c d : Bool) → (c && d) ≡ pick c d false
    go true d = refl
    go false d = refl

-- ---- the first row of a table that has a word, as `find` answers
abbrev pub Rows : {R A : Type 0} → (R → Bool) → (R → A) → List ℕ → List R → List (Row (Option A)) → Type 0
Rows test means t [] [] = Unit {0}
Rows test means t [] (w ∷ ws) = ⊥
Rows test means t (r ∷ rs) [] = ⊥
Rows test means t (r ∷ rs) (w ∷ ws) = (test r ≡ same t (word w.spelt)) × (Some (means r) ≡ w.means) × Rows test means t rs ws

pub first_row : {R A : Type 0} (test : R → Bool) (means : R → A) (t : List ℕ) (rs : List R) (ws : List (Row (Option A))) → Rows test means t rs ws
    → option_map means (find test rs) ≡ meaning ws None t
first_row test means t [] [] h = refl
first_row test means t [] (w ∷ ws) h = absurd h
first_row test means t (r ∷ rs) [] h = absurd h
first_row {R} {A} test means t (r ∷ rs) (w ∷ ws) h =
    rw h.0 (go (same t (word w.spelt)) (first_row test means t rs ws h.2))
  where
    go : (b : Bool) → option_map means (find test rs) ≡ meaning ws None t
        → option_map means (cond b (Some r) (find test rs)) ≡ pick b w.means (meaning ws None t)
    go true e = h.1
    go false e = e

-- what `find` answers over a table that an iterator gives
pub row_found : {R A : Type 0} {rs : List R} (rest : List R) → rest ≡ rs → (test : R → Bool) (means : R → A) (t : List ℕ) (ws : List (Row (Option A))) → Rows test means t rs ws
    → (r : Option (Bor R)) → option_map (λ x. x.now) r ≡ find test rs → option_map (λ x. means x.now) r ≡ meaning ws None t
row_found {R} {A} {rs} rest is test means t ws h r found = twice r ∙ ap (option_map means) found ∙ first_row test means t rs ws h
  where
    twice : (r : Option (Bor R)) → option_map (λ x. means x.now) r ≡ option_map means (option_map (λ x. x.now) r)
    twice None = refl
    twice (Some x) = refl

-- ---- a line, field by field
module _ (l rest : List ℕ) (first : ℕ) (some : length l ≡ 0 → ⊥) (is-first : first ≡ place_of 32 l) where
  pub no_space : length l ≤ first → line_of l ≡ Err bad_line
  unfolding line_of
  no_space h = rw (ne_eqb (length l) 0 some, le-leb (length l) (place_of 32 l) (omega arith))

  pub behind-verb : first < length l → rest ≡ drop (first + 1) l → line_of l ≡ behind_verb (verb_of (take first l)) first rest
  unfolding line_of
  behind-verb h is-rest = rw (is-rest, is-first, ne_eqb (length l) 0 some, lt-leb (length l) (place_of 32 l) (omega arith))

module _ (rest : List ℕ) (second : ℕ) (is-second : second ≡ place_of 32 rest) (verb : FoundVerb) (first : ℕ) where
  pub no_second : length rest ≤ second → behind_verb verb first rest ≡ Err bad_line
  no_second h = rw (le-leb (length rest) (place_of 32 rest) (omega arith))

  pub both_spaces : second < length rest → behind_verb verb first rest ≡ line_with (command_of verb (view (first + second + 2) (length rest - second - 1)) (take second rest))
  both_spaces h = rw (is-second, lt-leb (length rest) (place_of 32 rest) (omega arith))

pub whole_line : (l rest text arguments : List ℕ) (first second : ℕ) (verb : FoundVerb) (r : Line) → (length l ≡ 0 → ⊥)
    → first ≡ place_of 32 l → first < length l → rest ≡ drop (first + 1) l → second ≡ place_of 32 rest → second < length rest
    → text ≡ take first l → verb ≡ verb_of text → arguments ≡ take second rest
    → r ≡ line_with (command_of verb (view (first + second + 2) (length rest - second - 1)) arguments) → r ≡ line_of l
whole_line l rest text arguments first second verb r some is-first h is-rest is-second k is-text is-verb is-arguments e =
    let v : verb ≡ verb_of (take first l) = is-verb ∙ ap verb_of is-text in
    e ∙ rw (is-arguments, v) (sym (behind-verb l rest first some is-first h is-rest ∙ both_spaces rest second is-second (verb_of (take first l)) first k))

-- ---- words that stand in 14 bytes each
abbrev pub cells : ℕ → List ℕ → List (List ℕ)
cells zero words = []
cells (suc n) words = take 14 words ∷ cells n (drop 14 words)

length-cells : (n : ℕ) (words : List ℕ) → length (cells n words) ≡ n
length-cells zero words = refl
length-cells (suc n) words = ap suc (length-cells n (drop 14 words))

abbrev pub has_word : List ℕ → List ℕ → Bool
has_word t cell = pointwise eqb t (word_of cell)

word_is : (n : ℕ) (words t : List ℕ) → position_or_len (has_word t) (cells n words) ≡ word_in n words t
unfolding word_in
word_is zero words t = refl
word_is (suc n) words t = rw (equal_is t (word_of (take 14 words)), word_is n (drop 14 words) t) (go (same t (word_of (take 14 words))) (word_in n (drop 14 words) t))
  where
    go : (c : Bool) (k : ℕ) → cond (not c) (1 + k) 0 ≡ pick c 0 (suc k)
    go true k = refl
    go false k = omega arith

pub word_found : (n : ℕ) (words t : List ℕ) (r : Option ℕ) → r ≡ position (has_word t) (cells n words) → unwrap_or r n ≡ word_in n words t
word_found n words t r e = ap (unwrap_or r) (sym (length-cells n words)) ∙ first_found (has_word t) (cells n words) r e ∙ word_is n words t

cells_turn : (words x rest : List ℕ) → words ≡ x ++ rest → length x ≡ 14 → cells (length words / 14) words ≡ x ∷ cells (length rest / 14) rest
cells_turn words x rest e is =
    let n : length words / 14 ≡ suc (length rest / 14) = omega (arith, ap length e, length-append x rest) in
    let here : take 14 words ≡ x = subst (λ (k : ℕ). take k words ≡ x) is (rw e (take-append_seam x rest)) in
    let more : drop 14 words ≡ rest = subst (λ (k : ℕ). drop k words ≡ rest) is (rw e (drop-append_seam x rest)) in
    rw (n, here, more)

-- the cells that `chunks_exact` gives
pub cells_given : {s : ChunksExact ℕ} → chunks_exact_size s ≡ 14 → YieldsList (chunks_exact_steps {A = ℕ}) (λ x. x.now) s (cells (length (chunks_exact_rest s) / 14) (chunks_exact_rest s))
cells_given {s} is =
    YieldsList-from_shown_while chunks_exact_steps (λ x. x.now) (λ s. cells (length (chunks_exact_rest s) / 14) (chunks_exact_rest s)) (λ s. chunks_exact_size s ≡ 14)
    (λ s t p e. let few : length (chunks_exact_rest s) / 14 ≡ 0 = omega (arith, e.1.0, p) in rw few)
    (λ s x t p e. (e.0 ∙ p, cells_turn _ _ _ e.1.0 (e.1.1 ∙ p))) s is
