-- What it means that a reader reads exactly its grammar: the form in which every header and body promises it.
use Rattle.std.specs.Prelude.{ℕ, ◌≤◌, ◌≡◌, List, length, drop}
use Rattle.wire.specs.Number as Number
use Rattle.wire.specs.Bytes.{Bytes}
use Rattle.wire.specs.View.{viewed}
use Rattle.wire.specs.declared.Refusal.{Refusal}
use Rattle.wire.specs.declared.View.{View}

-- a grammar: its readings, their parts joined in order, which readings are good, and which fit the tables of a record; and of each
-- reading what no answer shows: the bits and bytes that are skipped, which may be anything, and the bytes of the tail
pub record Grammar : Type 1 where
  pub Reading : Type 0
  pub join : Reading → List ℕ
  pub Good : Reading → Type 0
  pub Fits : Reading → Type 0
  pub Skipped : Type 0
  pub skipped : Reading → Skipped
  pub tail : Reading → List ℕ

-- where a record has no table, every reading fits
abbrev pub no_table : {A : Type 0} → A → Type 0
no_table r = Unit {0}

-- where a grammar skips nothing
abbrev pub Nothing : Type 0
Nothing = Unit {0}

abbrev pub skips_nothing : {A : Type 0} → A → Nothing
skips_nothing r = tt

-- r is a good reading of the input s that fits the tables: all of its parts, joined in order, are s
pub record ReadingOf (G : Grammar) (s : List ℕ) (r : G.Reading) : Type 0 where
  pub is_good : G.Good r
  pub fits : G.Fits r
  pub joined : G.join r ≡ s

-- s has such a reading
abbrev pub Readable : Grammar → List ℕ → Type 0
Readable G s = (r : G.Reading) × ReadingOf G s r

-- a reader with its arguments fixed: the grammar that it is held against, what it answers, and
--     the answer that shows a reading; and back again: where an answer says that the tail starts, and the reading that it tells, by
--     the bytes that its views show, its other fields, what is skipped, and the tail
--     the answer that shows nothing but a refusal; and back again: the refusal of an answer, which has the number 0 where it is good
--     the numbers that it refuses with
pub record Reader : Type 1 where
  pub grammar : Grammar
  pub Answer : Type 0
  pub read : List ℕ → Answer
  pub shown : grammar.Reading → Answer
  pub tail_at : Answer → ℕ
  pub told : (View → List ℕ) → Answer → grammar.Skipped → List ℕ → grammar.Reading
  pub refused : Refusal → Answer
  pub refusal_of : Answer → Refusal
  pub numbers : List ℕ

-- An answer to s tells a reading: with the bytes of s that its views show, what is skipped and the tail, its fields are that reading
-- again; and the tail stands where it says, inside s.
pub record Tells (R : Reader) (s : List ℕ) (a : R.Answer) (r : R.grammar.Reading) : Type 0 where
  pub told_so : R.told (viewed s) a (R.grammar.skipped r) (R.grammar.tail r) ≡ r
  pub tail_so : drop (R.tail_at a) s ≡ R.grammar.tail r
  pub tail_within : R.tail_at a ≤ length s

-- the reading that the answer to s tells, where x is what is skipped, and the tail is what stands where the answer says
abbrev pub retold : (R : Reader) → List ℕ → R.grammar.Skipped → R.grammar.Reading
retold R s x = R.told (viewed s) (R.read s) x (drop (R.tail_at (R.read s)) s)

-- the number of the answer to s
abbrev pub number_of : Reader → List ℕ → ℕ
number_of R s = (R.refusal_of (R.read s)).number

abbrev pub Accepts : Reader → List ℕ → Type 0
Accepts R s = number_of R s ≡ Number.Good

-- r is a reading of s, and the answer to s shows it
pub record Shows (R : Reader) (s : List ℕ) (r : R.grammar.Reading) : Type 0 where
  pub reading : ReadingOf R.grammar s r
  pub shown_so : R.read s ≡ R.shown r

-- What is accepted has a reading, and the answer shows it.
abbrev pub Sound : Reader → Type 0
Sound R = (s : List ℕ) → Bytes s → Accepts R s → (r : R.grammar.Reading) × Shows R s r

-- Every good reading that fits, of at most 1,048,576 bytes, is shown.
abbrev pub Complete : Reader → Type 0
Complete R =
    (r : R.grammar.Reading) → R.grammar.Good r → R.grammar.Fits r → length (R.grammar.join r) ≤ Number.limit
    → R.read (R.grammar.join r) ≡ R.shown r

-- Every good reading that fits is told by the answer that shows it.
abbrev pub Told : Reader → Type 0
Told R = (r : R.grammar.Reading) → R.grammar.Good r → R.grammar.Fits r → Tells R (R.grammar.join r) (R.shown r) r

-- No input has two good readings, whether they fit or not.
abbrev pub Unique : Grammar → Type 0
Unique G = (r q : G.Reading) → G.Good r → G.Good q → G.join r ≡ G.join q → r ≡ q

-- For every input of at most 1,048,576 bytes: it is accepted exactly when it has a reading, the answer shows that reading, and there is
-- no other. What the answer shows, with what is fixed, what is skipped and the tail, is that reading again; so joined in order they are the
-- input again.
pub record Exactly (R : Reader) : Type 0 where
  pub only_readings : (s : List ℕ) → Bytes s → length s ≤ Number.limit → Accepts R s → Readable R.grammar s
  pub all_readings : (s : List ℕ) → length s ≤ Number.limit → Readable R.grammar s → Accepts R s
  pub no_two : Unique R.grammar
  pub shows_it : (s : List ℕ) → length s ≤ Number.limit → (r : R.grammar.Reading) → ReadingOf R.grammar s r → R.read s ≡ R.shown r
  pub tells_it : (s : List ℕ) → length s ≤ Number.limit → (r : R.grammar.Reading) → ReadingOf R.grammar s r → Tells R s (R.read s) r
  pub joins_again : (s : List ℕ) → Bytes s → length s ≤ Number.limit → Accepts R s → (x : R.grammar.Skipped) × (R.grammar.join (retold R s x) ≡ s)
