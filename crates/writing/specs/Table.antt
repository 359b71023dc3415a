-- Writing a table of entries: what every writer of a list of items shares. Nothing here takes an input apart.
use Rattle.std.specs.Prelude.{ℕ, ◌+◌, ◌≡◌, Bool, true, false, List, [], ◌∷◌, ◌++◌, length}
use Rattle.wire.specs.Bytes.{pick}
use Rattle.wire.specs.Parts.{join_all}

-- a kind of table: its entries, the grammar's items, the item of an entry by the buffer that its views point into, an item's
-- bytes and then the rest, whether an entry is writable by the buffer's length and the number of entries after it, and how
-- many bytes it takes
pub record Writer : Type 1 where
  pub Entry : Type 0
  pub Item : Type 0
  pub part : List ℕ → Entry → Item
  pub put : Item → List ℕ → List ℕ
  pub ok : ℕ → ℕ → Entry → Bool
  pub size : Entry → ℕ

abbrev pub parts : (W : Writer) → List ℕ → List W.Entry → List W.Item
parts W b [] = []
parts W b (t ∷ l) = W.part b t ∷ parts W b l

-- the bytes of entries: their items joined, with nothing behind them
abbrev pub joined : (W : Writer) → List ℕ → List W.Entry → List ℕ
joined W b l = join_all W.put (parts W b l) []

abbrev pub all_ok : (W : Writer) → ℕ → List W.Entry → Bool
all_ok W buffer_length [] = true
all_ok W buffer_length (t ∷ l) = pick (W.ok buffer_length (length l) t) (all_ok W buffer_length l) false

abbrev pub sizes : (W : Writer) → List W.Entry → ℕ
sizes W [] = 0
sizes W (t ∷ l) = W.size t + sizes W l

-- what a body proves of its table: the bytes of one entry alone, and how many
pub record Bodied (W : Writer) (one : List ℕ → W.Entry → List ℕ) : Type 0 where
  pub put_is : (b : List ℕ) (t : W.Entry) (r : List ℕ) → W.put (W.part b t) r ≡ one b t ++ r
  pub length_is : (b : List ℕ) (n : ℕ) (t : W.Entry) → W.ok (length b) n t ≡ true → length (one b t) ≡ W.size t
