-- What a Cut says: the place of the first part that is not whole, and how many of its bytes are missing. Nothing here goes by a reader.
use Rattle.std.specs.Prelude.{ℕ, ◌+◌, ◌≤◌, ◌<◌, ◌≡◌, List, [], ◌∷◌, ◌++◌, length, drop}
use Rattle.wire.specs.Parts.{join_all, EachGood, end_from}
use Rattle.wire.specs.declared.Refusal.{Refusal}

-- how many bytes parts of these widths take
abbrev pub total : List ℕ → ℕ
total [] = 0
total (w ∷ ws) = w + total ws

-- Of parts with these widths, the first of them at a place, one starts where the refusal is: those before it lie whole in n bytes, and it
-- does not; the bytes that are there and those that are missing make it whole.
pub record FirstLacking (ws : List ℕ) (at n : ℕ) (r : Refusal) : Type 0 where
  pub before : List ℕ
  pub width : ℕ
  pub behind : List ℕ
  pub run_is : ws ≡ before ++ width ∷ behind
  pub place_is : r.place ≡ at + total before
  pub starts_inside : r.place ≤ n
  pub ends_outside : n < r.place + width
  pub missing_is : n + r.missing ≡ r.place + width

-- From a place of s on stand whole items, and then bytes that begin another item, whose parts have these widths; the first of them that is not
-- whole is where the refusal is.
pub record CutAfter {A : Type 0} (put : A → List ℕ → List ℕ) (G : A → List ℕ → Type 0) (size : A → ℕ) (widths : List ℕ → List ℕ) (at : ℕ)
    (s : List ℕ) (r : Refusal) : Type 0 where
  pub items : List A
  pub rest : List ℕ
  pub each_good : EachGood put G items rest
  pub joined : join_all put items rest ≡ drop at s
  pub lacking : FirstLacking (widths rest) (end_from size at items) (length s) r
