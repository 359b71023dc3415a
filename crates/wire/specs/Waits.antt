-- What the number of missing bytes means to one who collects bytes: how many to wait for.
use Rattle.std.specs.Prelude.{ℕ, ◌-◌, ◌≤◌, ◌<◌, ◌≡◌, List, ◌++◌, length}
use Rattle.wire.specs.Number as Number
use Rattle.wire.specs.Refusal.{lacking}
use Rattle.wire.specs.Exactly.{Reader}
use Rattle.wire.specs.declared.Refusal.{Refusal}

-- Bytes are refused with r, and with n more behind them with q. Where r is a Cut with more than n bytes missing, q is the Cut at the same place
-- with the rest missing. Where r is a Cut with n or fewer missing, q is no Cut at that place, unless `Again` says that it may be.
pub record Waited (Again : ℕ → Type 0) (n : ℕ) (r q : Refusal) : Type 0 where
  pub too_few : r.number ≡ Number.Cut → n < r.missing → q ≡ lacking r.place (r.missing - n)
  pub enough : r.number ≡ Number.Cut → r.missing ≤ n → q.number ≡ Number.Cut → q.place ≡ r.place → Again r.place

-- So it is for every input s and all bytes t that come behind it, within the limit; `Again s m` are the places at which s, of which m bytes are
-- there now, may be Cut once more.
abbrev pub WaitsBut : (List ℕ → ℕ → ℕ → Type 0) → Reader → Type 0
WaitsBut Again R =
    (s t : List ℕ) → length (s ++ t) ≤ Number.limit
    → Waited (Again s (length (s ++ t))) (length t) (R.refusal_of (R.read s)) (R.refusal_of (R.read (s ++ t)))

-- nothing is Cut twice at one place
abbrev pub Never : List ℕ → ℕ → ℕ → Type 0
Never s m place = ⊥

abbrev pub Waits : Reader → Type 0
Waits R = WaitsBut Never R

-- A refusal says that bytes are missing exactly where it is a Cut.
pub record TellsMissing (r : Refusal) : Type 0 where
  pub cut_lacks : r.number ≡ Number.Cut → 0 < r.missing
  pub lacking_cut : 0 < r.missing → r.number ≡ Number.Cut

abbrev pub MissingTells : Reader → Type 0
MissingTells R = (s : List ℕ) → TellsMissing (R.refusal_of (R.read s))
