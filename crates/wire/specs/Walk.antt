-- A walk over items: what every reader of a list of items shares.
use Rattle.std.specs.Prelude.{ℕ, zero, suc, ◌+◌, ◌-◌, List, [], ◌∷◌, ◌++◌, length, drop, set, replicate, leb}
use Rattle.wire.specs.Number as Number
use Rattle.wire.specs.Bytes.{pick}
use Rattle.wire.specs.Refusal.{refusal}
use Rattle.wire.specs.Parts.{shown_from, end_from}
use Rattle.wire.specs.declared.Refusal.{Refusal}

-- what stands at the front of some bytes: no item any more, a fault whose place counts from here, or an item
pub data Step (A : Type 0) : Type 0 where
  stop : Step A
  bad : Refusal → Step A
  item : A → Step A

-- how a walk ended: with the bytes that are left, or at a fault whose place counts from the end of the last item
pub data End : Type 0 where
  tail : List ℕ → End
  fault : Refusal → End

pub record Walked (A : Type 0) : Type 0 where
  pub items : List A
  pub end : End

-- a kind of walk: its items, how one is found at the front, how many bytes it takes, how the table shows it at a place,
-- what an unused entry holds, and how many entries there are
pub record Kit : Type 1 where
  pub Item : Type 0
  pub Entry : Type 0
  pub step : List ℕ → Step Item
  pub size : Item → ℕ
  pub entry : ℕ → Item → Entry
  pub none : Entry
  pub limit : ℕ

abbrev pub next : {A : Type 0} → Step A → List ℕ → (A → Walked A) → Walked A
next stop s w = record { items = []; end = tail s }
next (bad r) s w = record { items = []; end = fault r }
next (item a) s w = record { items = a ∷ (w a).items; end = (w a).end }

-- at most f items
unfoldable pub walk : (K : Kit) → ℕ → List ℕ → Walked K.Item
walk K zero s = record { items = []; end = tail s }
walk K (suc f) s = next (K.step s) s (λ a. walk K f (drop (K.size a) s))

-- what is handed back: the count, the place after the last item, the table and the bytes that are left; or a refusal
pub data Out (T : Type 0) : Type 0 where
  good : ℕ → ℕ → List T → List ℕ → Out T
  refused : Refusal → Out T

-- a fault that was found from a place on
abbrev pub from : ℕ → Refusal → Refusal
from at r = record { number = r.number; place = at + r.place; missing = r.missing }

abbrev pub ending : {T : Type 0} → ℕ → ℕ → List T → End → Out T
ending n at table (tail z) = good n at table z
ending n at table (fault r) = refused (from at r)

-- the items put into the table from entry n on; one more than the table holds is refused at its own place
unfoldable pub fill : (K : Kit) → ℕ → ℕ → List K.Entry → List K.Item → End → Out K.Entry
fill K n at table [] e = ending n at table e
fill K n at table (a ∷ l) e =
    pick (leb K.limit n) (refused (refusal Number.TooMany at))
    (fill K (n + 1) (at + K.size a) (set table n (K.entry at a)) l e)

-- the walk resumed with n items in the table: at most f more, from a place of s on
abbrev pub resume : (K : Kit) → ℕ → ℕ → ℕ → List K.Entry → List ℕ → Out K.Entry
resume K f n at table s = fill K n at table (walk K f (drop at s)).items (walk K f (drop at s)).end

-- the walk of at most f items from a place of s on
abbrev pub read_from : (K : Kit) → ℕ → ℕ → List ℕ → Out K.Entry
read_from K f at s = resume K f 0 at (replicate K.limit K.none) s

-- the good answer that shows items and what is left after them; entries past the count are unused
abbrev pub shows : (K : Kit) → ℕ → List K.Item → List ℕ → Out K.Entry
shows K at l z =
    good (length l) (end_from K.size at l)
    (shown_from K.size K.entry at l ++ replicate (K.limit - length l) K.none) z
