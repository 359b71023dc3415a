-- A walk over the items of a body, as the code goes it: the walk of wire's definitions, its entries put into a lent table.
use Rattle.std.specs.Prelude.{ℕ, ◌+◌, ◌≡◌, List, [], ◌∷◌, length, drop, set, leb, ltb, Result, Ok, Err}
use Rattle.wire.specs.Bytes.{pick}
use Rattle.wire.specs.Refusal.{refusal}
use Rattle.wire.specs.Number as Number
use Rattle.wire.specs.Walk as Wire
use Rattle.wire.specs.Walk.{stop, bad, item, from, walk, Kit, Out, good, refused, resume}
use Rattle.wire.specs.declared.Refusal.{Refusal}
use Rattle.cursor.specs.Read.{cursor}
use Rattle.walk.specs.declared.Step.{Step}
use Rattle.walk.specs.declared.Step.TheVariants.{Stop, Whole}
use Rattle.walk.specs.declared.Walked.{Walked}

-- the kit of a walk by its parts
abbrev pub kit_of : (I E : Type 0) → (List ℕ → Wire.Step I) → (I → ℕ) → (ℕ → I → E) → E → ℕ → Kit
kit_of I E step size entry none limit = record { Item = I; Entry = E; step = step; size = size; entry = entry; none = none; limit = limit }

-- what stands at a place, as the code answers it: the place where the walk stops, which may lie behind the head of what is not whole; a fault; or
-- the entry that shows the item there, and the cursor past it
abbrev pub step_of : {I E : Type 0} → (ℕ → I → E) → (I → ℕ) → (ℕ → List ℕ → ℕ) → ℕ → List ℕ → Wire.Step I → Result (Step E) Refusal
step_of entry size stop_at at s stop = Ok (Stop (stop_at at s))
step_of entry size stop_at at s (bad r) = Err (from at r)
step_of entry size stop_at at s (item t) = Ok (Whole (entry at t) (cursor (at + size t)))

-- an answer and the table, as what a walk hands back
abbrev pub handed : {E : Type 0} → List ℕ → Result Walked Refusal → List E → Out E
handed s (Ok w) table = good w.count w.end table (drop w.end s)
handed s (Err r) table = refused r

-- where a good answer says that the walk stopped: behind the last item, where it was to find no more
abbrev pub StopsAt : (ℕ → List ℕ → ℕ) → ℕ → List ℕ → Result Walked Refusal → Type 0
StopsAt stop_at most s (Ok w) = w.stop ≡ pick (ltb w.count most) (stop_at w.end (drop w.end s)) w.end
StopsAt stop_at most s (Err r) = Unit {0}

-- a walk of at most so many items from a place of s on, into a table
abbrev pub outcome : (K : Kit) → ℕ → ℕ → List K.Entry → List ℕ → Out K.Entry
outcome K most start table s = pick (ltb Number.limit (length s)) (refused (refusal Number.TooLong 0)) (resume K most 0 start table s)

-- the entries of these items put into the table from entry n on, as far as it goes
unfoldable pub filled : (K : Kit) → ℕ → ℕ → List K.Entry → List K.Item → List K.Entry
filled K n at table [] = table
filled K n at table (a ∷ l) =
    pick (leb K.limit n) table (filled K (n + 1) (at + K.size a) (set table n (K.entry at a)) l)

-- the table that a walk leaves, also where it is refused: the entries of all items in front of its end
abbrev pub left_in : (K : Kit) → ℕ → ℕ → List K.Entry → List ℕ → List K.Entry
left_in K most start table s =
    pick (ltb Number.limit (length s)) table (filled K 0 start table (walk K most (drop start s)).items)

-- what a walk answers, with the table as it leaves it, and where a good answer says that it stopped
pub record Walks (K : Kit) (stop_at : ℕ → List ℕ → ℕ) (most start : ℕ) (s : List ℕ) (old : List K.Entry) (r : Result Walked Refusal) (new : List K.Entry) : Type 0 where
  pub handed_back : handed s r new ≡ outcome K most start old s
  pub stops : StopsAt stop_at most s r

-- the same, and what it leaves of the table where it refuses
pub record WalksAndLeaves (K : Kit) (stop_at : ℕ → List ℕ → ℕ) (most start : ℕ) (s : List ℕ) (old : List K.Entry) (r : Result Walked Refusal) (new : List K.Entry) : Type 0 where
  pub handed_back : handed s r new ≡ outcome K most start old s
  pub leaves : new ≡ left_in K most start old s
  pub stops : StopsAt stop_at most s r
