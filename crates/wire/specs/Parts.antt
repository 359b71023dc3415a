-- Items one after the other, and then a tail: what every grammar of a list of items shares. Nothing here takes an input apart.
use Rattle.std.specs.Prelude.{ℕ, ◌+◌, List, [], ◌∷◌, map, take}

-- `put a r` are the bytes of the item a, and then r
abbrev pub join_all : {A : Type 0} → (A → List ℕ → List ℕ) → List A → List ℕ → List ℕ
join_all put [] z = z
join_all put (a ∷ l) z = put a (join_all put l z)

-- each item is good in front of what follows it
abbrev pub EachGood : {A : Type 0} → (A → List ℕ → List ℕ) → (A → List ℕ → Type 0) → List A → List ℕ → Type 0
EachGood put G [] z = Unit {0}
EachGood put G (a ∷ l) z = G a (join_all put l z) × EachGood put G l z

-- the items as a table shows them, the first of them at a place
abbrev pub shown_from : {A T : Type 0} → (A → ℕ) → (ℕ → A → T) → ℕ → List A → List T
shown_from size entry at [] = []
shown_from size entry at (a ∷ l) = entry at a ∷ shown_from size entry (at + size a) l

-- and back: the items that the first n entries of a table tell
abbrev pub items_in : {A T : Type 0} → (T → A) → ℕ → List T → List A
items_in item n table = map item (take n table)

-- the place after the last of them
abbrev pub end_from : {A : Type 0} → (A → ℕ) → ℕ → List A → ℕ
end_from size at [] = at
end_from size at (a ∷ l) = end_from size (at + size a) l

-- P holds of each item and its place
abbrev pub AllAt : {A : Type 0} → (A → ℕ) → (ℕ → A → Type 0) → ℕ → List A → Type 0
AllAt size P at [] = Unit {0}
AllAt size P at (a ∷ l) = P at a × AllAt size P (at + size a) l
