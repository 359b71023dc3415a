-- The body of a Peer Down notification (RFC 7854, section 4.9; reason 6 is RFC 9069's, section 5.3):
--
--     reason   1 byte   and then its data:
--                       0  reserved                                  the rest, where there is one
--                       1  local close, a NOTIFICATION follows       the rest, possibly empty
--                       2  local close, an FSM event follows         the rest, possibly empty
--                       3  remote close, a NOTIFICATION follows      the rest, possibly empty
--                       4  remote close, nothing follows             none
--                       5  no longer monitored                       none
--                       6  local close, TLVs follow (Loc-RIB)        the rest, possibly empty
--     tail              what follows a reason without data
use Rattle.std.specs.Prelude.{ℕ, ◌<◌, ◌≡◌, List, [], ◌++◌, ◌⊎◌, length}
use Rattle.wire.specs.Bytes.{be, Bytes}
use Rattle.wire.specs.Exactly.{Grammar, no_table, Nothing, skips_nothing}

pub data Data : Type 0 where
  absent : Data
  present : List ℕ → Data

pub record Reading : Type 0 where
  pub reason : ℕ
  pub data_part : Data
  pub tail : List ℕ

abbrev pub data_bytes : Data → List ℕ
data_bytes absent = []
data_bytes (present b) = b

abbrev pub join : Reading → List ℕ
join r = be 1 r.reason ++ (data_bytes r.data_part ++ r.tail)

-- the reasons that data follows, and those that nothing follows
abbrev pub WithData : ℕ → Type 0
WithData n = (n ≡ 1) ⊎ ((n ≡ 2) ⊎ ((n ≡ 3) ⊎ (n ≡ 6)))

abbrev pub WithoutData : ℕ → Type 0
WithoutData n = (n ≡ 4) ⊎ (n ≡ 5)

-- the data and the tail that may stand after a reason
pub data Follows (reason : ℕ) : Data → List ℕ → Type 0 where
  the_rest : WithData reason → (b : List ℕ) → Follows reason (present b) []
  some_rest : reason ≡ 0 → (b : List ℕ) → 0 < length b → Follows reason (present b) []
  no_rest : reason ≡ 0 → Follows reason absent []
  no_data : WithoutData reason → (z : List ℕ) → Follows reason absent z

pub record Good (r : Reading) : Type 0 where
  pub follows : Follows r.reason r.data_part r.tail
  pub data-bytes : Bytes (data_bytes r.data_part)
  pub tail_bytes : Bytes r.tail

-- the grammar; there is no table
abbrev pub grammar : Grammar
grammar =
    record {
      Reading = Reading;
      join = join;
      Good = Good;
      Fits = no_table;
      Skipped = Nothing;
      skipped = skips_nothing;
      tail = λ r. r.tail;
    }
