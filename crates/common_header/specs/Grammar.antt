-- The common header of every BMP message (RFC 7854, section 4.1), and then whatever follows it:
--
--     version   1 byte    3
--     length    4 bytes   of the whole message, this header included; any number is good here
--     type      1 byte    0 Route Monitoring, 1 Statistics Report, 2 Peer Down, 3 Peer Up, 4 Initiation, 5 Termination,
--                         6 Route Mirroring; others are not known
--     tail                what follows the header
use Rattle.std.specs.Prelude.{ℕ, ◌^◌, ◌≤◌, ◌<◌, ◌≡◌, List, ◌++◌}
use Rattle.wire.specs.Bytes.{be, Bytes}
use Rattle.wire.specs.Exactly.{Grammar, no_table, Nothing, skips_nothing}

pub record Reading : Type 0 where
  pub version : ℕ
  pub length : ℕ
  pub kind : ℕ
  pub tail : List ℕ

abbrev pub join : Reading → List ℕ
join r = be 1 r.version ++ (be 4 r.length ++ (be 1 r.kind ++ r.tail))

-- a header of any type
pub record AnyType (r : Reading) : Type 0 where
  pub version_is : r.version ≡ 3
  pub length_fits : r.length < 256 ^ 4
  pub kind_fits : r.kind < 256
  pub tail_bytes : Bytes r.tail

-- a header of a known type
pub record Good (r : Reading) : Type 0 where
  pub any-type : AnyType r
  pub kind_known : r.kind ≤ 6

-- the grammar of the headers of which G holds; there is no table, and nothing is skipped
abbrev pub grammar_of : (Reading → Type 0) → Grammar
grammar_of G =
    record {
      Reading = Reading;
      join = join;
      Good = G;
      Fits = no_table;
      Skipped = Nothing;
      skipped = skips_nothing;
      tail = λ r. r.tail;
    }

abbrev pub any_type : Grammar
any_type = grammar_of AnyType

abbrev pub grammar : Grammar
grammar = grammar_of Good
