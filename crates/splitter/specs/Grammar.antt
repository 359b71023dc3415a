-- The first message of a BMP stream (RFC 7854, section 4.1), and then the rest of the stream:
--
--     version, length, type   the common header, 6 bytes, of any type
--     body                    so many bytes that header and body have the header's length
--     rest                    what follows the message
use Rattle.std.specs.Prelude.{ℕ, ◌+◌, ◌≤◌, ◌≡◌, List, ◌++◌, length}
use Rattle.wire.specs.Number as Number
use Rattle.wire.specs.Exactly.{Grammar, no_table, Nothing, skips_nothing}
use Rattle.common_header.specs.Grammar as Header

pub record Reading : Type 0 where
  pub version : ℕ
  pub length : ℕ
  pub kind : ℕ
  pub body : List ℕ
  pub rest : List ℕ

-- its common header, with all that follows it
abbrev pub header_of : Reading → Header.Reading
header_of r = record { version = r.version; length = r.length; kind = r.kind; tail = r.body ++ r.rest }

abbrev pub join : Reading → List ℕ
join r = Header.join (header_of r)

pub record Good (r : Reading) : Type 0 where
  pub any-type : Header.AnyType (header_of r)
  pub length_is : r.length ≡ 6 + length r.body
  pub short_enough : r.length ≤ Number.limit

-- the grammar; there is no table
abbrev pub grammar : Grammar
grammar =
    record {
      Reading = Reading;
      join = join;
      Good = Good;
      Fits = no_table;
      Skipped = Nothing;
      skipped = skips_nothing;
      tail = λ r. r.rest;
    }
