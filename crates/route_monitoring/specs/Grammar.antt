-- The body of a Route Monitoring message (RFC 7854, section 4.6): one BGP message, by RFC 4271, section 4.1:
--
--     marker   16 bytes   any
--     length    2 bytes   which it gives for itself; any number is good here
--     type      1 byte    any
--     rest                all that follows, to the body's end
--
-- A BGP message stays bytes, so nothing of it but its header is asked for. There is no tail.
use Rattle.std.specs.Prelude.{ℕ, ◌^◌, ◌<◌, List, ◌++◌, []}
use Rattle.wire.specs.Bytes.{be, Bytes, Octets}
use Rattle.wire.specs.Exactly.{Grammar, no_table, Nothing, skips_nothing}

pub record Reading : Type 0 where
  pub marker : List ℕ
  pub size : ℕ
  pub kind : ℕ
  pub rest : List ℕ

abbrev pub join : Reading → List ℕ
join r = r.marker ++ (be 2 r.size ++ (be 1 r.kind ++ r.rest))

pub record Good (r : Reading) : Type 0 where
  pub marker_fits : Octets 16 r.marker
  pub size_fits : r.size < 256 ^ 2
  pub kind_fits : r.kind < 256 ^ 1
  pub rest-bytes : Bytes r.rest

-- the grammar; there is no table
abbrev pub grammar : Grammar
grammar =
    record {
      Reading = Reading;
      join = join;
      Good = Good;
      Fits = no_table;
      Skipped = Nothing;
      skipped = skips_nothing;
      tail = λ r. [];
    }
