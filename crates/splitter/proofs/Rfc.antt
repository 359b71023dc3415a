-- A message that conforms to RFC 7854 is split off whole, and one that a receiver ignores is skipped whole. Assumes nothing.
use mathlib.Core.Path.{◌≡◌, refl, ◌∙◌}
use mathlib.Core.List.{List, ◌++◌}
use Prim.Native.Nat.{ℕ, ◌≤◌, ◌<◌}
use native.Mathlib.Omega.{arith}
use borrow.Author.Tests.{lt-ltb, le-ltb}
use lib.ListN.{length, length-append}
use Rattle.std.specs.declared.result.Result.TheVariants.{Ok}
use Rattle.wire.specs.Number as Number
use Rattle.wire.specs.Bytes.{be, Bytes}
use Rattle.wire.specs.Exactly.{Shows}
use Rattle.wire.specs.View.{view}
use Rattle.wire.proofs.Exactly.{shows_good}
use Rattle.common_header.specs.Rfc.{Message, message_length, bytes, Conforms}
use Rattle.common_header.specs.Shown.{header_from}
use Rattle.common_header.proofs.Rfc.{reading_joined, reading_any}
use Rattle.splitter.specs.Read.{split_of, reader}
use Rattle.splitter.specs.Rfc.{Ignored, reading, fields}
use Rattle.splitter.specs.declared.Split.{Split}
use Rattle.splitter.proofs.Promises.{complete}

bytes_long : (m : Message) → length (bytes m) ≡ message_length m
unfolding be
bytes_long m = omega arith

-- whatever its type is, and whatever follows it
module _ (m : Message) (kind : m.kind < 256) (body : Bytes m.body) (rest : List ℕ) (rest-bytes : Bytes rest) (limit : length (bytes m ++ rest) ≤ Number.limit) where
  shows : Shows reader (bytes m ++ rest) (reading m rest)
  shows =
      let short : message_length m ≤ Number.limit = omega (arith, limit, bytes_long m, length-append (bytes m) rest) in
      shows_good reader complete (reading m rest)
      (record { any-type = reading_any m kind (omega (arith, short)) body rest rest-bytes; length_is = refl; short_enough = short }) tt (bytes m ++ rest)
      (reading_joined m rest) limit

-- A conforming message is split off whole, whatever follows it, with its header.
pub conforming_shown : (m : Message) → Conforms m → (rest : List ℕ) → Bytes rest → length (bytes m ++ rest) ≤ Number.limit
    → Shows reader (bytes m ++ rest) (reading m rest)
    × (split_of (bytes m ++ rest) ≡ Ok (Split.Message (header_from (fields m)) (view 0 (message_length m))))
conforming_shown m c rest rest-bytes limit =
    let x = shows m (omega (arith, c.type-known)) c.body_bytes rest rest-bytes limit in
    (x, x.shown_so ∙ rw (le-ltb 6 m.kind c.type-known))

-- A message of another type is skipped whole, whatever it holds and whatever follows it, with its type and length.
pub ignored_skipped : (m : Message) → Ignored m → (rest : List ℕ) → Bytes rest → length (bytes m ++ rest) ≤ Number.limit
    → Shows reader (bytes m ++ rest) (reading m rest)
    × (split_of (bytes m ++ rest) ≡ Ok (Split.Skipped (fields m) (view 0 (message_length m))))
ignored_skipped m i rest rest-bytes limit =
    let x = shows m i.type_fits i.body_bytes rest rest-bytes limit in
    (x, x.shown_so ∙ rw (lt-ltb 6 m.kind i.type_unknown))
