-- The header of a message that conforms to RFC 7854 is read, and shown. Assumes nothing.
use mathlib.Core.Path.{◌≡◌, refl}
use mathlib.Core.List.{List, ◌++◌}
use Prim.Native.Nat.{ℕ, ◌^◌, ◌≤◌, ◌<◌}
use native.Mathlib.Omega.{arith}
use lib.ListN.{length}
use Rattle.wire.specs.Number as Number
use Rattle.wire.specs.Bytes.{be, Bytes}
use Rattle.wire.specs.Exactly.{Shows}
use Rattle.wire.proofs.Bytes.{bytes_append}
use Rattle.wire.proofs.Exactly.{shows_good}
use Rattle.common_header.specs.Grammar.{join, AnyType, Good}
use Rattle.common_header.specs.Read.{reader}
use Rattle.common_header.specs.Rfc.{Message, message_length, bytes, Conforms, reading}
use Rattle.common_header.proofs.Promises.{complete}

-- whatever its type is
pub reading_any : (m : Message) → m.kind < 256 → message_length m < 256 ^ 4 → Bytes m.body → (rest : List ℕ) → Bytes rest → AnyType (reading m rest)
reading_any m kind long body rest rest-bytes =
    record { version_is = refl; length_fits = long; kind_fits = kind; tail_bytes = bytes_append body rest-bytes }

reading_good : (m : Message) → Conforms m → (rest : List ℕ) → Bytes rest → Good (reading m rest)
reading_good m c rest rest-bytes =
    record { any-type = reading_any m (omega (arith, c.type-known)) c.length_fits c.body_bytes rest rest-bytes; kind_known = c.type-known }

pub reading_joined : (m : Message) (rest : List ℕ) → join (reading m rest) ≡ bytes m ++ rest
unfolding be
reading_joined m rest = refl

-- The header of a conforming message is shown, whatever follows the message.
pub conforming_shown : (m : Message) → Conforms m → (rest : List ℕ) → Bytes rest → length (bytes m ++ rest) ≤ Number.limit
    → Shows reader (bytes m ++ rest) (reading m rest)
conforming_shown m c rest rest-bytes limit =
    shows_good reader complete (reading m rest) (reading_good m c rest rest-bytes) tt (bytes m ++ rest) (reading_joined m rest) limit
