-- RFC 7854, section 4.1: every BMP message begins with a common header.
--
--     Version          1 byte    3
--     Message Length   4 bytes   of the whole message, this header included
--     Message Type     1 byte    0 Route Monitoring, 1 Statistics Report, 2 Peer Down, 3 Peer Up, 4 Initiation, 5 Termination,
--                                6 Route Mirroring. A receiver ignores messages of other types
use Rattle.std.specs.Prelude.{ℕ, ◌+◌, ◌^◌, ◌≤◌, ◌<◌, List, ◌++◌, length}
use Rattle.wire.specs.Bytes.{be, Bytes}
use Rattle.common_header.specs.Grammar.{Reading}

pub record Message : Type 0 where
  pub kind : ℕ
  pub body : List ℕ

abbrev pub message_length : Message → ℕ
message_length m = 6 + length m.body

abbrev pub bytes : Message → List ℕ
bytes m = be 1 3 ++ (be 4 (message_length m) ++ (be 1 m.kind ++ m.body))

pub record Conforms (m : Message) : Type 0 where
  pub type-known : m.kind ≤ 6
  pub length_fits : message_length m < 2 ^ 32
  pub body_bytes : Bytes m.body

-- ---- what the plain reading makes of it and of what follows it: body and rest are the header's tail
abbrev pub reading : Message → List ℕ → Reading
reading m rest = record { version = 3; length = message_length m; kind = m.kind; tail = m.body ++ rest }
