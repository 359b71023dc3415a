-- A message is that of common_header's `Rfc`. RFC 7854, section 4.1, has a receiver ignore messages of types that it does not recognize.
use Rattle.std.specs.Prelude.{List, ℕ, ◌<◌}
use Rattle.wire.specs.Bytes.{Bytes}
use Rattle.common_header.specs.Rfc.{Message, message_length}
use Rattle.common_header.specs.declared.CommonFields.{CommonFields}
use Rattle.splitter.specs.Grammar.{Reading}

-- a message that is ignored: its type is none of the seven, and what it holds is not asked
pub record Ignored (m : Message) : Type 0 where
  pub type_unknown : 6 < m.kind
  pub type_fits : m.kind < 256
  pub body_bytes : Bytes m.body

-- ---- what the plain reading makes of a message on a stream, where other bytes follow it
abbrev pub reading : Message → List ℕ → Reading
reading m rest = record { version = 3; length = message_length m; kind = m.kind; body = m.body; rest = rest }

abbrev pub fields : Message → CommonFields
fields m = record { version = 3; msg_len = message_length m; kind = m.kind }
