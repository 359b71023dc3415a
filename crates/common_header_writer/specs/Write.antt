-- What the writer writes: the reading of a header, by the grammar's own parts; and which headers are writable.
use Rattle.std.specs.Prelude.{ℕ, ◌^◌, Bool, false, List, [], ltb, eqb}
use Rattle.wire.specs.Bytes.{pick}
use Rattle.common_header.specs.Grammar.{Reading, join}
use Rattle.common_header.specs.Shown.{kind_of}
use Rattle.common_header.specs.declared.BmpCommonHeader.{BmpCommonHeader}

abbrev pub reading_of : BmpCommonHeader → Reading
reading_of h = record { version = h.version; length = h.msg_len; kind = kind_of h.msg_type; tail = [] }

abbrev pub bytes_of : BmpCommonHeader → List ℕ
bytes_of h = join (reading_of h)

-- version 3, and a length of four bytes
abbrev pub writable : BmpCommonHeader → Bool
writable h = pick (eqb h.version 3) (ltb h.msg_len (256 ^ 4)) false
