-- The reading that an answer tells: its header, and the tail.
use Rattle.std.specs.Prelude.{ℕ, List}
use Rattle.wire.specs.Exactly.{Nothing}
use Rattle.wire.specs.declared.View.{View}
use Rattle.common_header.specs.Grammar.{Reading}
use Rattle.common_header.specs.Fields.{reading_from}
use Rattle.common_header.specs.Shown.{CommonHeaderAnswer, fields_from, header_of}

abbrev pub told : (View → List ℕ) → CommonHeaderAnswer → Nothing → List ℕ → Reading
told look a x tail = reading_from (fields_from (header_of a)) tail
