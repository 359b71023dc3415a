-- The reading that an answer tells: its header's fields, the body in the message that its view shows, and the rest of the stream.
use Rattle.std.specs.Prelude.{ℕ, List, drop}
use Rattle.wire.specs.Exactly.{Nothing}
use Rattle.wire.specs.declared.View.{View}
use Rattle.splitter.specs.Grammar.{Reading}
use Rattle.splitter.specs.Shown.{SplitAnswer, message_of, fields_in}

abbrev pub told : (View → List ℕ) → SplitAnswer → Nothing → List ℕ → Reading
told look a x tail =
    record {
      version = (fields_in a).version;
      length = (fields_in a).msg_len;
      kind = (fields_in a).kind;
      body = drop 6 (look (message_of a));
      rest = tail;
    }
