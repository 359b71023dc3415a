-- The messages of a stream, which the splitter takes off it one after the other.
use Rattle.std.specs.Prelude.{ℕ, List, ◌++◌, Ok, Err}
use Rattle.wire.specs.Parts.{join_all}
use Rattle.wire.specs.View.{viewed}
use Rattle.wire.specs.Walk.{Step, bad, item, Kit}
use Rattle.common_header.specs.Shown.{fields_from}
use Rattle.common_header.specs.declared.BmpCommonHeader.{BmpCommonHeader}
use Rattle.common_header.specs.declared.CommonFields.{CommonFields}
use Rattle.splitter.specs.Shown.{SplitAnswer}
use Rattle.splitter.specs.declared.Split.{Split}

-- a message that was split off, with all of its bytes: of a known type with its common header, or skipped, with the fields of the header
pub data Message : Type 0 where
  known : BmpCommonHeader → List ℕ → Message
  skipped : CommonFields → List ℕ → Message

abbrev pub fields_of : Message → CommonFields
fields_of (known h b) = fields_from h
fields_of (skipped f b) = f

abbrev pub length_of : Message → ℕ
length_of m = (fields_of m).msg_len

abbrev pub bytes_of : Message → List ℕ
bytes_of (known h b) = b
bytes_of (skipped f b) = b

-- the bytes of messages one after the other, and then those behind them
abbrev pub joined : List Message → List ℕ → List ℕ
joined l z = join_all (λ (m : Message) (r : List ℕ). bytes_of m ++ r) l z

-- what the splitter's answer makes of the bytes s: a message at their front, or a fault
abbrev pub as_step : List ℕ → SplitAnswer → Step Message
as_step s (Ok (Split.Message h v)) = item (known h (viewed s v))
as_step s (Ok (Split.Skipped f v)) = item (skipped f (viewed s v))
as_step s (Err r) = bad r

-- a walk over messages, by what stands at the front of some bytes; it fills no table
abbrev pub messages_by : (List ℕ → Step Message) → Kit
messages_by step =
    record {
      Item = Message;
      Entry = Unit {0};
      step = step;
      size = length_of;
      entry = λ at m. tt;
      none = tt;
      limit = 0;
    }
