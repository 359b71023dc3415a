-- What the splitter answers, for every input.
use Rattle.std.specs.Prelude.{ℕ, ◌-◌, List, [], ◌∷◌, length, ltb, Ok, Err}
use Rattle.wire.specs.Number as Number
use Rattle.wire.specs.Bytes.{pick}
use Rattle.wire.specs.Refusal.{refusal, lacking}
use Rattle.wire.specs.View.{view}
use Rattle.wire.specs.Exactly.{Reader}
use Rattle.common_header.specs.Fields.{CommonFieldsAnswer, read_common_fields}
use Rattle.common_header.specs.declared.CommonFields.{CommonFields}
use Rattle.splitter.specs.Told as Told
use Rattle.splitter.specs.Grammar.{grammar}
use Rattle.splitter.specs.Shown.{SplitAnswer, handed_out, shown, refusal_of, stop_of}

-- the fields of a header in an input of this length: the length is 6 to the limit, and so many bytes are there; where there are fewer, the rest is
-- missing. The type has no say in it
abbrev pub judged : ℕ → CommonFields → SplitAnswer
judged there f =
    pick (ltb f.msg_len 6) (Err (refusal Number.BadMessageLength 1))
    (pick (ltb Number.limit f.msg_len) (Err (refusal Number.TooLong 1))
    (pick (ltb there f.msg_len) (Err (lacking 6 (f.msg_len - there))) (handed_out f (view 0 f.msg_len))))

-- the refusals of the header's fields come first
abbrev pub after_fields : ℕ → CommonFieldsAnswer → SplitAnswer
after_fields there (Ok f) = judged there f
after_fields there (Err r) = Err r

abbrev pub split_of : List ℕ → SplitAnswer
split_of s = after_fields (length s) (read_common_fields s)

-- the numbers that it refuses with
abbrev pub numbers : List ℕ
numbers = Number.TooLong ∷ Number.Cut ∷ Number.BadVersion ∷ Number.BadMessageLength ∷ []

-- the reader, and the grammar that it is held against
abbrev pub reader : Reader
reader =
    record {
      grammar = grammar;
      Answer = SplitAnswer;
      read = split_of;
      shown = shown;
      tail_at = stop_of;
      told = Told.told;
      refused = Err;
      refusal_of = refusal_of;
      numbers = numbers;
    }
