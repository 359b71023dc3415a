-- What the reader answers, for every input.
use Rattle.std.specs.Prelude.{ℕ, List, [], ◌∷◌, ltb, Ok, Err}
use Rattle.wire.specs.Number as Number
use Rattle.wire.specs.Bytes.{pick}
use Rattle.wire.specs.Refusal.{refusal}
use Rattle.wire.specs.Exactly.{Reader}
use Rattle.common_header.specs.Grammar.{grammar}
use Rattle.common_header.specs.Fields.{CommonFieldsAnswer, read_common_fields}
use Rattle.common_header.specs.Shown.{CommonHeaderAnswer, good_answer, shown, refusal_of, stop_of}
use Rattle.common_header.specs.Told.{told}
use Rattle.common_header.specs.declared.CommonFields.{CommonFields}

-- the header of some fields, where their type is known
abbrev pub judged : CommonFields → CommonHeaderAnswer
judged f = pick (ltb 6 f.kind) (Err (refusal Number.UnknownKind 5)) (good_answer f)

abbrev pub after_fields : CommonFieldsAnswer → CommonHeaderAnswer
after_fields (Ok f) = judged f
after_fields (Err r) = Err r

abbrev pub read_common_header : List ℕ → CommonHeaderAnswer
read_common_header s = after_fields (read_common_fields s)

-- the numbers that it refuses with
abbrev pub numbers : List ℕ
numbers = Number.TooLong ∷ Number.Cut ∷ Number.BadVersion ∷ Number.UnknownKind ∷ []

-- the reader, and the grammar that it is held against
abbrev pub reader : Reader
reader =
    record {
      grammar = grammar;
      Answer = CommonHeaderAnswer;
      read = read_common_header;
      shown = shown;
      tail_at = stop_of;
      told = told;
      refused = Err;
      refusal_of = refusal_of;
      numbers = numbers;
    }
