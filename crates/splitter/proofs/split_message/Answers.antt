use mathlib.Core.Path.{sym, ap, ◌∙◌}
use Rattle.common_header.specs.Fields.{CommonFieldsAnswer, refusal_of}
use Rattle.common_header.proofs.Laws.{accepted}
use Rattle.splitter.proofs.split_message.Goals as goal

pub judge-requires : goal.judge-requires
judge-requires c =
    let is_good = ap (λ (a : CommonFieldsAnswer). (refusal_of a).number) (sym c.parse_common_fields.ensures ∙ c.in_ok-parse_common_fields.was) in
    (accepted c.args.s.now is_good).long
