use mathlib.Core.List.{[], ◌∷◌, ◌++◌}
use Rattle.decimal.specs.Decimal.{decimal}
use Rattle.listing.specs.Text.{answer_text}
use Rattle.listing.proofs.Puts.{field_then}
use Rattle.listing.proofs.put_message_line.Goals as goal

pub returns-clause-puts : goal.returns-clause-puts
returns-clause-puts c =
    let both = let a = c.args in
    let kind = decimal a.row.kind in
    let msg-len = decimal a.row.msg_len in
    let answer = answer_text a.row.answer in
    field_then a.out.now c.put_field-after_place.new.out c.put_answer.new.out (decimal a.place) 32 (kind ++ (32 ∷ (msg-len ++ (32 ∷ (answer ++ (10 ∷ [])))))) a.at c.put_field-after_place.result c.put_answer.result c.put_field-after_place.auto.out (c.put_field-after_place.ensures.value, c.put_field-after_place.ensures.puts)
    (field_then c.put_field-after_place.new.out c.put_field-after_kind.new.out c.put_answer.new.out kind 32 (msg-len ++ (32 ∷ (answer ++ (10 ∷ [])))) c.put_field-after_place.result c.put_field-after_kind.result c.put_answer.result c.put_field-after_kind.auto.out (c.put_field-after_kind.ensures.value, c.put_field-after_kind.ensures.puts)
    (field_then c.put_field-after_kind.new.out c.put_field-after_length.new.out c.put_answer.new.out msg-len 32 (answer ++ (10 ∷ [])) c.put_field-after_kind.result c.put_field-after_length.result c.put_answer.result c.put_field-after_length.auto.out (c.put_field-after_length.ensures.value, c.put_field-after_length.ensures.puts)
    (c.put_answer.ensures.value, c.put_answer.ensures.puts))) in both.1
