use mathlib.Core.Path.{refl, ◌∙◌}
use mathlib.Core.List.{[], ◌∷◌, ◌++◌}
use Prim.Native.Nat.{◌+◌}
use Rattle.decimal.specs.Decimal.{decimal}
use Rattle.listing.specs.Text.{ascii, refused_line, end_line}
use Rattle.listing.proofs.Puts.{put_ends, then, field_then}
use Rattle.listing.proofs.put_refusal.Goals as goal

pub returns-clause-puts : goal.returns-clause-puts
returns-clause-puts c =
    let both = let a = c.args in
    let number = decimal a.number in
    then a.out.now c.put_field-after_number.new.out c.put_end_line.new.out (refused_line a.place a.number) (end_line a.place) a.at c.put_field-after_number.result c.put_end_line.result (c.put_field-after_number.auto.out ∙ c.put_bytes.auto.out ∙ c.put_field-after_place.auto.out)
    (field_then a.out.now c.put_field-after_place.new.out c.put_field-after_number.new.out (decimal a.place) 32 (ascii "- - " ++ (number ++ (10 ∷ []))) a.at c.put_field-after_place.result c.put_field-after_number.result c.put_field-after_place.auto.out (c.put_field-after_place.ensures.value, c.put_field-after_place.ensures.puts)
    (then c.put_field-after_place.new.out c.put_bytes.new.out c.put_field-after_number.new.out (ascii "- - ") (number ++ (10 ∷ [])) c.put_field-after_place.result (c.put_field-after_place.result + 4) c.put_field-after_number.result c.put_bytes.auto.out
    (put_ends c.put_field-after_place.new.out c.put_bytes.new.out (ascii "- - ") c.put_field-after_place.result (c.put_field-after_place.result + 4) refl c.put_bytes.ensures)
    (c.put_field-after_number.ensures.value, c.put_field-after_number.ensures.puts)))
    (c.put_end_line.ensures.value, c.put_end_line.ensures.puts) in both.1
