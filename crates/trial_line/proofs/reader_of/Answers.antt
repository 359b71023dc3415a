use Rattle.std.proofs.Common.{◌≡◌, ◌∙◌, List, ℕ, refl, eqb, rules, tests}
use Rattle.std.specs.Cmp.Lexicographic.{pointwise}
use denote.Ref.{Bor}
use Rattle.trial_forms.specs.declared.Kind.{Kind}
use Rattle.std.specs.Option.{option_map}
use Rattle.std.specs.Slice.Iter.{iter_rest}
use Rattle.std.proofs.lemmas.Iterator.{YieldsList-from_slice}
use Rattle.std.proofs.lemmas.Iterator.Search.{find_from_yields_List}
use Rattle.trial_line.specs.Line.{readers, reader_of}
use Rattle.trial_line.proofs.Laws.{equal_is, row_found}
use Rattle.trial_line.proofs.reader_of.Goals as goal

pub returns : goal.returns
unfolding reader_of
returns c =
    let first = find_from_yields_List (λ row. pointwise eqb c.args.text.now row.0.now) _ _ c.find.result c.find.ensures.ran (YieldsList-from_slice _ c.iter.ensures.rest) (λ x b q k. search (rules, tests)) in
    let mapped : c.map.result ≡ option_map (λ (x : Bor (Bor (List ℕ) × Kind)). x.now.1) c.find.result = search rules in
    mapped ∙ row_found (iter_rest c.iter.result) c.iter.ensures.rest (λ row. pointwise eqb c.args.text.now row.0.now) (λ row. row.1) c.args.text.now readers (equal_is c.args.text.now _, refl, (equal_is c.args.text.now _, refl, (equal_is c.args.text.now _, refl, (equal_is c.args.text.now _, refl, (equal_is c.args.text.now _, refl, (equal_is c.args.text.now _, refl, (equal_is c.args.text.now _, refl, (equal_is c.args.text.now _, refl, (equal_is c.args.text.now _, refl, (equal_is c.args.text.now _, refl, tt)))))))))) c.find.result first
