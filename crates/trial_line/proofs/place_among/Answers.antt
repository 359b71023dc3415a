use Rattle.std.proofs.Common.{◌∙◌, ap, ℕ, ◌/◌, List, length, rules, tests}
use Rattle.std.specs.List.{position}
use Rattle.std.proofs.lemmas.Iterator.Search.{position_from_yields_List}
use Rattle.trial_line.proofs.Laws.{has_word, cells, cells_given, word_found}
use Rattle.trial_line.proofs.place_among.Goals as goal

pub returns : goal.returns
returns c =
    let first = position_from_yields_List (has_word c.args.text.now) _ _ c.position.result c.position.ensures.ran (cells_given c.chunks_exact.ensures.size) (λ x b q k. search (rules, tests)) in
    let found = first ∙ ap (λ (w : List ℕ). position (has_word c.args.text.now) (cells (length w / 14) w)) c.chunks_exact.ensures.rest in
    c.unwrap_or.ensures ∙ word_found (length c.args.words.now / 14) c.args.words.now c.args.text.now c.position.result found
