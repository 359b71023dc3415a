use Rattle.std.proofs.Common.{◌∙◌, sym, eqb, rules, tests}
use Rattle.std.proofs.lemmas.Iterator.{YieldsList-from_slice}
use Rattle.std.proofs.lemmas.Iterator.Search.{position_from_yields_List}
use Rattle.trial_hex.proofs.Laws.{first_found, place_is}
use Rattle.trial_hex.proofs.place_of.Goals as goal

pub returns : goal.returns
returns c =
    let found = position_from_yields_List (λ a. eqb a c.args.byte) _ _ c.position.result c.position.ensures.ran (YieldsList-from_slice c.args.s.now cc) (λ x b q k. search (rules, tests)) in
    c.unwrap_or.ensures ∙ first_found (λ a. eqb a c.args.byte) c.args.s.now c.position.result found ∙ sym (place_is c.args.byte c.args.s.now)
