use Rattle.std.proofs.Common.{◌∙◌, sym, ap, ℕ, ◌+◌, length, drop, arith, rules, tests}
use Rattle.std.proofs.lemmas.List.{length_push}
use Rattle.std.proofs.lemmas.Iterator.Consumers.{YieldsList-at, YieldsList-turn, YieldsList-end}
use Rattle.std.proofs.lemmas.Iterator.Splits.{YieldsList-from_slice_split}
use Rattle.trial_hex.specs.Hex.{parts, measured}
use Rattle.trial_hex.proofs.Laws.{is_plus, part_here, no_more, no_part, no_room, one_more, none_left}
use Rattle.trial_hex.proofs.measure.Goals as goal
use Rattle.trial_hex.proofs.measure.Goals.{then-length-eq0-via-then-length-eq0, then-length-eq0-via-else-length-eq0+then-room-count}

pub returns-then-length-eq0 : goal.returns-then-length-eq0
returns-then-length-eq0 c =
    let t = YieldsList-turn (YieldsList-at c.into_iter-part-iterator.ensures.into_iter_gives (YieldsList-from_slice_split _ is_plus c.args.text.now c.split-part-items.ensures.rest c.split-part-items.ensures.done c.split-part-items.ensures.closure (λ x b q k. search (rules, tests)))) c.loop-part.yielded _ c.loop-part.yielded_by _ _ c.in-Some.part c.in-Some.is c.next.ensures.steps in
    let here = part_here c.args.text.now c.in-Some.part.now (length c.loop-part.yielded) t in
    sym (c.loop-part.invariant.1 ∙ ap (measured c.args.room c.loop-part.count) here
    ∙ elim c.then-length-eq0.branch [
      | then-length-eq0-via-then-length-eq0 w ↦ no_part c.args.room c.loop-part.count c.part_length-length.result _ _ c.part_length-length.ensures w.if-length-eq0.true
      | then-length-eq0-via-else-length-eq0+then-room-count w ↦ no_room c.args.room c.loop-part.count c.part_length-length.result _ _ c.part_length-length.ensures w.if-length-eq0.false w.if-room-count.true
    ])

pub loop-part-preserved : goal.loop-part-preserved
loop-part-preserved c =
    let t = YieldsList-turn (YieldsList-at c.into_iter-part-iterator.ensures.into_iter_gives (YieldsList-from_slice_split _ is_plus c.args.text.now c.split-part-items.ensures.rest c.split-part-items.ensures.done c.split-part-items.ensures.closure (λ x b q k. search (rules, tests)))) c.loop-part.yielded _ c.loop-part.yielded_by _ _ c.in-Some.part c.in-Some.is c.next.ensures.steps in
    let here = part_here c.args.text.now c.in-Some.part.now (length c.loop-part.yielded) t in
    (omega arith, c.loop-part.invariant.1 ∙ ap (measured c.args.room c.loop-part.count) here ∙ one_more c.args.room c.loop-part.count c.part_length-length.result _ _ c.part_length-length.ensures c.if-length-eq0.false c.if-room-count.false ∙ ap (λ (n : ℕ). measured c.args.room (c.loop-part.count + c.part_length-length.result) (drop n (parts c.args.text.now))) (sym (length_push c.loop-part.yielded c.in-Some.part)))

pub returns : goal.returns
returns c =
    let t = YieldsList-end (YieldsList-at c.into_iter-part-iterator.ensures.into_iter_gives (YieldsList-from_slice_split _ is_plus c.args.text.now c.split-part-items.ensures.rest c.split-part-items.ensures.done c.split-part-items.ensures.closure (λ x b q k. search (rules, tests)))) c.loop-part.yielded _ c.loop-part.yielded_by _ _ c.in-None.is c.next.ensures.steps in
    sym (c.loop-part.invariant.1 ∙ ap (measured c.args.room c.loop-part.count) (no_more c.args.text.now (length c.loop-part.yielded) t.1) ∙ none_left c.args.room c.loop-part.count)
