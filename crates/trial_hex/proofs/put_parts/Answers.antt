use Rattle.std.proofs.Common.{◌∙◌, sym, ap, ℕ, List, length, arith, rules, tests}
use Rattle.std.proofs.lemmas.List.{length_push}
use Rattle.std.proofs.lemmas.Iterator.Consumers.{YieldsList-at, YieldsList-turn, YieldsList-end}
use Rattle.std.proofs.lemmas.Iterator.Splits.{YieldsList-from_slice_split}
use lib.Seq.{sets}
use Rattle.trial_hex.specs.Hex.{all_bytes}
use Rattle.trial_hex.proofs.Laws.{is_plus, part_here, no_more, bytes_end, here_fits, measured_on, written_on}
use Rattle.trial_hex.proofs.put_parts.Goals as goal

pub put_part-at-requires-clause-part_nonzero : goal.put_part-at-requires-clause-part_nonzero
put_part-at-requires-clause-part_nonzero c =
    let t = YieldsList-turn (YieldsList-at c.into_iter-part-iterator.ensures.into_iter_gives (YieldsList-from_slice_split _ is_plus c.args.text.now c.split-part-items.ensures.rest c.split-part-items.ensures.done c.split-part-items.ensures.closure (λ x b q k. search (rules, tests)))) c.loop-part.yielded _ c.loop-part.yielded_by _ _ c.in-Some.part c.in-Some.is c.next.ensures.steps in
    let here = part_here c.args.text.now c.in-Some.part.now (length c.loop-part.yielded) t in
    let f = here_fits c.args.text.now c.in-Some.part.now (length c.loop-part.yielded) here (length c.args.bytes.now) c.loop-part.at c.args.count c.loop-part.invariant.1 in
    (f.some, omega (arith, f.room_for))

pub overflow_add-at : goal.overflow_add-at
overflow_add-at c =
    let t = YieldsList-turn (YieldsList-at c.into_iter-part-iterator.ensures.into_iter_gives (YieldsList-from_slice_split _ is_plus c.args.text.now c.split-part-items.ensures.rest c.split-part-items.ensures.done c.split-part-items.ensures.closure (λ x b q k. search (rules, tests)))) c.loop-part.yielded _ c.loop-part.yielded_by _ _ c.in-Some.part c.in-Some.is c.next.ensures.steps in
    let here = part_here c.args.text.now c.in-Some.part.now (length c.loop-part.yielded) t in
    let f = here_fits c.args.text.now c.in-Some.part.now (length c.loop-part.yielded) here (length c.args.bytes.now) c.loop-part.at c.args.count c.loop-part.invariant.1 in
    omega (arith, f.room_for, c.put_part-at.ensures.value)

pub loop-part-preserved : goal.loop-part-preserved
loop-part-preserved c =
    let t = YieldsList-turn (YieldsList-at c.into_iter-part-iterator.ensures.into_iter_gives (YieldsList-from_slice_split _ is_plus c.args.text.now c.split-part-items.ensures.rest c.split-part-items.ensures.done c.split-part-items.ensures.closure (λ x b q k. search (rules, tests)))) c.loop-part.yielded _ c.loop-part.yielded_by _ _ c.in-Some.part c.in-Some.is c.next.ensures.steps in
    let here = part_here c.args.text.now c.in-Some.part.now (length c.loop-part.yielded) t in
    let f = here_fits c.args.text.now c.in-Some.part.now (length c.loop-part.yielded) here (length c.args.bytes.now) c.loop-part.at c.args.count c.loop-part.invariant.1 in
    rw length_push (
      omega (arith, f.room_for, c.put_part-at.ensures.value),
      measured_on c.args.text.now c.in-Some.part.now (length c.loop-part.yielded) here (length c.args.bytes.now) c.loop-part.at c.args.count c.loop-part.invariant.1 _ c.put_part-at.ensures.value,
      written_on c.args.text.now c.in-Some.part.now (length c.loop-part.yielded) here (length c.args.bytes.now) c.loop-part.at c.args.count c.loop-part.invariant.1 _ c.put_part-at.ensures.value _ c.loop-part.bytes _ c.loop-part.invariant.2 c.put_part-at.ensures.bytes_after,
    )

pub returns : goal.returns
returns c =
    let t = YieldsList-end (YieldsList-at c.into_iter-part-iterator.ensures.into_iter_gives (YieldsList-from_slice_split _ is_plus c.args.text.now c.split-part-items.ensures.rest c.split-part-items.ensures.done c.split-part-items.ensures.closure (λ x b q k. search (rules, tests)))) c.loop-part.yielded _ c.loop-part.yielded_by _ _ c.in-None.is c.next.ensures.steps in
    sym (c.loop-part.invariant.2 ∙ ap (λ (l : List (List ℕ)). sets c.loop-part.bytes c.loop-part.at (all_bytes l)) (no_more c.args.text.now (length c.loop-part.yielded) t.1) ∙ bytes_end c.loop-part.bytes c.loop-part.at)
