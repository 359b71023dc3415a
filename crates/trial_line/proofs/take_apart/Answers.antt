use Rattle.std.proofs.Common.{◌≡◌, ◌∙◌, refl, Ok, Some, sym, ap, [], ◌+◌, take, arith, rules}
use Rattle.std.proofs.lemmas.Bool.Decides.{nat_tests}
use Rattle.trial_line.specs.Line.{Line, verb_of, line_with, line_of}
use Rattle.trial_hex.proofs.Laws.{rest_is}
use Rattle.trial_line.proofs.Laws.{no_space, behind-verb, no_second, whole_line}
use Rattle.trial_line.proofs.take_apart.Goals as goal

pub returns-then-is_empty : goal.returns-then-is_empty
unfolding line_of
returns-then-is_empty c = rw (sym c.is_empty.ensures ∙ c.if-is_empty.true)

pub returns-then-line-first : goal.returns-then-line-first
returns-then-line-first c = sym (no_space c.args.line.now [] c.place_of-first.result (grind (arith, nat_tests)) c.place_of-first.ensures c.if-line-first.true)

pub returns-then-rest-second : goal.returns-then-rest-second
returns-then-rest-second c =
    sym
    (behind-verb c.args.line.now _ c.place_of-first.result (grind (arith, nat_tests)) c.place_of-first.ensures c.if-line-first.false (rest_is c.args.line.now (c.place_of-first.result + 1))
    ∙ no_second _ c.place_of-second.result c.place_of-second.ensures (verb_of (take c.place_of-first.result c.args.line.now)) c.place_of-first.result c.if-rest-second.true)

pub returns-in_err-command : goal.returns-in_err-command
returns-in_err-command c =
    let answered : ◌≡◌ {A = Line} c.from_residual.result (line_with c.command_of.result) = search rules in
    answered ∙ whole_line c.args.line.now _ _ _ c.place_of-first.result c.place_of-second.result c.verb_of.result _ (grind (arith, nat_tests)) c.place_of-first.ensures c.if-line-first.false (rest_is c.args.line.now (c.place_of-first.result + 1)) c.place_of-second.ensures c.if-rest-second.false refl c.verb_of.ensures refl (ap line_with c.command_of.ensures)

pub returns : goal.returns
returns c =
    let answered : ◌≡◌ {A = Line} (Ok (Some c.in_ok-command.command)) (line_with c.command_of.result) = search rules in
    answered ∙ whole_line c.args.line.now _ _ _ c.place_of-first.result c.place_of-second.result c.verb_of.result _ (grind (arith, nat_tests)) c.place_of-first.ensures c.if-line-first.false (rest_is c.args.line.now (c.place_of-first.result + 1)) c.place_of-second.ensures c.if-rest-second.false refl c.verb_of.ensures refl (ap line_with c.command_of.ensures)
