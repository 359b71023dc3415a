use Rattle.std.proofs.Common.{◌≡◌, ◌∙◌, sym, ap, rules}
use Rattle.trial_line.specs.Words.{word}
use Rattle.trial_line.specs.Line.{verb_of, reader_of, reading, rewriting}
use Rattle.trial_line.proofs.Laws.{equal_is, starts_is}
use Rattle.trial_line.proofs.verb_of.Goals as goal

pub returns-then-eq : goal.returns-then-eq
unfolding verb_of
returns-then-eq c = rw (sym (equal_is c.args.text.now (word "split")) ∙ sym c.eq.ensures ∙ c.if-eq.true)

pub returns-then-eq-2 : goal.returns-then-eq-2
unfolding verb_of
returns-then-eq-2 c = rw (sym (equal_is c.args.text.now (word "split")) ∙ sym c.eq.ensures ∙ c.if-eq.false, sym (equal_is c.args.text.now (word "equal")) ∙ sym c.eq-2.ensures ∙ c.if-eq-2.true)

pub returns-in-Some : goal.returns-in-Some
unfolding verb_of
returns-in-Some c =
    let mapped : c.map.result ≡ rewriting c.reader_of.result = search rules in
    rw (
      sym (equal_is c.args.text.now (word "split")) ∙ sym c.eq.ensures ∙ c.if-eq.false,
      sym (equal_is c.args.text.now (word "equal")) ∙ sym c.eq-2.ensures ∙ c.if-eq-2.false,
      sym (starts_is c.args.text.now (word "rewrite-")) ∙ c.in-Some.ensures.cases.0,
    )
    (mapped ∙ ap rewriting (c.reader_of.ensures ∙ ap reader_of c.in-Some.ensures.cases.1))

pub returns-in-None : goal.returns-in-None
unfolding verb_of
returns-in-None c =
    let mapped : c.map-in-None.result ≡ reading c.reader_of-in-None.result = search rules in
    rw (
      sym (equal_is c.args.text.now (word "split")) ∙ sym c.eq.ensures ∙ c.if-eq.false,
      sym (equal_is c.args.text.now (word "equal")) ∙ sym c.eq-2.ensures ∙ c.if-eq-2.false,
      sym (starts_is c.args.text.now (word "rewrite-")) ∙ c.in-None.ensures.cases,
    )
    (mapped ∙ ap reading c.reader_of-in-None.ensures)
