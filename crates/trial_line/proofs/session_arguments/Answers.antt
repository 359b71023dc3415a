use Rattle.std.proofs.Common.{◌∙◌, sym, ap, rules}
use Rattle.models.specs.declared.Afi.TheVariants.{Ipv4, Ipv6}
use Rattle.trial_line.specs.Words.{word}
use Rattle.trial_line.specs.Line.{peer_arguments, session_arguments}
use Rattle.trial_line.proofs.Laws.{starts_is}
use Rattle.trial_line.proofs.session_arguments.Goals as goal

pub returns-in-Some : goal.returns-in-Some
unfolding session_arguments
returns-in-Some c = rw (sym (starts_is c.args.text.now (word "afi=4,")) ∙ c.in-Some.ensures.cases.0) (c.peer_arguments.ensures ∙ ap (peer_arguments Ipv4) c.in-Some.ensures.cases.1)

pub returns-in_err-strip_prefix : goal.returns-in_err-strip_prefix
unfolding session_arguments
returns-in_err-strip_prefix c = rw (sym (starts_is c.args.text.now (word "afi=4,")) ∙ c.in_default.ensures.cases, sym (starts_is c.args.text.now (word "afi=6,")) ∙ c.in_err-strip_prefix.ensures.cases) (search rules)

pub returns : goal.returns
unfolding session_arguments
returns c = rw (sym (starts_is c.args.text.now (word "afi=4,")) ∙ c.in_default.ensures.cases, sym (starts_is c.args.text.now (word "afi=6,")) ∙ c.in_ok-strip_prefix.ensures.cases.0) (c.peer_arguments-2.ensures ∙ ap (peer_arguments Ipv6) c.in_ok-strip_prefix.ensures.cases.1)
