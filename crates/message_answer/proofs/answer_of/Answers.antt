use native.Mathlib.Omega.{arith}
use mathlib.Core.Path.{sym, subst}
use Rattle.wire.specs.Bytes.{Bytes}
use Rattle.wire.proofs.Held.{slice_bytes}
use Rattle.message_answer.specs.Grammar.{OkExactly, GoodExactly}
use Rattle.message_answer.specs.Answer.{Answer, number}
use Rattle.message_answer.proofs.Promises.{answer_ok, answer_good}
use Rattle.message_answer.proofs.answer_of.Goals as goal

pub returns-clause-ok_exactly : goal.returns-clause-ok_exactly
returns-clause-ok_exactly c =
    let rest-bytes : Bytes c.args.rest.now = slice_bytes c.args.rest.now (λ i. omega (arith, c.type_inv.rest i)) in
    subst (OkExactly c.args.msg_type c.args.rest.now) (sym c.judge.ensures) (answer_ok c.args.msg_type c.args.rest.now rest-bytes)

pub returns-clause-good_exactly : goal.returns-clause-good_exactly
returns-clause-good_exactly c =
    let rest-bytes : Bytes c.args.rest.now = slice_bytes c.args.rest.now (λ i. omega (arith, c.type_inv.rest i)) in
    subst (λ (a : Answer). GoodExactly c.args.msg_type c.args.rest.now (number a)) (sym c.judge.ensures) (answer_good c.args.msg_type c.args.rest.now rest-bytes)
