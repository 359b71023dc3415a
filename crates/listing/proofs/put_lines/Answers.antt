use native.Mathlib.Omega.{arith}
use mathlib.Core.Path.{sym, ◌∙◌}
use Rattle.listing.proofs.Lists.{asks, ended, nothing_left, refused_here, asks_line, turned}
use Rattle.listing.proofs.put_lines.Goals as goal

pub put_refusal-requires : goal.put_refusal-requires
put_refusal-requires c =
    let k = c.loop-at in
    let a = c.args in
    let here = refused_here a.s.now a.out.now a.start k.out k.at k.to k.invariant c.loop-at-test.true c.in-Err.refusal (sym c.in-Err.is ∙ c.row_at.ensures) in
    asks a.s.now a.out.now a.start k.out k.at k.to k.invariant _ here c.requires.s_bound

pub returns-in-Err-clause-value : goal.returns-in-Err-clause-value
returns-in-Err-clause-value c =
    let k = c.loop-at in
    let a = c.args in
    let here = refused_here a.s.now a.out.now a.start k.out k.at k.to k.invariant c.loop-at-test.true c.in-Err.refusal (sym c.in-Err.is ∙ c.row_at.ensures) in
    (ended a.s.now a.out.now a.start k.out k.at k.to k.invariant _ here _ _ (c.put_refusal.ensures.value, c.put_refusal.ensures.puts)).0

pub returns-in-Err-clause-puts : goal.returns-in-Err-clause-puts
returns-in-Err-clause-puts c =
    let k = c.loop-at in
    let a = c.args in
    let here = refused_here a.s.now a.out.now a.start k.out k.at k.to k.invariant c.loop-at-test.true c.in-Err.refusal (sym c.in-Err.is ∙ c.row_at.ensures) in
    (ended a.s.now a.out.now a.start k.out k.at k.to k.invariant _ here _ _ (c.put_refusal.ensures.value, c.put_refusal.ensures.puts)).1

pub put_message_line-to-requires : goal.put_message_line-to-requires
put_message_line-to-requires c =
    let k = c.loop-at in
    let a = c.args in
    asks_line a.s.now a.out.now a.start k.out k.at k.to k.invariant c.loop-at-test.true c.in-Ok.row (sym c.in-Ok.is ∙ c.row_at.ensures) c.requires.s_bound

pub loop-at-preserved : goal.loop-at-preserved
loop-at-preserved c =
    let k = c.loop-at in
    let a = c.args in
    turned a.s.now a.out.now a.start k.out k.at k.to k.invariant c.loop-at-test.true c.in-Ok.row (sym c.in-Ok.is ∙ c.row_at.ensures) _ _
    c.put_message_line-to.auto.out (c.put_message_line-to.ensures.value, c.put_message_line-to.ensures.puts)

pub put_end_line-requires : goal.put_end_line-requires
put_end_line-requires c =
    let k = c.loop-at in
    let a = c.args in
    asks a.s.now a.out.now a.start k.out k.at k.to k.invariant _ (nothing_left a.s.now a.out.now a.start k.out k.at k.to k.invariant c.loop-at-test.false) c.requires.s_bound

pub returns-clause-value : goal.returns-clause-value
returns-clause-value c =
    let k = c.loop-at in
    let a = c.args in
    let here = nothing_left a.s.now a.out.now a.start k.out k.at k.to k.invariant c.loop-at-test.false in
    (ended a.s.now a.out.now a.start k.out k.at k.to k.invariant _ here _ _ (c.put_end_line.ensures.value, c.put_end_line.ensures.puts)).0

pub returns-clause-puts : goal.returns-clause-puts
returns-clause-puts c =
    let k = c.loop-at in
    let a = c.args in
    let here = nothing_left a.s.now a.out.now a.start k.out k.at k.to k.invariant c.loop-at-test.false in
    (ended a.s.now a.out.now a.start k.out k.at k.to k.invariant _ here _ _ (c.put_end_line.ensures.value, c.put_end_line.ensures.puts)).1
