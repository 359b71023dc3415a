use mathlib.Core.Path.{sym, ap, ◌∙◌}
use lib.ListN.{replicate}
use Rattle.std.proofs.lemmas.Result.{err_from_is_err_and}
use Rattle.walk.specs.Walk.{handed}
use Rattle.walk.proofs.Whole.{walks_of, answers}
use Rattle.stats_report.specs.Grammar.{places}
use Rattle.stats_report.specs.Shown.{zero_counter}
use Rattle.stats_report.specs.Read.{kit, stop_at, answer}
use Rattle.stats_report.proofs.Laws.{records}
use Rattle.stats_report.proofs.parse_stats_report.Goals as goal

pub returns-in_err-walked : goal.returns-in_err-walked
returns-in_err-walked c =
    let s = c.args.s.now in
    let n = c.in_ok-stats_count in
    let p = err_from_is_err_and c.from_residual-in_err-walked.result c.from_residual-in_err-walked.ensures.1 in
    rw (p.1, p.2)
    (ap (λ x. answer n.stats_count (handed s x c.walk.new.table)) (sym c.in_err-walked.was)
    ∙ answers kit stop_at n.stats_count n.behind.at s (replicate places zero_counter) (walks_of c.walk.ensures) (answer n.stats_count)
    ∙ records s n.stats_count n.behind (sym c.read_count.ensures ∙ n.was))

pub returns : goal.returns
returns c =
    let s = c.args.s.now in
    let n = c.in_ok-stats_count in
    ap (λ x. answer n.stats_count (handed s x c.walk.new.table)) (sym c.in_ok-walked.was)
    ∙ answers kit stop_at n.stats_count n.behind.at s (replicate places zero_counter) (walks_of c.walk.ensures) (answer n.stats_count)
    ∙ records s n.stats_count n.behind (sym c.read_count.ensures ∙ n.was)
