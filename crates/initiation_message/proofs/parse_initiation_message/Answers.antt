use mathlib.Core.Path.{refl, ◌∙◌, subst}
use lib.ListN.{length, replicate}
use Rattle.std.specs.declared.result.Result.{Result}
use Rattle.std.specs.declared.result.Result.TheVariants.{Ok}
use Rattle.wire.specs.declared.Refusal.{Refusal}
use Rattle.walk.specs.Walk.{Walks}
use Rattle.walk.specs.declared.Walked.{Walked}
use Rattle.walk.proofs.Whole.{walks_of, answers, stops_all}
use Rattle.initiation_message.specs.Grammar.{places}
use Rattle.initiation_message.specs.Shown.{zero_tlv}
use Rattle.initiation_message.specs.Read.{kit, stop_behind, answer}
use Rattle.initiation_message.proofs.Laws.{takes}
use Rattle.initiation_message.proofs.parse_initiation_message.Goals as goal

pub returns : goal.returns
returns c =
    let s = c.args.s.now in
    let w = c.in_ok-walked.walked in
    let none = replicate places zero_tlv in
    let h : Walks kit stop_behind (length s) 0 s none (Ok w) c.walk.new.table =
    subst (λ (r : Result Walked Refusal). Walks kit stop_behind (length s) 0 s none r c.walk.new.table) c.in_ok-walked.was (walks_of c.walk.ensures) in
    let stop_is = stops_all kit takes stop_behind (λ at. refl) 0 s none w c.walk.new.table h in
    (λ i. Ok (record { stop = stop_is i; tail = w.end; message = record { tlvs = c.walk.new.table; count = w.count } }))
    ∙ answers kit stop_behind (length s) 0 s none h answer
