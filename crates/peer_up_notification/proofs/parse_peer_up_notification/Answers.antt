use mathlib.Core.Path.{sym, ap, ◌∙◌}
use Rattle.std.proofs.lemmas.List.{length-take-le}
use Rattle.std.proofs.lemmas.Result.{err_from_is_err_and}
use Rattle.std.specs.declared.result.Result.TheVariants.{Ok}
use Rattle.addresses.specs.Address.{shown_ip}
use Rattle.walk.specs.Walk.{handed}
use Rattle.peer_up_notification.specs.Read.{front_of, with_tlvs}
use Rattle.walk.proofs.Whole.{walks_of}
use Rattle.peer_up_notification.proofs.Walks.{answer_is, stop_is, inside}
use Rattle.peer_up_notification.proofs.parse_peer_up_notification.Goals as goal

pub returns-in_err-walked : goal.returns-in_err-walked
returns-in_err-walked c =
    let a = c.args in
    let o = c.in_ok-sent_open in
    let p = err_from_is_err_and c.from_residual-in_err-walked.result c.from_residual-in_err-walked.ensures.1 in
    rw (p.1, p.2)
    (ap (λ x. with_tlvs a.peer_type (front_of a.afi a.s.now o.sent_open o.received_open) (handed a.s.now x c.walk.new.table)) (sym c.in_err-walked.was)
    ∙ answer_is a.s.now o.behind (walks_of c.walk.ensures) a.afi a.peer_type o.sent_open o.received_open (sym c.read_opens.ensures ∙ o.was))

pub slice_bounds-tlvs-end : goal.slice_bounds-tlvs-end
slice_bounds-tlvs-end c = inside c.args.s.now c.in_ok-sent_open.behind (walks_of c.walk.ensures) c.in_ok-walked.walked c.in_ok-walked.was

pub slice_bounds-warnings_of-end : goal.slice_bounds-warnings_of-end
slice_bounds-warnings_of-end c =
    sym (length-take-le _ _ (inside c.args.s.now c.in_ok-sent_open.behind (walks_of c.walk.ensures) c.in_ok-walked.walked c.in_ok-walked.was))

pub returns : goal.returns
returns c =
    let a = c.args in
    let s = a.s.now in
    let o = c.in_ok-sent_open in
    let w = c.in_ok-walked.walked in
    let stop = stop_is s o.behind (walks_of c.walk.ensures) w c.in_ok-walked.was in
    let address = c.shown_ip.ensures ∙ ap (shown_ip a.afi) c.sixteen_at.ensures in
    (λ i. Ok (record {
      stop = stop i;
      warnings = c.warnings_of.ensures i;
      message = record {
        local_addr = address i;
        local_port = c.read_at.ensures i;
        remote_port = c.read_at-2.ensures i;
        sent_open = o.sent_open;
        received_open = o.received_open;
        tlvs = c.walk.new.table;
        count = w.count;
      };
    }))
    ∙ ap (λ x. with_tlvs a.peer_type (front_of a.afi s o.sent_open o.received_open) (handed s x c.walk.new.table)) (sym c.in_ok-walked.was)
    ∙ answer_is s o.behind (walks_of c.walk.ensures) a.afi a.peer_type o.sent_open o.received_open (sym c.read_opens.ensures ∙ o.was)
