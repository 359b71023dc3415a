use Rattle.std.proofs.Common.{◌≡◌, ◌≤◌, true, length, rules, arith, Err, refl, ap, sym, ◌∙◌}
use Rattle.std.proofs.lemmas.Grind.{common_steps}
use lib.Seq.{length-sets}
use Rattle.wire.specs.Bytes.{Bytes}
use Rattle.wire.proofs.Held.{slice_bytes, array_bytes}
use Rattle.peer_up_notification_writer.specs.Write.{endpoint_bytes, front_length, Typed}
use Rattle.peer_up_notification_writer.proofs.Written.{FineFront, front_of, front_ok, length_opens, refused_whole, room, wrote_whole}
use Rattle.peer_up_notification_writer.proofs.write_peer_up_notification.Goals as goal

pub returns-in_err-length : goal.returns-in_err-length
returns-in_err-length c =
    let b = c.args.buffer.now in
    let p : Bytes b = slice_bytes b (λ i. omega (arith, c.type_inv.buffer i)) in
    let fine : front_ok c.args.message b ≡ true = sym c.front_writable.ensures ∙ c.if-not-front_writable.false in
    let handed_on : c.from_residual.result ≡ Err c.in_err-length.field-0.0 = grind (arith, common_steps) in
    refused_whole c.args.message b p (search rules) (omega arith) fine _ _ _ (handed_on ∙ sym c.in_err-length.was ∙ c.write.ensures.answered) c.write.ensures.left _ handed_on

pub put_opens-requires : goal.put_opens-requires
put_opens-requires c =
    let m = c.args.message in
    let b = c.args.buffer.now in
    let p : Bytes b = slice_bytes b (λ i. omega (arith, c.type_inv.buffer i)) in
    let fine : front_ok m b ≡ true = sym c.front_writable.ensures ∙ c.if-not-front_writable.false in
    let f : FineFront m b = front_of m b fine in
    let fits : front_length m ≤ length c.write.new.out = room m b p (search rules) (omega arith) fine _ _ _ c.write.ensures.answered c.write.ensures.left c.in_ok-length.was in
    let same : length c.put_endpoints.new.out ≡ length c.write.new.out = ap length c.put_endpoints.ensures ∙ length-sets c.write.new.out 0 (endpoint_bytes m.local_addr m.local_port m.remote_port) in
    omega (arith, length_opens b m.sent_open m.received_open f.sent f.received)

pub returns : goal.returns
returns c =
    let b = c.args.buffer.now in
    let p : Bytes b = slice_bytes b (λ i. omega (arith, c.type_inv.buffer i)) in
    let fine : front_ok c.args.message b ≡ true = sym c.front_writable.ensures ∙ c.if-not-front_writable.false in
    let typed : Typed c.args.message =
    let octets = c.well_formed.0.1.1.0.1.1.0 in
    record {
      octets = record { many = search rules; are_bytes = array_bytes c.args.message.local_addr.octets octets.0 octets.1.1 };
      local_port_fits = omega (arith, c.well_formed);
      remote_port_fits = omega (arith, c.well_formed);
      table_long = search rules;
    } in
    wrote_whole c.args.message b p typed.octets.many (omega arith) fine _ _ _ (sym c.in_ok-length.was ∙ c.write.ensures.answered) c.write.ensures.left refl c.put_endpoints.ensures c.put_opens.ensures
