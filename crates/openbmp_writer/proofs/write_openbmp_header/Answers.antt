use borrow.Author.Rules.{rules}
use native.Mathlib.Omega.{arith}
use mathlib.Core.Path.{◌≡◌, refl, sym, ◌∙◌, subst}
use mathlib.Core.Bool.{true}
use Rattle.std.proofs.Common.{Ok}
use Rattle.std.proofs.lemmas.Grind.{common_steps}
use Prim.Native.Nat.{ℕ, ◌+◌, ◌≤◌}
use lib.ListN.{length}
use Rattle.wire.proofs.Held.{array_bytes}
use Rattle.writing.specs.Write.{write_answer}
use Rattle.writing.proofs.Answers.{left_alone, wrote, put_there}
use Rattle.openbmp_writer.specs.Write.{bytes_of, writable, Typed}
use Rattle.openbmp_writer.proofs.Written.{length_written, lengths_are, put_written}
use Rattle.openbmp_writer.proofs.write_openbmp_header.Goals as goal

pub returns-in_err-written : goal.returns-in_err-written
returns-in_err-written c =
    let okay : writable c.args.header (length c.args.buffer.now) ≡ true = sym c.is_writable.ensures ∙ c.if-not-is_writable.false in
    let asked : (let a = c.args in c.from_residual.result ≡ write_answer (writable a.header (length a.buffer.now)) (78 + a.header.admin_id.length + a.header.router_group.length) (length a.out.now)) = grind (arith, common_steps) in
    let typed : Typed c.args.header = let address = c.well_formed.0.1.1.1.1.1.1.1.1.1.1.1.0.1.1.0 in record { header_len_fits = omega (arith, c.well_formed); msg_len_fits = omega (arith, c.well_formed); time-fits = search rules; seconds_fit = omega (arith, c.well_formed); microseconds_fit = omega (arith, c.well_formed); octets = record { many = search rules; are_bytes = array_bytes c.args.header.router_ip.octets address.0 address.1.1 } } in
    let long : (writable c.args.header (length c.args.buffer.now)) ≡ true → length (bytes_of c.args.header c.args.buffer.now) ≡ 78 + c.args.header.admin_id.length + c.args.header.router_group.length = λ w. length_written c.args.header c.args.buffer.now typed.octets.many w in
    let s = bytes_of c.args.header c.args.buffer.now in
    left_alone _ s c.args.out.now _ long _ asked c.in_err-written.field-0.0 (grind (arith, common_steps))

pub returns : goal.returns
returns c =
    let okay : writable c.args.header (length c.args.buffer.now) ≡ true = sym c.is_writable.ensures ∙ c.if-not-is_writable.false in
    let lengths : (length c.part.result.now ≡ c.args.header.admin_id.length) × (length c.part-2.result.now ≡ c.args.header.router_group.length) = lengths_are c.args.header c.args.buffer.now okay _ _ c.part.ensures c.part-2.ensures in
    let asked : (let a = c.args in Ok c.in_ok-written.written ≡ write_answer (writable a.header (length a.buffer.now)) (78 + a.header.admin_id.length + a.header.router_group.length) (length a.out.now)) = grind (arith, common_steps) in
    let typed : Typed c.args.header = let address = c.well_formed.0.1.1.1.1.1.1.1.1.1.1.1.0.1.1.0 in record { header_len_fits = omega (arith, c.well_formed); msg_len_fits = omega (arith, c.well_formed); time-fits = search rules; seconds_fit = omega (arith, c.well_formed); microseconds_fit = omega (arith, c.well_formed); octets = record { many = search rules; are_bytes = array_bytes c.args.header.router_ip.octets address.0 address.1.1 } } in
    let long : (writable c.args.header (length c.args.buffer.now)) ≡ true → length (bytes_of c.args.header c.args.buffer.now) ≡ 78 + c.args.header.admin_id.length + c.args.header.router_group.length = λ w. length_written c.args.header c.args.buffer.now typed.octets.many w in
    let room : (let a = c.args in 78 + a.header.admin_id.length + a.header.router_group.length ≤ length a.out.now) = let a = c.args in subst (λ (k : ℕ). k ≤ length a.out.now) (long okay) (wrote _ (bytes_of a.header a.buffer.now) a.out.now _ long _ asked _ refl).fits in
    let a = c.args in
    let h = a.header in
    let b = a.buffer.now in
    let s = bytes_of h b in
    let r = room in
    let n = lengths in
    let all = put_written h b okay _ _ c.part.ensures c.part-2.ensures c.flags_of.result a.out.now _ _ _
    typed.octets.many (omega (arith, r, n.0, n.1)) c.flags_of.ensures c.put_front.ensures c.put_time.ensures c.put_rest.ensures in
    put_there _ s a.out.now _ long _ asked _ refl _ all
