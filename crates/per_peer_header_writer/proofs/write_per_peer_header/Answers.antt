use borrow.Author.Rules.{rules}
use native.Mathlib.Omega.{arith}
use mathlib.Core.Path.{◌≡◌, refl}
use mathlib.Core.Bool.{true}
use Rattle.std.proofs.Common.{Ok}
use Rattle.std.proofs.lemmas.Grind.{common_steps}
use lib.ListN.{length}
use Rattle.per_peer_header_writer.specs.Write.{bytes_of, writable, Typed}
use Rattle.per_peer_header_writer.proofs.Written.{length_written}
use Rattle.writing.specs.Write.{write_answer}
use Rattle.writing.proofs.Answers.{left_alone, put_there}
use Rattle.wire.proofs.Held.{array_bytes}
use Rattle.per_peer_header_writer.proofs.write_per_peer_header.Goals as goal

pub returns-in_err-length : goal.returns-in_err-length
returns-in_err-length c =
    let typed : Typed c.args.header = let address = c.well_formed.0.1.1.1.1.1.0.1.1.0 in record { flags_fit = omega (arith, c.well_formed); distinguisher_fits = omega (arith, c.well_formed); octets = record { many = search rules; are_bytes = array_bytes c.args.header.peer_ip.octets address.0 address.1.1 }; asn_fits = omega (arith, c.well_formed); id_fits = omega (arith, c.well_formed); time-fits = search rules; seconds_fit = omega (arith, c.well_formed); microseconds_fit = omega (arith, c.well_formed) } in
    let long : writable c.args.header ≡ true → length (bytes_of c.args.header) ≡ 42 = λ w. let t = typed in length_written c.args.header t.asn_fits w t.octets.many in
    let asked : c.from_residual.result ≡ write_answer (writable c.args.header) 42 (length c.args.out.now) = grind (arith, common_steps) in
    let h = c.args.header in
    let out = c.args.out.now in
    left_alone _ (bytes_of h) out 42 long _ asked c.in_err-length.field-0.0 (grind (arith, common_steps))

pub returns : goal.returns
returns c =
    let typed : Typed c.args.header = let address = c.well_formed.0.1.1.1.1.1.0.1.1.0 in record { flags_fit = omega (arith, c.well_formed); distinguisher_fits = omega (arith, c.well_formed); octets = record { many = search rules; are_bytes = array_bytes c.args.header.peer_ip.octets address.0 address.1.1 }; asn_fits = omega (arith, c.well_formed); id_fits = omega (arith, c.well_formed); time-fits = search rules; seconds_fit = omega (arith, c.well_formed); microseconds_fit = omega (arith, c.well_formed) } in
    let long : writable c.args.header ≡ true → length (bytes_of c.args.header) ≡ 42 = λ w. let t = typed in length_written c.args.header t.asn_fits w t.octets.many in
    let asked : Ok c.in_ok-length.length ≡ write_answer (writable c.args.header) 42 (length c.args.out.now) = grind (arith, common_steps) in
    let h = c.args.header in
    let out = c.args.out.now in
    put_there _ (bytes_of h) out 42 long _ asked _ refl _ c.put_header.ensures
