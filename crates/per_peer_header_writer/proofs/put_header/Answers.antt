use borrow.Author.Rules.{rules}
use native.Mathlib.Omega.{arith}
use mathlib.Core.Path.{◌≡◌, ap, ◌∙◌}
use Prim.Native.Nat.{ℕ}
use lib.ListN.{length}
use Rattle.per_peer_header_writer.proofs.Written.{put_all}
use Rattle.wire.specs.Bytes.{be}
use Rattle.writing.specs.Write.{put_at}
use Rattle.per_peer_header_writer.proofs.put_header.Goals as goal

pub returns : goal.returns
returns c =
    let sixteen : length c.args.header.peer_ip.octets ≡ 16 = search rules in
    let a = c.args in
    let kind = c.put.ensures ∙ ap (λ (k : ℕ). put_at a.out.now 0 (be 1 k)) c.number.ensures in
    put_all a.header (omega (arith, c.well_formed)) c.requires.header_value sixteen a.out.now _ _ _ _ _ _ _ _ c.requires.in_bounds
    kind c.put-2.ensures c.put-3.ensures c.put_bytes.ensures c.put-4.ensures c.put-5.ensures c.put-6.ensures c.put-7.ensures
