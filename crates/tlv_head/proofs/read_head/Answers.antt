use borrow.Author.Tests.{le-leb}
use native.Mathlib.Omega.{arith}
use mathlib.Core.Path.{◌≡◌, ◌∙◌}
use Prim.Native.Nat.{◌+◌, ◌-◌, ◌*◌, ◌/◌, ◌%◌, ◌<◌}
use lib.ListN.{length}
use Rattle.wire.specs.Bytes.{num_at}
use Rattle.wire.proofs.Bytes.{number_is, num_split, num_lt}
use Rattle.wire.proofs.Held.{slice_bytes}
use Rattle.tlv_head.proofs.read_head.Goals as goal

pub returns : goal.returns
returns c =
    let a = c.args in
    let s = a.s.now in
    let at = a.start.at in
    let head-is : c.read_at-head.result ≡ num_at 2 s at * 65536 + num_at 2 s (at + 2) =
    c.read_at-head.ensures ∙ number_is 4 s at (omega arith) ∙ num_split 2 2 s at (omega arith) in
    let small : num_at 2 s (at + 2) < 65536 = num_lt 2 (at + 2) (slice_bytes s (λ i. (c.shared_slice_known-1.given i).fits)) in
    let kind_is : c.read_at-head.result / 65536 ≡ num_at 2 s at = omega arith in
    let size_is : c.read_at-head.result % 65536 ≡ num_at 2 s (at + 2) = omega arith in
    rw (le-leb (4 + a.behind) (length s - at) (omega arith), kind_is, size_is)
