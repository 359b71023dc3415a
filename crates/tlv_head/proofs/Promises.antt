-- What a user of this crate relies on: its answers are determined. What an answer says of the bytes is in Heads.antt. Assumes nothing.
use mathlib.Core.Path.{◌≡◌}
use mathlib.Core.List.{List}
use Prim.Native.Nat.{ℕ}
use Rattle.std.specs.declared.option.Option.{Option}
use Rattle.wire.proofs.Determined.{determined}
use Rattle.tlv_head.specs.Head.{head_at}
use Rattle.tlv_head.specs.declared.TlvHead.{TlvHead}

-- Two answers of read_head for the same bytes and place are equal.
pub head_determined : (behind : ℕ) (s : List ℕ) (at : ℕ) (a b : Option TlvHead) → a ≡ head_at behind s at → b ≡ head_at behind s at → a ≡ b
head_determined behind s at a b = determined
