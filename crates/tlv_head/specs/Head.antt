-- The head of a TLV at a place, where that and so many bytes behind it are left: two bytes of type, two of length, and the cursor behind them.
use Rattle.std.specs.Prelude.{ℕ, ◌+◌, List, Option, Some, None}
use Rattle.wire.specs.Bytes.{pick, has, num_at}
use Rattle.cursor.specs.Read.{cursor}
use Rattle.tlv_head.specs.declared.TlvHead.{TlvHead}

abbrev pub head_here : List ℕ → ℕ → TlvHead
head_here s at = record { kind = num_at 2 s at; length = num_at 2 s (at + 2); value = cursor (at + 4) }

abbrev pub head_at : ℕ → List ℕ → ℕ → Option TlvHead
head_at behind s at = pick (has (4 + behind) s at) (Some (head_here s at)) None
