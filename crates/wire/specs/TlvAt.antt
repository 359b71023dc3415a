-- Information TLVs as a reader takes them off the front of some bytes.
use Rattle.std.specs.Prelude.{ℕ, ◌+◌, List, [], ◌∷◌, length, take, drop, leb}
use Rattle.wire.specs.Bytes.{pick, num_at}
use Rattle.wire.specs.Tlv.{Tlv, Tail, short, oversized}

-- the TLV, where it is all there
abbrev pub tlv_of : List ℕ → Tlv
tlv_of s = record { kind = num_at 2 s 0; size = num_at 2 s 2; value = take (num_at 2 s 2) (drop 4 s) }

-- what is left, where no TLV is read any more
abbrev pub tail_of : List ℕ → Tail
tail_of s = pick (leb (length s) 4) (short s) (oversized (num_at 2 s 0) (num_at 2 s 2) (drop 4 s))

-- the bytes consumed, where the last TLV ends at a place: the type and the length of an oversized TLV are read too
abbrev pub stop_at : ℕ → Tail → ℕ
stop_at at (short z) = at
stop_at at (oversized kind size z) = at + 4

-- what follows the bytes consumed
abbrev pub unread : Tail → List ℕ
unread (short z) = z
unread (oversized kind size z) = z

-- the widths of its parts, where its value needs so many bytes: type, length, value
abbrev pub tlv_widths : ℕ → List ℕ
tlv_widths need = 2 ∷ 2 ∷ need ∷ []
