-- What RFC 9069 asks of the routes of a Loc-RIB, and a reader warns of. The warning is a bit of one word (docs/RULES.md, "Warnings").
use Rattle.std.specs.Prelude.{ℕ, Bool, true, false, ◌&&◌}
use Rattle.wire.specs.Bytes.{pick}
use Rattle.models.specs.declared.AsnLength.{AsnLength}
use Rattle.models.specs.declared.AsnLength.TheVariants.{Bits16, Bits32}
use Rattle.per_peer_type.specs.Peer.{kind_of, is_loc_rib}
use Rattle.per_peer_type.specs.declared.BmpPeerType.{BmpPeerType}

abbrev pub is_bits16 : AsnLength → Bool
is_bits16 Bits16 = true
is_bits16 Bits32 = false

-- 4: the routes of a Loc-RIB have 4-byte AS numbers (section 5.4), and the caller says 2.
abbrev pub short_as : AsnLength → BmpPeerType → Bool
short_as width t = is_loc_rib (kind_of t) && is_bits16 width

abbrev pub warnings_of : AsnLength → BmpPeerType → ℕ
warnings_of width t = pick (short_as width t) 4 0
