-- The type of a peer and its flags: the first two bytes of a per-peer header.
use Rattle.std.specs.Prelude.{ℕ, Bool, List, [], ◌∷◌, eqb, get_or}
use Rattle.wire.specs.Bytes.{pick, flag}
use Rattle.models.specs.declared.Afi.{Afi}
use Rattle.models.specs.declared.Afi.TheVariants.{Ipv4, Ipv6}
use Rattle.models.specs.declared.AsnLength.{AsnLength}
use Rattle.models.specs.declared.AsnLength.TheVariants.{Bits16, Bits32}
use Rattle.per_peer_type.specs.declared.BmpPeerType.{BmpPeerType}
use Rattle.per_peer_type.specs.declared.BmpPeerType.TheVariants.{Global, RD, Local, LocalRib}

-- ---- types: 0 to 2 are of RFC 7854, section 4.2, and 3, the Loc-RIB Instance Peer, is of RFC 9069, section 4.1
unfoldable pub kind_of : BmpPeerType → ℕ
kind_of Global = 0
kind_of RD = 1
kind_of Local = 2
kind_of LocalRib = 3

-- the names of 0 to 2; 3 is the last, and what is above it is refused before it is named
abbrev pub names : List BmpPeerType
names = Global ∷ RD ∷ Local ∷ []

unfoldable pub type_of : ℕ → BmpPeerType
type_of n = get_or names n LocalRib

abbrev pub is_loc_rib : ℕ → Bool
is_loc_rib kind = eqb kind 3

-- ---- flags
-- types 0 to 2: the address is IPv6 (RFC 7854, section 4.2)
abbrev pub flag_v : ℕ → Bool
flag_v byte = flag 0x80 byte

-- types 0 to 2: post-policy (RFC 7854, section 4.2)
abbrev pub flag_l : ℕ → Bool
flag_l byte = flag 0x40 byte

-- types 0 to 2: the messages inside have 2-byte AS_PATHs (RFC 7854, section 4.2); the Rust takes it for a header's AS of 2 bytes too
abbrev pub flag_a : ℕ → Bool
flag_a byte = flag 0x20 byte

-- types 0 to 2: Adj-RIB-Out (RFC 8671, section 4)
abbrev pub flag_o : ℕ → Bool
flag_o byte = flag 0x10 byte

-- type 3: the Loc-RIB is filtered (RFC 9069, section 4.2)
abbrev pub flag_f : ℕ → Bool
flag_f byte = flag 0x80 byte

abbrev pub address_family : ℕ → Afi
address_family byte = pick (flag_v byte) Ipv6 Ipv4

abbrev pub asn_length : ℕ → AsnLength
asn_length byte = pick (flag_a byte) Bits16 Bits32
