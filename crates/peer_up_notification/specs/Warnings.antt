-- What a reader warns of in the Peer Up of a Loc-RIB (RFC 9069, section 5.2.1). Each warning is a bit of one word.
use Rattle.std.specs.Prelude.{ℕ, ◌+◌, Bool, false, not, ◌&&◌, ◌||◌, List, [], ◌∷◌, map, eqb, ltb}
use Rattle.wire.specs.Bytes.{pick}
use Rattle.wire.specs.Tlv.{Tlv}
use Rattle.per_peer_type.specs.Peer.{kind_of, is_loc_rib}
use Rattle.per_peer_type.specs.declared.BmpPeerType.{BmpPeerType}
use Rattle.peer_up_notification.specs.Grammar.{Reading}

-- a TLV's type and length, by which it is judged
abbrev pub Head : Type 0
Head = ℕ × ℕ

abbrev pub head_of : Tlv → Head
head_of t = (t.kind, t.size)

abbrev pub some : (Head → Bool) → List Head → Bool
some test [] = false
some test (h ∷ l) = test h || some test l

-- type 3 is the VRF/Table Name
abbrev pub is_table_name : Head → Bool
is_table_name (kind, size) = eqb kind 3

-- 8: a name is to have 1 to 255 bytes, and it has not.
abbrev pub bad_table_name : Head → Bool
bad_table_name (kind, size) = eqb kind 3 && (eqb size 0 || ltb 255 size)

-- 16: no TLV tells the name. The RFC has the name optional; the warning is the Rust's.
abbrev pub no_table_name : List Head → Bool
no_table_name l = not (some is_table_name l)

-- the word: a bit for each of them, where the peer is a Loc-RIB
abbrev pub warnings_of : BmpPeerType → List Head → ℕ
warnings_of peer l = pick (is_loc_rib (kind_of peer)) (pick (some bad_table_name l) 8 0 + pick (no_table_name l) 16 0) 0

abbrev pub warnings : BmpPeerType → Reading → ℕ
warnings peer r = warnings_of peer (map head_of r.tlvs)
