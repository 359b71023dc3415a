-- What RFC 9069 asks of the header of a Loc-RIB, and a reader warns of. Each warning is a bit of one word.
use Rattle.std.specs.Prelude.{ℕ, ◌+◌, Bool, true, not, ◌&&◌, List, [], ◌∷◌, eqb}
use Rattle.wire.specs.Bytes.{pick}
use Rattle.per_peer_type.specs.Peer.{is_loc_rib}
use Rattle.per_peer_header.specs.Grammar.{Reading, address_bytes}

abbrev pub zero_filled : List ℕ → Bool
zero_filled [] = true
zero_filled (b ∷ l) = eqb b 0 && zero_filled l

-- 1: the address of a Loc-RIB is to be zero-filled, and it is not.
abbrev pub stray_address : ℕ → List ℕ → Bool
stray_address kind address = is_loc_rib kind && not (zero_filled address)

-- 2: the BGP ID of a Loc-RIB is to be the router-id of its instance. It is zero, though the distinguisher tells an instance.
abbrev pub no_router_id : ℕ → ℕ → ℕ → Bool
no_router_id kind id distinguisher = is_loc_rib kind && (eqb id 0 && not (eqb distinguisher 0))

-- the word: a bit for each of them
abbrev pub warnings_of : ℕ → List ℕ → ℕ → ℕ → ℕ
warnings_of kind address id distinguisher = pick (stray_address kind address) 1 0 + pick (no_router_id kind id distinguisher) 2 0

abbrev pub warnings : Reading → ℕ
warnings r = warnings_of r.kind (address_bytes r.address) r.id r.distinguisher
