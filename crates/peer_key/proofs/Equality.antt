-- The test of two keys is true of equal ones and of no others. Assumes nothing.
use mathlib.Core.Bool.{true, and-eq-true_iff}
use mathlib.Core.Path.{◌≡◌, refl}
use borrow.Author.Tests.{eq-eqb, eqb-true}
use lib.Dec.{eqb}
use Rattle.models.proofs.Promises.{equals_is_equality}
use Rattle.per_peer_type.specs.Peer.{kind_of}
use Rattle.per_peer_type.proofs.Promises.{number_tells}
use Rattle.peer_key.specs.Key.{same_key, address_of}
use Rattle.peer_key.specs.declared.PeerKey.{PeerKey}

module _ (a b : PeerKey) where
  pub keys_equal : same_key a b ≡ true → a ≡ b
  unfolding same_key
  keys_equal e =
      let d = (and-eq-true_iff (eqb a.peer_distinguisher.0 b.peer_distinguisher.0) _).0 e in
      let i = (and-eq-true_iff (eqb a.peer_bgp_id.0 b.peer_bgp_id.0) _).0 d.1 in
      let t = (and-eq-true_iff (eqb (kind_of a.peer_type) (kind_of b.peer_type)) _).0 i.1 in
      let distinguishers : a.peer_distinguisher.0 ≡ b.peer_distinguisher.0 = eqb-true _ _ d.0 in
      let ids : a.peer_bgp_id.0 ≡ b.peer_bgp_id.0 = eqb-true _ _ i.0 in
      let types = number_tells a.peer_type b.peer_type (eqb-true _ _ t.0) in
      let addresses = (equals_is_equality (address_of a) (address_of b)).0 t.1 in
      λ j. record {
        peer_distinguisher = record { 0 = distinguishers j };
        octets = (addresses j).octets;
        peer_bgp_id = record { 0 = ids j };
        peer_type = types j;
        afi = (addresses j).afi;
      }

pub key_self : (k : PeerKey) → same_key k k ≡ true
unfolding same_key
key_self k =
    rw (
      eq-eqb k.peer_distinguisher.0 k.peer_distinguisher.0 refl,
      eq-eqb k.peer_bgp_id.0 k.peer_bgp_id.0 refl,
      eq-eqb (kind_of k.peer_type) (kind_of k.peer_type) refl,
    ) ((equals_is_equality (address_of k) (address_of k)).1 refl)
