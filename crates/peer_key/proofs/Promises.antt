-- What a user of the crate relies on. Assumes nothing.
use mathlib.Core.Bool.{Bool, true, false}
use mathlib.Core.Logic.{◌↔◌}
use mathlib.Core.Path.{◌≡◌, refl, ap}
use Rattle.wire.proofs.Determined.{determined}
use Rattle.per_peer_record.specs.declared.BmpPerPeerHeader.{BmpPerPeerHeader}
use Rattle.peer_key.specs.Key.{key_of, same_key, Part, peer-type, family, distinguisher, address, bgp-id, Agree}
use Rattle.peer_key.specs.declared.PeerKey.{PeerKey}
use Rattle.peer_key.proofs.Equality.{keys_equal, key_self}

-- ---- equality
-- the five parts are the same
pub record SameParts (a b : PeerKey) : Type 0 where
  pub types : a.peer_type ≡ b.peer_type
  pub families : a.afi ≡ b.afi
  pub distinguishers : a.peer_distinguisher.0 ≡ b.peer_distinguisher.0
  pub addresses : a.octets ≡ b.octets
  pub ids : a.peer_bgp_id.0 ≡ b.peer_bgp_id.0

-- `equals` says true of two keys exactly when they are one.
pub equals_is_equality : (a b : PeerKey) → (same_key a b ≡ true) ↔ (a ≡ b)
equals_is_equality a b = (keys_equal a b, λ e. rw (← e, key_self))

-- And that is so exactly when the five parts are the same.
pub equals_is_five_parts : (a b : PeerKey) → (same_key a b ≡ true) ↔ SameParts a b
equals_is_five_parts a b = (parts, same)
  where
    parts : same_key a b ≡ true → SameParts a b
    parts e =
        let z = keys_equal a b e in
        record {
          types = ap (λ (k : PeerKey). k.peer_type) z;
          families = ap (λ (k : PeerKey). k.afi) z;
          distinguishers = ap (λ (k : PeerKey). k.peer_distinguisher.0) z;
          addresses = ap (λ (k : PeerKey). k.octets) z;
          ids = ap (λ (k : PeerKey). k.peer_bgp_id.0) z;
        }

    same : SameParts a b → same_key a b ≡ true
    same s =
        (equals_is_equality a b).1
        (λ i. record {
          peer_distinguisher = record { 0 = s.distinguishers i };
          octets = s.addresses i;
          peer_bgp_id = record { 0 = s.ids i };
          peer_type = s.types i;
          afi = s.families i;
        })

-- ---- headers
-- The accident: headers that differ in any one part, the distinguisher say, have two keys, whatever else they agree in.
pub two_keys : (p : Part) (a b : BmpPerPeerHeader) → (Agree p a b → ⊥) → same_key (key_of a) (key_of b) ≡ false
two_keys p a b n = tested (same_key (key_of a) (key_of b)) refl
  where
    agree : (q : Part) → SameParts (key_of a) (key_of b) → Agree q a b
    agree peer-type s = s.types
    agree family s = s.families
    agree distinguisher s = s.distinguishers
    agree address s = s.addresses
    agree bgp-id s = s.ids

    tested : (t : Bool) → same_key (key_of a) (key_of b) ≡ t → t ≡ false
    tested false e = refl
    tested true e = absurd (n (agree p ((equals_is_five_parts (key_of a) (key_of b)).0 e)))

-- And the other way: headers that agree in the five parts have one key, whatever their AS, their other flags and their times.
pub one_key : (a b : BmpPerPeerHeader) → ((p : Part) → Agree p a b) → key_of a ≡ key_of b
one_key a b same =
    λ i. record {
      peer_distinguisher = record { 0 = same distinguisher i };
      octets = same address i;
      peer_bgp_id = record { 0 = same bgp-id i };
      peer_type = same peer-type i;
      afi = same family i;
    }

-- ---- any two answers that the contracts allow are equal
pub key_of_determined : (h : BmpPerPeerHeader) (r q : PeerKey) → r ≡ key_of h → q ≡ key_of h → r ≡ q
key_of_determined h r q = determined

pub equals_determined : (a b : PeerKey) (r q : Bool) → r ≡ same_key a b → q ≡ same_key a b → r ≡ q
equals_determined a b r q = determined
