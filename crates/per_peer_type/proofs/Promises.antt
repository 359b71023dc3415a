-- What a user of the crate relies on. Assumes nothing.
use mathlib.Core.Bool.{Bool}
use mathlib.Core.Path.{◌≡◌, refl, sym, ap, ◌∙◌}
use Prim.Native.Nat.{ℕ, ◌≤◌}
use native.Mathlib.Omega.{arith}
use Rattle.wire.proofs.Arms.{number_of_name}
use Rattle.wire.proofs.Determined.{determined}
use Rattle.models.specs.declared.Afi.{Afi}
use Rattle.models.specs.declared.AsnLength.{AsnLength}
use Rattle.per_peer_type.specs.Peer.{kind_of, names, type_of, flag_l, flag_o, flag_f, address_family, asn_length}
use Rattle.per_peer_type.specs.declared.BmpPeerType.{BmpPeerType}
use Rattle.per_peer_type.specs.declared.BmpPeerType.TheVariants.{LocalRib}
use Rattle.per_peer_type.specs.declared.PerPeerFlags.{PerPeerFlags}
use Rattle.per_peer_type.proofs.Flags.{named}

-- Different types have different numbers.
pub number_tells : (s t : BmpPeerType) → kind_of s ≡ kind_of t → s ≡ t
number_tells s t e = sym (named s).0 ∙ ap type_of e ∙ (named t).0

-- A number that is known is told by its type.
pub kind_told : (n : ℕ) → n ≤ 3 → kind_of (type_of n) ≡ n
unfolding type_of kind_of
kind_told n h = number_of_name kind_of n LocalRib names refl (λ k. omega arith)

-- ---- any two answers that the contracts allow are equal
pub type_of_determined : (kind : ℕ) (r q : BmpPeerType) → r ≡ type_of kind → q ≡ type_of kind → r ≡ q
type_of_determined kind r q = determined

pub number_determined : (t : BmpPeerType) (r q : ℕ) → r ≡ kind_of t → q ≡ kind_of t → r ≡ q
number_determined t r q = determined

module _ (flags : PerPeerFlags) where
  pub address_family_determined : (r q : Afi) → r ≡ address_family flags.0 → q ≡ address_family flags.0 → r ≡ q
  address_family_determined r q = determined

  pub is_post_policy_determined : (r q : Bool) → r ≡ flag_l flags.0 → q ≡ flag_l flags.0 → r ≡ q
  is_post_policy_determined r q = determined

  pub flags_asn_length_determined : (r q : AsnLength) → r ≡ asn_length flags.0 → q ≡ asn_length flags.0 → r ≡ q
  flags_asn_length_determined r q = determined

  pub is_adj_rib_out_determined : (r q : Bool) → r ≡ flag_o flags.0 → q ≡ flag_o flags.0 → r ≡ q
  is_adj_rib_out_determined r q = determined

  pub is_filtered_determined : (r q : Bool) → r ≡ flag_f flags.0 → q ≡ flag_f flags.0 → r ≡ q
  is_filtered_determined r q = determined
