-- The number that stands for a type, what `==` says of two types, and the flag that an AS length comes from. Assumes nothing.
use Prim.Native.Nat.{ℕ, ◌≤◌}
use native.Mathlib.Omega.{arith}
use mathlib.Core.Bool.{Bool, true, false}
use mathlib.Core.Path.{◌≡◌, refl}
use denote.Enum.Bare.{sameb}
use lib.Dec.{eqb}
use Rattle.wire.specs.Bytes.{pick}
use Rattle.models.specs.declared.AsnLength.TheVariants.{Bits16, Bits32}
use Rattle.per_peer_type.specs.Peer.{kind_of, type_of, is_loc_rib, flag_a, asn_length}
use Rattle.per_peer_type.specs.contracts.BmpPeerType.{the_type}
use Rattle.per_peer_type.specs.declared.BmpPeerType.{BmpPeerType}
use Rattle.per_peer_type.specs.declared.BmpPeerType.TheVariants.{Global, RD, Local, LocalRib}

pub named : (t : BmpPeerType) → (type_of (kind_of t) ≡ t) × (kind_of t ≤ 3)
unfolding type_of kind_of
named Global = (refl, omega arith)
named RD = (refl, omega arith)
named Local = (refl, omega arith)
named LocalRib = (refl, omega arith)

-- ---- the derived `==` compares the numbers
pub types_compared : (s t : BmpPeerType) → sameb the_type s t ≡ eqb (kind_of s) (kind_of t)
unfolding kind_of
types_compared Global = elim [ Global ↦ refl | RD ↦ refl | Local ↦ refl | LocalRib ↦ refl ]
types_compared RD = elim [ Global ↦ refl | RD ↦ refl | Local ↦ refl | LocalRib ↦ refl ]
types_compared Local = elim [ Global ↦ refl | RD ↦ refl | Local ↦ refl | LocalRib ↦ refl ]
types_compared LocalRib = elim [ Global ↦ refl | RD ↦ refl | Local ↦ refl | LocalRib ↦ refl ]

pub loc_rib_compared : (t : BmpPeerType) → sameb the_type t LocalRib ≡ is_loc_rib (kind_of t)
unfolding kind_of
loc_rib_compared t = types_compared t LocalRib

-- ---- what a flag says, told back from which of two names it has given
first_told : {A : Type 0} {x y : A} → (x ≡ y → false ≡ true) → (b : Bool) → x ≡ pick b x y → b ≡ true
first_told differ true e = refl
first_told differ false e = differ e

second_told : {A : Type 0} {x y : A} → (y ≡ x → true ≡ false) → (b : Bool) → y ≡ pick b x y → b ≡ false
second_told differ true e = differ e
second_told differ false e = refl

module _ (flags : ℕ) where
  pub bits16_flag : Bits16 ≡ asn_length flags → flag_a flags ≡ true
  bits16_flag = first_told (λ e. cc) (flag_a flags)

  pub bits32_flag : Bits32 ≡ asn_length flags → flag_a flags ≡ false
  bits32_flag = second_told (λ e. cc) (flag_a flags)
