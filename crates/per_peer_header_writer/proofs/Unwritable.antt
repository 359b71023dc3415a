-- The tests of `writable` are those of the list. Assumes nothing.
use Prim.Native.Nat.{ℕ, ◌/◌, ◌%◌, ◌^◌, ◌≤◌, ◌<◌}
use mathlib.Core.Bool.{Bool, true, false}
use mathlib.Core.Path.{◌≡◌, refl, sym, ap}
use mathlib.Core.List.{List, ◌++◌}
use mathlib.Core.Logic.{◌⊎◌, inl, inr}
use native.Mathlib.Omega.{arith}
use borrow.Author.Tests.{eqb-true, eqb-false, eq-eqb}
use lib.Dec.{eqb}
use lib.ListN.{length, take, drop, replicate}
use Rattle.wire.specs.Bytes.{pick}
use Rattle.writing.proofs.Unwritable.{FalseWhere, restated, not_equal, never, unless, either}
use Rattle.models.specs.Address.{same_address, unspecified, UnusedNotZero}
use Rattle.models.specs.declared.Afi.{Afi}
use Rattle.models.specs.declared.Afi.TheVariants.{Ipv4, Ipv6}
use Rattle.models.specs.declared.IpAddr.{IpAddr}
use Rattle.models.proofs.Unused.{not_zeros, none_shown, last_four_shown}
use Rattle.models.proofs.Promises.{equals_is_equality}
use Rattle.times.specs.Time.{NotItsWords}
use Rattle.times.proofs.Promises.{is_timestamp_is_equality}
use Rattle.per_peer_type.specs.Peer.{kind_of}
use Rattle.per_peer_type.proofs.Flags.{named}
use Rattle.per_peer_header.specs.Grammar.{ipv4, ipv6, unused, as16, as32}
use Rattle.per_peer_header.specs.Shown.{shown_address, shown_asn}
use Rattle.per_peer_header.specs.Read.{address_field, as_field}
use Rattle.per_peer_header_writer.specs.Write.{writable, Typed}
use Rattle.per_peer_header_writer.specs.Unwritable.{FamilyNotTheFlags, LocRibAddress, AsTooLarge, Unwritable, family_not_the_flags, unused_not_zero, loc_rib_address, as_too_large, not_its_words}
use Rattle.per_peer_record.specs.declared.BmpPerPeerHeader.{BmpPerPeerHeader}

abbrev ip : Afi → List ℕ → IpAddr
ip afi octets = record { octets = octets; afi = afi }

abbrev AddressItems : ℕ → ℕ → Afi → List ℕ → Type 0
AddressItems type flags afi octets = FamilyNotTheFlags type flags afi ⊎ (UnusedNotZero afi (take 12 octets) ⊎ LocRibAddress type afi octets)

not_same : (a b : IpAddr) → FalseWhere (same_address a b) (a ≡ b → ⊥)
not_same a b = unless (equals_is_equality a b)

module _ (type flags : ℕ) (octets : List ℕ) (known : type ≤ 3) (sixteen : length octets ≡ 16) where
  -- ---- type 3
  loc_rib : type ≡ 3 → (afi : Afi) → FalseWhere (same_address unspecified (ip afi octets)) (AddressItems type flags afi octets)
  loc_rib is Ipv6 = (λ e. inr (inr is), λ u. refl)
  loc_rib is Ipv4 = restated (λ other. inr (inr (is, (none_shown octets sixteen).0 other))) back (not_same unspecified (ip Ipv4 octets))
    where
      back : AddressItems type flags Ipv4 octets → unspecified ≡ ip Ipv4 octets → ⊥
      back (inl x) = absurd (omega (arith, x.0, is))
      back (inr (inl u)) = λ p. not_zeros 12 (take 12 octets) (ap (λ (a : IpAddr). take 12 a.octets) (sym p)) u
      back (inr (inr x)) = (none_shown octets sixteen).1 x.1

  -- ---- types 0 to 2, and the flags say IPv6
  six : type < 3 → flags / 0x80 % 2 ≡ 1 → (afi : Afi) → FalseWhere (same_address (ip Ipv6 octets) (ip afi octets)) (AddressItems type flags afi octets)
  six low is Ipv4 = (λ e. inl (low, is), λ u. refl)
  six low is Ipv6 = restated (λ x. absurd x) back (never ((equals_is_equality (ip Ipv6 octets) (ip Ipv6 octets)).1 refl))
    where
      back : AddressItems type flags Ipv6 octets → ⊥
      back (inl x) = absurd (omega (arith, x.1, is))
      back (inr (inl x)) = x
      back (inr (inr x)) = absurd (omega (arith, x, low))

  -- ---- types 0 to 2, and the flags say IPv4
  abbrev shown_four : IpAddr
  shown_four = ip Ipv4 (replicate 12 0 ++ drop 12 octets)

  four : type < 3 → flags / 0x80 % 2 ≡ 0 → (afi : Afi) → FalseWhere (same_address shown_four (ip afi octets)) (AddressItems type flags afi octets)
  four low is Ipv6 = (λ e. inl (low, is), λ u. refl)
  four low is Ipv4 = restated (λ other. inr (inl ((last_four_shown octets sixteen).0 other))) back (not_same shown_four (ip Ipv4 octets))
    where
      back : AddressItems type flags Ipv4 octets → shown_four ≡ ip Ipv4 octets → ⊥
      back (inl x) = absurd (omega (arith, x.1, is))
      back (inr (inl u)) = (last_four_shown octets sixteen).1 u
      back (inr (inr x)) = absurd (omega (arith, x.0, low))

  address : (afi : Afi) → FalseWhere (same_address (shown_address (address_field type flags octets)) (ip afi octets)) (AddressItems type flags afi octets)
  address afi = go (eqb type 3) refl (eqb (flags / 0x80 % 2) 1) refl
    where
      go : (b : Bool) → eqb type 3 ≡ b → (c : Bool) → eqb (flags / 0x80 % 2) 1 ≡ c
          → FalseWhere (same_address (shown_address (pick b (unused octets) (pick c (ipv6 octets) (ipv4 (take 12 octets) (drop 12 octets))))) (ip afi octets)) (AddressItems type flags afi octets)
      go true h c k = loc_rib (eqb-true type 3 h) afi
      go false h true k = let n = eqb-false type 3 h in six (omega arith) (eqb-true (flags / 0x80 % 2) 1 k) afi
      go false h false k = let n = eqb-false type 3 h in let m = eqb-false (flags / 0x80 % 2) 1 k in four (omega arith) (omega arith) afi

asn_listed : (type flags asn : ℕ) → type ≤ 3 → FalseWhere (eqb (shown_asn (as_field type flags asn)) asn) (AsTooLarge type flags asn)
asn_listed type flags asn known = go (eqb type 3) refl (eqb (flags / 0x20 % 2) 1) refl
  where
    go : (b : Bool) → eqb type 3 ≡ b → (c : Bool) → eqb (flags / 0x20 % 2) 1 ≡ c
        → FalseWhere (eqb (shown_asn (pick b (as32 asn) (pick c (as16 (asn / 256 ^ 2) (asn % 256 ^ 2)) (as32 asn)))) asn) (AsTooLarge type flags asn)
    go true h c k = restated (λ x. absurd x) (λ x. absurd (omega (arith, eqb-true type 3 h, x.0))) (never (eq-eqb asn asn refl))
    go false h true k =
        let other_type = eqb-false type 3 h in
        restated (λ other. (omega (arith, known, other_type), eqb-true (flags / 0x20 % 2) 1 k, omega (arith, other))) (λ x e. absurd (omega (arith, e, x.2)))
        (not_equal (asn % 256 ^ 2) asn)
    go false h false k = restated (λ x. absurd x) (λ x. absurd (eqb-false (flags / 0x20 % 2) 1 k x.1)) (never (eq-eqb asn asn refl))

module _ (h : BmpPerPeerHeader) where
  abbrev type : ℕ
  type = kind_of h.peer_type

  abbrev flags : ℕ
  flags = h.peer_flags.0

  abbrev Items : Type 0
  Items =
      AddressItems type flags h.peer_ip.afi h.peer_ip.octets
      ⊎ (AsTooLarge type flags h.peer_asn.0 ⊎ NotItsWords h.timestamp h.seconds h.microseconds)

  forth : Items → Unwritable h
  forth (inl (inl x)) = family_not_the_flags x
  forth (inl (inr (inl x))) = unused_not_zero x
  forth (inl (inr (inr x))) = loc_rib_address x
  forth (inr (inl x)) = as_too_large x
  forth (inr (inr x)) = not_its_words x

  back : Unwritable h → Items
  back (family_not_the_flags x) = inl (inl x)
  back (unused_not_zero x) = inl (inr (inl x))
  back (loc_rib_address x) = inl (inr (inr x))
  back (as_too_large x) = inr (inl x)
  back (not_its_words x) = inr (inr x)

  pub listed : Typed h → FalseWhere (writable h) (Unwritable h)
  listed t =
      let known = (named h.peer_type).1 in
      restated forth back
      (either (address type flags h.peer_ip.octets known t.octets.many h.peer_ip.afi)
      (either (asn_listed type flags h.peer_asn.0 known)
      (unless (is_timestamp_is_equality h.timestamp h.seconds h.microseconds t.time-fits))))
