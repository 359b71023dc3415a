-- The address and the AS of a header: taken apart and joined again, both ways. Assumes nothing.
use Prim.Native.Nat.{ℕ, ◌+◌, ◌-◌, ◌*◌, ◌/◌, ◌%◌, ◌^◌, ◌≤◌, ◌<◌}
use mathlib.Core.Bool.{Bool, true, false}
use mathlib.Core.Path.{◌≡◌, refl, sym, ap₂, ◌∙◌}
use mathlib.Core.List.{List, ◌++◌}
use native.Mathlib.Nat.{mod-lt}
use native.Mathlib.Omega.{arith}
use borrow.Author.Tests.{le-leb, eqb-true, eqb-false, eq-eqb, ne_eqb}
use lib.Dec.{lit<}
use lib.ListN.{length, take, drop, length-append, length-drop, take-append-drop}
use lib.Seq.{length-take-le, take_at, drop_at}
use Rattle.wire.specs.Bytes.{pick, be, value, num_at, number_at, Octets}
use Rattle.wire.proofs.Bytes.{length_be, value_be, value_append, be_split, bytes_take, bytes_drop, number_is}
use Rattle.addresses.specs.Address.{sixteen_at}
use Rattle.per_peer_type.specs.Peer.{is_loc_rib, flag_v, flag_a}
use Rattle.per_peer_header.specs.Grammar.{AddressField, ipv4, ipv6, unused, AsField, as16, as32, address_bytes, as_bytes, AddressFits, AsFits, Layout, ipv4_as16, ipv4_as32, ipv6_as16, ipv6_as32, loc_rib}
use Rattle.per_peer_header.specs.Read.{address_field, as_field}

-- ---- what lies within the 42 bytes is there
module _ (s : List ℕ) (long : 42 ≤ length s) where
  pub there : (w at : ℕ) → at + w ≤ 42 → number_at w s at ≡ num_at w s at
  there w at inside = number_is w s at (omega arith)

  pub address_there : sixteen_at s 10 ≡ take 16 (drop 10 s)
  address_there = rw (le-leb 16 (length s - 10) (omega arith))

-- ---- how long the fields are, and the number of an AS
pub length_address : (a : AddressField) → AddressFits a → length (address_bytes a) ≡ 16
length_address (ipv4 skipped address) fits = length-append skipped address ∙ ap₂ ◌+◌ fits.0.many fits.1.many
length_address (ipv6 address) fits = fits.many
length_address (unused skipped) fits = fits.many

pub length_as : (a : AsField) → length (as_bytes a) ≡ 4
unfolding be
length_as (as16 skipped number) = refl
length_as (as32 number) = refl

pub number_of : AsField → ℕ
number_of (as16 skipped number) = skipped * 256 ^ 2 + number
number_of (as32 number) = number

pub value_as : (a : AsField) → AsFits a → value (as_bytes a) ≡ number_of a
unfolding number_of
value_as (as16 skipped number) fits =
    value_append (be 2 skipped) (be 2 number)
    ∙ rw (length_be 2 number, value_be 2 skipped fits.0, value_be 2 number fits.1)
value_as (as32 number) fits = value_be 4 number fits

-- ---- taken apart, then joined
module _ (kind flags : ℕ) where
  pub address-bytes : (bytes : List ℕ) → address_bytes (address_field kind flags bytes) ≡ bytes
  address-bytes bytes = go (is_loc_rib kind) (flag_v flags)
    where
      go : (a b : Bool) → address_bytes (pick a (unused bytes) (pick b (ipv6 bytes) (ipv4 (take 12 bytes) (drop 12 bytes)))) ≡ bytes
      go true b = refl
      go false true = refl
      go false false = take-append-drop 12 bytes

  pub address-fits : {bytes : List ℕ} → Octets 16 bytes → AddressFits (address_field kind flags bytes)
  address-fits {bytes} o = go (is_loc_rib kind) (flag_v flags)
    where
      go : (a b : Bool) → AddressFits (pick a (unused bytes) (pick b (ipv6 bytes) (ipv4 (take 12 bytes) (drop 12 bytes))))
      go true b = o
      go false true = o
      go false false =
          let n = o.many in (
            record { many = length-take-le 12 bytes (omega arith); are_bytes = bytes_take 12 o.are_bytes },
            record { many = length-drop 12 bytes ∙ omega arith; are_bytes = bytes_drop 12 o.are_bytes },
          )

  module _ (number : ℕ) (small : number < 256 ^ 4) where
    pub as-bytes : as_bytes (as_field kind flags number) ≡ be 4 number
    as-bytes = go (is_loc_rib kind) (flag_a flags)
      where
        go : (a b : Bool) → as_bytes (pick a (as32 number) (pick b (as16 (number / 256 ^ 2) (number % 256 ^ 2)) (as32 number))) ≡ be 4 number
        go true b = refl
        go false true = sym (be_split 2 2 number small)
        go false false = refl

    pub as-fits : AsFits (as_field kind flags number)
    as-fits = go (is_loc_rib kind) (flag_a flags)
      where
        go : (a b : Bool) → AsFits (pick a (as32 number) (pick b (as16 (number / 256 ^ 2) (number % 256 ^ 2)) (as32 number)))
        go true b = small
        go false true = (omega arith, mod-lt number (lit< tt))
        go false false = small

  pub fields_layout : (bytes : List ℕ) (number : ℕ) → kind ≤ 3 → Layout kind flags (address_field kind flags bytes) (as_field kind flags number)
  fields_layout bytes number known = go (is_loc_rib kind) refl (flag_v flags) refl (flag_a flags) refl
    where
      less : is_loc_rib kind ≡ false → kind < 3
      less e = let h = eqb-false kind 3 e in omega arith

      go : (a : Bool) → is_loc_rib kind ≡ a → (b : Bool) → flag_v flags ≡ b → (c : Bool) → flag_a flags ≡ c
          → Layout kind flags (pick a (unused bytes) (pick b (ipv6 bytes) (ipv4 (take 12 bytes) (drop 12 bytes))))
          (pick a (as32 number) (pick c (as16 (number / 256 ^ 2) (number % 256 ^ 2)) (as32 number)))
      go true ha b hb c hc = loc_rib (eqb-true kind 3 ha)
      go false ha false hb true hc = ipv4_as16 (less ha) hb hc
      go false ha false hb false hc = ipv4_as32 (less ha) hb hc
      go false ha true hb true hc = ipv6_as16 (less ha) hb hc
      go false ha true hb false hc = ipv6_as32 (less ha) hb hc

-- ---- joined, then taken apart
other : (kind : ℕ) → kind < 3 → is_loc_rib kind ≡ false
other kind h = ne_eqb kind 3 (omega arith)

module _ (kind flags : ℕ) where
  back4 : {s a : List ℕ} → kind < 3 → flag_v flags ≡ false → Octets 12 s → address_field kind flags (s ++ a) ≡ ipv4 s a
  back4 {s} {a} k v o = rw (other kind k, v, take_at s a 12 o.many, drop_at s a 12 o.many)

  back6 : {a : List ℕ} → kind < 3 → flag_v flags ≡ true → address_field kind flags a ≡ ipv6 a
  back6 k v = rw (other kind k, v)

  back16 : {m n : ℕ} → kind < 3 → flag_a flags ≡ true → n < 256 ^ 2 → as_field kind flags (m * 256 ^ 2 + n) ≡ as16 m n
  back16 {m} {n} k f small =
      let high : (m * 256 ^ 2 + n) / 256 ^ 2 ≡ m = omega arith in
      let low : (m * 256 ^ 2 + n) % 256 ^ 2 ≡ n = omega arith in
      rw (other kind k, f, high, low)

  back32 : {n : ℕ} → kind < 3 → flag_a flags ≡ false → as_field kind flags n ≡ as32 n
  back32 k f = rw (other kind k, f)

  pub fields_back : {a : AddressField} {n : AsField} → Layout kind flags a n → AddressFits a → AsFits n
      → (address_field kind flags (address_bytes a) ≡ a) × (as_field kind flags (number_of n) ≡ n)
  unfolding number_of
  fields_back (ipv4_as16 k v f) fa fn = (back4 k v fa.0, back16 k f fn.1)
  fields_back (ipv4_as32 k v f) fa fn = (back4 k v fa.0, back32 k f)
  fields_back (ipv6_as16 k v f) fa fn = (back6 k v, back16 k f fn.1)
  fields_back (ipv6_as32 k v f) fa fn = (back6 k v, back32 k f)
  fields_back (loc_rib k) fa fn = (rw (eq-eqb kind 3 k), rw (eq-eqb kind 3 k))

-- ---- a layout is one of a known type
pub layout_known : {kind flags : ℕ} {a : AddressField} {n : AsField} → Layout kind flags a n → kind ≤ 3
layout_known (ipv4_as16 k v f) = omega arith
layout_known (ipv4_as32 k v f) = omega arith
layout_known (ipv6_as16 k v f) = omega arith
layout_known (ipv6_as32 k v f) = omega arith
layout_known (loc_rib k) = omega arith
