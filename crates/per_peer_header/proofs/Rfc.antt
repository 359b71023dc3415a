-- A header that conforms to RFC 7854 or RFC 9069 is read, and shown as the RFC has it. Assumes nothing.
use mathlib.Core.Path.{◌≡◌, refl, sym, ap, ◌∙◌, subst}
use mathlib.Core.Bool.{Bool, true, false}
use mathlib.Core.List.{List, ◌++◌, append_assoc}
use mathlib.Core.Logic.{◌⊎◌, inl, inr}
use Prim.Native.Nat.{ℕ, ◌+◌, ◌%◌, ◌^◌, ◌≤◌, ◌<◌}
use native.Mathlib.Nat.{mod-eq_of_lt}
use native.Mathlib.Omega.{arith}
use borrow.Author.Tests.{ne_eqb}
use lib.ListN.{length, length-append, replicate}
use Rattle.wire.specs.Number as Number
use Rattle.wire.specs.Bytes.{pick, be, Bytes, Octets}
use Rattle.std.specs.declared.result.Result.TheVariants.{Ok}
use Rattle.wire.proofs.Bytes.{bytes_append}
use Rattle.wire.proofs.Views.{octets_zeros}
use Rattle.models.specs.Rfc.{Address, ipv4, ipv6, field_of, family_of, AddressFits}
use Rattle.times.specs.Time.{time_of}
use Rattle.per_peer_type.specs.Peer.{type_of, flag_v, flag_a}
use Rattle.per_peer_header.specs.Grammar.{Reading, join, Good}
use Rattle.per_peer_header.specs.Warnings.{warnings}
use Rattle.per_peer_header.specs.Shown.{shown, shown_address, shown_asn}
use Rattle.per_peer_header.specs.Read.{address_field, as_field, read_per_peer_header}
use Rattle.per_peer_header.specs.Rfc.{bit, is_ipv6, Peer, flags_of, peer_bytes, PeerConforms, LocRib, loc_rib_bytes, LocRibConforms, shown_as, peer_header, loc_rib_header}
use Rattle.per_peer_header.proofs.Fields.{address-bytes, address-fits, as-bytes, as-fits, fields_layout}
use Rattle.per_peer_header.proofs.Promises.{complete}

-- ---- the fields one after the other, as both RFCs have them, with the sixteen bytes of the address and all four of the AS
module _ (kind flags distinguisher : ℕ) (field : List ℕ) (asn id seconds microseconds : ℕ) where
  abbrev field_bytes : List ℕ
  field_bytes =
      be 1 kind ++ (be 1 flags ++ (be 8 distinguisher ++ (field ++ (be 4 asn ++ (be 4 id ++ (be 4 seconds ++ be 4 microseconds))))))

  -- the grammar's reading of them
  abbrev reading_of : List ℕ → Reading
  reading_of tail =
      record {
        kind = kind;
        flags = flags;
        distinguisher = distinguisher;
        address = address_field kind flags field;
        asn = as_field kind flags asn;
        id = id;
        seconds = seconds;
        microseconds = microseconds;
        tail = tail;
      }

  fields_shown : kind ≤ 3 → flags < 2 ^ 8 → distinguisher < 2 ^ 64 → Octets 16 field → asn < 2 ^ 32 → id < 2 ^ 32 → seconds < 2 ^ 32
      → microseconds < 1000000 → (tail : List ℕ) → Bytes tail → length (field_bytes ++ tail) ≤ Number.limit
      → read_per_peer_header (field_bytes ++ tail) ≡ shown (reading_of tail)
  unfolding be
  fields_shown known flags_fit distinguisher_fits sixteen asn_fits id_fits seconds_fit microseconds_fit tail tail_bytes limit =
      let r = reading_of tail in
      let rest = be 4 asn ++ (be 4 id ++ (be 4 seconds ++ be 4 microseconds)) in
      let joined : join r ≡ field_bytes ++ tail =
      rw (address-bytes kind flags field, as-bytes kind flags asn asn_fits)
      (ap (λ (l : List ℕ). be 1 kind ++ (be 1 flags ++ (be 8 distinguisher ++ l))) (sym (append_assoc field rest tail))) in
      let good : Good r =
      record {
        flags_fit = flags_fit;
        distinguisher_fits = distinguisher_fits;
        layout = fields_layout kind flags field asn known;
        address-fits = address-fits kind flags sixteen;
        asn_fits = as-fits kind flags asn asn_fits;
        id_fits = id_fits;
        seconds_fit = seconds_fit;
        microseconds_fit = omega arith;
        tail_bytes = tail_bytes;
      } in
      ap read_per_peer_header (sym joined) ∙ complete r good tt (subst (λ (s : List ℕ). length s ≤ Number.limit) (sym joined) limit)

-- a flag is at most its weight
bit_at_most : (weight : ℕ) (set : Bool) → bit weight set ≤ weight
bit_at_most weight true = omega arith
bit_at_most weight false = omega arith

-- ---- of a peer
-- the two flags that lay out address and AS, whatever the other two are
flags_told : (v l a o : Bool)
    → (flag_v (bit 0x80 v + (bit 0x40 l + (bit 0x20 a + bit 0x10 o))) ≡ v) × (flag_a (bit 0x80 v + (bit 0x40 l + (bit 0x20 a + bit 0x10 o))) ≡ a)
flags_told true true true true = (refl, refl)
flags_told true true true false = (refl, refl)
flags_told true true false true = (refl, refl)
flags_told true true false false = (refl, refl)
flags_told true false true true = (refl, refl)
flags_told true false true false = (refl, refl)
flags_told true false false true = (refl, refl)
flags_told true false false false = (refl, refl)
flags_told false true true true = (refl, refl)
flags_told false true true false = (refl, refl)
flags_told false true false true = (refl, refl)
flags_told false true false false = (refl, refl)
flags_told false false true true = (refl, refl)
flags_told false false true false = (refl, refl)
flags_told false false false true = (refl, refl)
flags_told false false false false = (refl, refl)

field_octets : (a : Address) → AddressFits a → Octets 16 (field_of a)
field_octets (ipv4 address) fits =
    let zeros = octets_zeros 12 in
    record {
      many = length-append (replicate 12 0) address ∙ omega (arith, zeros.many, fits.many);
      are_bytes = bytes_append zeros.are_bytes fits.are_bytes;
    }
field_octets (ipv6 address) fits = fits

module _ (kind flags : ℕ) (known : kind ≤ 2) where
  field_shown : (a : Address) → flag_v flags ≡ is_ipv6 a
      → shown_address (address_field kind flags (field_of a)) ≡ record { octets = field_of a; afi = family_of a }
  field_shown (ipv4 address) v = rw (ne_eqb kind 3 (omega arith), v)
  field_shown (ipv6 address) v = rw (ne_eqb kind 3 (omega arith), v)

  asn_shown : (legacy : Bool) (asn : ℕ) → flag_a flags ≡ legacy → shown_asn (as_field kind flags asn) ≡ pick legacy (asn % 2 ^ 16) asn
  asn_shown true asn a = rw (ne_eqb kind 3 (omega arith), a)
  asn_shown false asn a = rw (ne_eqb kind 3 (omega arith), a)

-- The header of a peer that conforms is shown as the RFC has it, with no warning.
pub peer_shown : (p : Peer) → PeerConforms p → (tail : List ℕ) → Bytes tail → length (peer_bytes p ++ tail) ≤ Number.limit
    → read_per_peer_header (peer_bytes p ++ tail) ≡ Ok (record { stop = 42; warnings = 0; header = peer_header p })
peer_shown p c tail tail_bytes limit =
    let kind = p.peer_type in
    let flags = flags_of p in
    let told = flags_told (is_ipv6 p.address) p.post_policy p.legacy_as_path p.adj_rib_out in
    let r = reading_of kind flags p.distinguisher (field_of p.address) p.asn p.bgp_id p.seconds p.microseconds tail in
    let flags_fit : flags < 2 ^ 8 =
    omega (
      arith,
      bit_at_most 0x80 (is_ipv6 p.address),
      bit_at_most 0x40 p.post_policy,
      bit_at_most 0x20 p.legacy_as_path,
      bit_at_most 0x10 p.adj_rib_out,
    ) in
    let unwarned : warnings r ≡ 0 = rw (ne_eqb kind 3 (omega (arith, c.type-known))) in
    let address_is = field_shown kind flags c.type-known p.address told.0 in
    let asn_is = asn_shown kind flags c.type-known p.legacy_as_path p.asn told.1 in
    fields_shown kind flags p.distinguisher (field_of p.address) p.asn p.bgp_id p.seconds p.microseconds
    (omega (arith, c.type-known)) flags_fit c.distinguisher_fits (field_octets p.address c.address-fits) c.asn_fits c.id_fits
    c.seconds_fit c.microseconds_fit tail tail_bytes limit
    ∙ (λ i. Ok (record {
      stop = 42;
      warnings = unwarned i;
      header =
          record {
            peer_type = type_of kind;
            peer_flags = record { 0 = flags };
            peer_distinguisher = record { 0 = p.distinguisher };
            peer_ip = address_is i;
            peer_asn = record { 0 = asn_is i };
            peer_bgp_id = record { 0 = p.bgp_id };
            timestamp = time_of p.seconds p.microseconds;
            seconds = p.seconds;
            microseconds = p.microseconds;
          };
    }))

-- The AS shown is the four-byte number, unless the A flag is set and the number does not fit 16 bits.
pub as_shown : (p : Peer) → (p.legacy_as_path ≡ false) ⊎ (p.asn < 2 ^ 16) → shown_as p ≡ p.asn
as_shown p (inl clear) = rw clear
as_shown p (inr small) = go p.legacy_as_path
  where
    go : (legacy : Bool) → pick legacy (p.asn % 2 ^ 16) p.asn ≡ p.asn
    go true = mod-eq_of_lt small
    go false = refl

-- ---- of a Loc-RIB
-- The header of a Loc-RIB that conforms is shown as RFC 9069 has it, with no warning.
pub loc_rib_shown : (l : LocRib) → LocRibConforms l → (tail : List ℕ) → Bytes tail → length (loc_rib_bytes l ++ tail) ≤ Number.limit
    → read_per_peer_header (loc_rib_bytes l ++ tail) ≡ Ok (record { stop = 42; warnings = 0; header = loc_rib_header l })
unfolding type_of
loc_rib_shown l c tail tail_bytes limit =
    let flags = bit 0x80 l.filtered in
    let r = reading_of 3 flags l.distinguisher (replicate 16 0) l.asn l.bgp_id l.seconds l.microseconds tail in
    let unwarned : warnings r ≡ 0 = rw (ne_eqb l.bgp_id 0 (omega (arith, c.id_is_there))) in
    fields_shown 3 flags l.distinguisher (replicate 16 0) l.asn l.bgp_id l.seconds l.microseconds
    (omega arith) (omega (arith, bit_at_most 0x80 l.filtered)) c.distinguisher_fits (octets_zeros 16) c.asn_fits c.id_fits
    c.seconds_fit c.microseconds_fit tail tail_bytes limit
    ∙ (λ i. Ok (record { stop = 42; warnings = unwarned i; header = loc_rib_header l }))
