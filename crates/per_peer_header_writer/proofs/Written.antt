-- What the writer writes: which headers are writable, and the bytes of one field after the other. Assumes nothing.
use Prim.Native.Nat.{ℕ, ◌/◌, ◌%◌, ◌^◌, ◌≤◌, ◌<◌}
use mathlib.Core.Bool.{true, and-eq-true_iff}
use mathlib.Core.Path.{◌≡◌, refl, sym, ap, ◌∙◌}
use mathlib.Core.List.{List, ◌++◌}
use native.Mathlib.Omega.{arith}
use borrow.Author.Tests.{eqb-true, eq-eqb}
use lib.Dec.{lit<}
use lib.ListN.{length, length-append}
use lib.Seq.{sets}
use Rattle.wire.specs.Bytes.{be, none}
use Rattle.wire.proofs.Bytes.{be_split}
use Rattle.wire.proofs.Views.{octets_zeros}
use Rattle.writing.specs.Write.{put_at}
use Rattle.writing.proofs.Sets.{put_then, put_fits, length_put}
use Rattle.models.specs.declared.IpAddr.{IpAddr}
use Rattle.models.proofs.Promises.{equals_is_equality}
use Rattle.times.proofs.Promises.{is_timestamp_is_equality}
use Rattle.per_peer_type.specs.Peer.{kind_of}
use Rattle.per_peer_type.proofs.Flags.{named}
use Rattle.per_peer_header.specs.Grammar.{AddressField, ipv4, ipv6, unused, AsField, as16, as32, address_bytes, as_bytes, AddressFits, AsFits, Layout, ipv4_as16, ipv4_as32, ipv6_as16, ipv6_as32, loc_rib, Good}
use Rattle.per_peer_header.specs.Shown.{shown_address, shown_asn, shown_header}
use Rattle.per_peer_header_writer.specs.Write.{address_of, as_of, blank_address, blank_as, reading_of, bytes_of, address_fits, as_fits, time_fits, writable, Typed}
use Rattle.per_peer_record.specs.declared.BmpPerPeerHeader.{BmpPerPeerHeader}
use Rattle.per_peer_header.proofs.Fields.{address-fits, as-fits, fields_layout}

-- ---- what `writable` asks
pub record Writable (h : BmpPerPeerHeader) : Type 0 where
  pub address_is : shown_address (address_of h) ≡ h.peer_ip
  pub asn_is : shown_asn (as_of h) ≡ h.peer_asn.0
  pub time_is : time_fits h ≡ true

pub writable_is : (h : BmpPerPeerHeader) → writable h ≡ true → Writable h
writable_is h e =
    let both = (and-eq-true_iff (address_fits h) _).0 e in
    let rest = (and-eq-true_iff (as_fits h) (time_fits h)).0 both.1 in
    record {
      address_is = (equals_is_equality (shown_address (address_of h)) h.peer_ip).0 both.0;
      asn_is = eqb-true (shown_asn (as_of h)) h.peer_asn.0 rest.0;
      time_is = rest.1;
    }

-- ---- the bytes that are written are those that are shown
written_address : (a : AddressField) → address_bytes (blank_address a) ≡ (shown_address a).octets
written_address (ipv4 skipped address) = refl
written_address (ipv6 address) = refl
written_address (unused skipped) = refl

written_as : (a : AsField) → AsFits a → as_bytes (blank_as a) ≡ be 4 (shown_asn a)
written_as (as16 skipped number) fits =
    let high : number / 256 ^ 2 ≡ 0 = omega (arith, fits.1) in
    let low : number % 256 ^ 2 ≡ number = omega (arith, fits.1) in
    sym (be_split 2 2 number (omega (arith, fits.1)) ∙ (λ i. be 2 (high i) ++ be 2 (low i)))
written_as (as32 number) fits = refl

-- ---- the fields of a header, one after the other
module _ (h : BmpPerPeerHeader) where
  abbrev front : List ℕ
  front = be 1 (kind_of h.peer_type) ++ (be 1 h.peer_flags.0 ++ be 8 h.peer_distinguisher.0)

  abbrev back : List ℕ
  back = be 4 h.peer_asn.0 ++ (be 4 h.peer_bgp_id.0 ++ (be 4 h.seconds ++ be 4 h.microseconds))

  module _ (small : h.peer_asn.0 < 256 ^ 4) (w : writable h ≡ true) where
    written_fields : bytes_of h ≡ front ++ (h.peer_ip.octets ++ back)
    unfolding be
    written_fields =
        let is = writable_is h w in
        let octets : address_bytes (blank_address (address_of h)) ≡ h.peer_ip.octets =
        written_address (address_of h) ∙ ap (λ (a : IpAddr). a.octets) is.address_is in
        let asn : as_bytes (blank_as (as_of h)) ≡ be 4 h.peer_asn.0 =
        written_as (as_of h) (as-fits (kind_of h.peer_type) h.peer_flags.0 h.peer_asn.0 small) ∙ ap (be 4) is.asn_is in
        λ i. front ++ (octets i ++ (asn i ++ (be 4 h.peer_bgp_id.0 ++ (be 4 h.seconds ++ be 4 h.microseconds))))

    module _ (sixteen : length h.peer_ip.octets ≡ 16) where
      pub length_written : length (bytes_of h) ≡ 42
      unfolding be
      length_written = ap length written_fields ∙ (let n = length-append h.peer_ip.octets back in omega arith)

      -- one put after the other
      pub put_all : (out o1 o2 o3 o4 o5 o6 o7 o8 : List ℕ) → 42 ≤ length out
          → o1 ≡ put_at out 0 (be 1 (kind_of h.peer_type)) → o2 ≡ put_at o1 1 (be 1 h.peer_flags.0)
          → o3 ≡ put_at o2 2 (be 8 h.peer_distinguisher.0) → o4 ≡ put_at o3 10 h.peer_ip.octets
          → o5 ≡ put_at o4 26 (be 4 h.peer_asn.0) → o6 ≡ put_at o5 30 (be 4 h.peer_bgp_id.0)
          → o7 ≡ put_at o6 34 (be 4 h.seconds) → o8 ≡ put_at o7 38 (be 4 h.microseconds) → o8 ≡ sets out 0 (bytes_of h)
      unfolding be
      put_all out o1 o2 o3 o4 o5 o6 o7 o8 long e1 e2 e3 e4 e5 e6 e7 e8 =
          let octets = h.peer_ip.octets in
          let a2 = be 1 (kind_of h.peer_type) ++ be 1 h.peer_flags.0 in
          let b6 = be 4 h.peer_asn.0 ++ be 4 h.peer_bgp_id.0 in
          let b7 = b6 ++ be 4 h.seconds in
          let p2 = put_then out o1 o2 0 1 (be 1 (kind_of h.peer_type)) (be 1 h.peer_flags.0) (omega arith) e1 refl e2 in
          let p3 = put_then out o2 o3 0 2 a2 (be 8 h.peer_distinguisher.0) (omega arith) p2 refl e3 in
          let p4 = put_then out o3 o4 0 10 front octets (omega arith) p3 refl e4 in
          let same : length o4 ≡ length out = ap length p4 ∙ length_put out 0 (front ++ octets) in
          let q6 = put_then o4 o5 o6 26 30 (be 4 h.peer_asn.0) (be 4 h.peer_bgp_id.0) (omega arith) e5 refl e6 in
          let q7 = put_then o4 o6 o7 26 34 b6 (be 4 h.seconds) (omega arith) q6 refl e7 in
          let q8 = put_then o4 o7 o8 26 38 b7 (be 4 h.microseconds) (omega arith) q7 refl e8 in
          let p8 = put_then out o4 o8 0 26 (front ++ octets) back (omega arith) p4 (omega arith) q8 in
          p8 ∙ ap (put_at out 0) (sym written_fields) ∙ put_fits out 0 (bytes_of h) (omega (arith, length_written))

-- ---- a field with its skipped bytes zero has the same layout, fits as well, and is shown the same
blank_layout : {kind flags : ℕ} {a : AddressField} {n : AsField} → Layout kind flags a n → Layout kind flags (blank_address a) (blank_as n)
blank_layout (ipv4_as16 k v f) = ipv4_as16 k v f
blank_layout (ipv4_as32 k v f) = ipv4_as32 k v f
blank_layout (ipv6_as16 k v f) = ipv6_as16 k v f
blank_layout (ipv6_as32 k v f) = ipv6_as32 k v f
blank_layout (loc_rib k) = loc_rib k

blank-address : (a : AddressField) → AddressFits a → AddressFits (blank_address a) × (shown_address (blank_address a) ≡ shown_address a)
blank-address (ipv4 skipped address) fits = ((octets_zeros 12, fits.1), refl)
blank-address (ipv6 address) fits = (fits, refl)
blank-address (unused skipped) fits = (octets_zeros 16, refl)

blank-as : (a : AsField) → AsFits a → AsFits (blank_as a) × (shown_asn (blank_as a) ≡ shown_asn a)
blank-as (as16 skipped number) fits = ((lit< tt, fits.1), refl)
blank-as (as32 number) fits = (fits, refl)

-- ---- the reading of a header is good, and shows the header again exactly where it is writable
module _ (h : BmpPerPeerHeader) (t : Typed h) where
  address_kept : AddressFits (blank_address (address_of h)) × (shown_address (blank_address (address_of h)) ≡ shown_address (address_of h))
  address_kept = blank-address (address_of h) (address-fits (kind_of h.peer_type) h.peer_flags.0 t.octets)

  as_kept : AsFits (blank_as (as_of h)) × (shown_asn (blank_as (as_of h)) ≡ shown_asn (as_of h))
  as_kept = blank-as (as_of h) (as-fits (kind_of h.peer_type) h.peer_flags.0 h.peer_asn.0 t.asn_fits)

  pub good_reading : Good (reading_of h)
  good_reading =
      record {
        flags_fit = t.flags_fit;
        distinguisher_fits = t.distinguisher_fits;
        layout =
            blank_layout
            (fields_layout (kind_of h.peer_type) h.peer_flags.0 h.peer_ip.octets h.peer_asn.0 (named h.peer_type).1);
        address-fits = address_kept.0;
        asn_fits = as_kept.0;
        id_fits = t.id_fits;
        seconds_fit = t.seconds_fit;
        microseconds_fit = t.microseconds_fit;
        tail_bytes = none;
      }

  pub shown_again : writable h ≡ true → shown_header (reading_of h) ≡ h
  shown_again w =
      let is = writable_is h w in
      let peer-ip = address_kept.1 ∙ is.address_is in
      let peer-asn = as_kept.1 ∙ is.asn_is in
      let time = sym ((is_timestamp_is_equality h.timestamp h.seconds h.microseconds t.time-fits).0 is.time_is) in
      λ i. record {
        peer_type = (named h.peer_type).0 i;
        peer_flags = h.peer_flags;
        peer_distinguisher = h.peer_distinguisher;
        peer_ip = peer-ip i;
        peer_asn = record { 0 = peer-asn i };
        peer_bgp_id = h.peer_bgp_id;
        timestamp = time i;
        seconds = h.seconds;
        microseconds = h.microseconds;
      }

  pub again_writable : shown_header (reading_of h) ≡ h → writable h ≡ true
  again_writable e =
      let peer-ip = sym address_kept.1 ∙ ap (λ (x : BmpPerPeerHeader). x.peer_ip) e in
      let peer-asn = sym as_kept.1 ∙ ap (λ (x : BmpPerPeerHeader). x.peer_asn.0) e in
      let time = sym (ap (λ (x : BmpPerPeerHeader). x.timestamp) e) in
      rw (
        (equals_is_equality (shown_address (address_of h)) h.peer_ip).1 peer-ip,
        eq-eqb (shown_asn (as_of h)) h.peer_asn.0 peer-asn,
      )
      ((is_timestamp_is_equality h.timestamp h.seconds h.microseconds t.time-fits).1 time)
