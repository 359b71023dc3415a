-- A good reading is told by the answer that shows it. Assumes nothing.
use Prim.Native.Nat.{ℕ}
use mathlib.Core.Path.{◌≡◌, ap, ◌∙◌}
use mathlib.Core.List.{List}
use native.Mathlib.Omega.{arith}
use borrow.Author.Tests.{eq-eqb, ne_eqb}
use Rattle.wire.specs.Exactly.{Told}
use Rattle.times.specs.Time.{time_of}
use Rattle.per_peer_type.specs.Peer.{kind_of, type_of}
use Rattle.per_peer_type.proofs.Promises.{kind_told}
use Rattle.per_peer_header.specs.Grammar.{AddressField, AsField, Reading, Skipped, address_skipped, as_skipped, Good, Layout, ipv4_as16, ipv4_as32, ipv6_as16, ipv6_as32, loc_rib}
use Rattle.per_peer_header.specs.Shown.{shown_address, shown_asn, shown_header}
use Rattle.per_peer_header.specs.Told.{told_address, told_as, told_header}
use Rattle.per_peer_header.specs.Read.{reader}
use Rattle.per_peer_header.proofs.Fields.{layout_known}
use Rattle.per_peer_header.proofs.Laws.{length_join, parts_join}

-- address and AS, in each of the five layouts
fields_told : (kind flags : ℕ) {a : AddressField} {n : AsField} → Layout kind flags a n
    → (told_address kind (shown_address a) (address_skipped a) ≡ a) × (told_as kind flags (shown_asn n) (as_skipped n) ≡ n)
fields_told kind flags (ipv4_as16 k v f) = (rw (ne_eqb kind 3 (omega arith)), rw (ne_eqb kind 3 (omega arith), f))
fields_told kind flags (ipv4_as32 k v f) = (rw (ne_eqb kind 3 (omega arith)), rw (ne_eqb kind 3 (omega arith), f))
fields_told kind flags (ipv6_as16 k v f) = (rw (ne_eqb kind 3 (omega arith)), rw (ne_eqb kind 3 (omega arith), f))
fields_told kind flags (ipv6_as32 k v f) = (rw (ne_eqb kind 3 (omega arith)), rw (ne_eqb kind 3 (omega arith), f))
fields_told kind flags (loc_rib k) = (rw (eq-eqb kind 3 k), rw (eq-eqb kind 3 k))

pub told_back : Told reader
told_back r g f =
    let kind_is : kind_of (type_of r.kind) ≡ r.kind = kind_told r.kind (layout_known g.layout) in
    let fields = fields_told r.kind r.flags g.layout in
    let address_is = ap (λ (k : ℕ). told_address k (shown_address r.address) (address_skipped r.address)) kind_is ∙ fields.0 in
    let asn_is = ap (λ (k : ℕ). told_as k r.flags (shown_asn r.asn) (as_skipped r.asn)) kind_is ∙ fields.1 in
    record {
      told_so =
          λ i. record {
            kind = kind_is i;
            flags = r.flags;
            distinguisher = r.distinguisher;
            address = address_is i;
            asn = asn_is i;
            id = r.id;
            seconds = r.seconds;
            microseconds = r.microseconds;
            tail = r.tail;
          };
      tail_so = ap (λ (q : Reading). q.tail) (parts_join r g);
      tail_within = omega (arith, length_join r g);
    }

-- ---- what is skipped has no say in the header that is shown: it may be anything
fields_unseen : (kind flags : ℕ) {a : AddressField} {n : AsField} → Layout kind flags a n → (x : Skipped)
    → (shown_address (told_address kind (shown_address a) x.address) ≡ shown_address a) × (shown_asn (told_as kind flags (shown_asn n) x.asn) ≡ shown_asn n)
fields_unseen kind flags (ipv4_as16 k v f) x = (rw (ne_eqb kind 3 (omega arith)), rw (ne_eqb kind 3 (omega arith), f))
fields_unseen kind flags (ipv4_as32 k v f) x = (rw (ne_eqb kind 3 (omega arith)), rw (ne_eqb kind 3 (omega arith), f))
fields_unseen kind flags (ipv6_as16 k v f) x = (rw (ne_eqb kind 3 (omega arith)), rw (ne_eqb kind 3 (omega arith), f))
fields_unseen kind flags (ipv6_as32 k v f) x = (rw (ne_eqb kind 3 (omega arith)), rw (ne_eqb kind 3 (omega arith), f))
fields_unseen kind flags (loc_rib k) x = (rw (eq-eqb kind 3 k), rw (eq-eqb kind 3 k))

pub unseen : (r : Reading) → Good r → (x : Skipped) (z : List ℕ) → shown_header (told_header (shown_header r) x z) ≡ shown_header r
unseen r g x z =
    let kind_is : kind_of (type_of r.kind) ≡ r.kind = kind_told r.kind (layout_known g.layout) in
    let fields = fields_unseen r.kind r.flags g.layout x in
    let address_is = ap (λ (k : ℕ). shown_address (told_address k (shown_address r.address) x.address)) kind_is ∙ fields.0 in
    let asn_is = ap (λ (k : ℕ). shown_asn (told_as k r.flags (shown_asn r.asn) x.asn)) kind_is ∙ fields.1 in
    λ i. record {
      peer_type = type_of (kind_is i);
      peer_flags = record { 0 = r.flags };
      peer_distinguisher = record { 0 = r.distinguisher };
      peer_ip = address_is i;
      peer_asn = record { 0 = asn_is i };
      peer_bgp_id = record { 0 = r.id };
      timestamp = time_of r.seconds r.microseconds;
      seconds = r.seconds;
      microseconds = r.microseconds;
    }
