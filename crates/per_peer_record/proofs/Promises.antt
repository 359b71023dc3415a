-- What a user of the crate relies on. Assumes nothing.
use mathlib.Core.Bool.{Bool, true, false, ◌&&◌, and-eq-true_iff}
use mathlib.Core.Logic.{◌↔◌}
use mathlib.Core.Path.{◌≡◌, refl, ap}
use borrow.Author.Tests.{eqb-true, eq-eqb}
use lib.Dec.{eqb}
use lib.Ieee.{Float, eq}
use Rattle.std.specs.declared.option.Option.{Option}
use Rattle.std.specs.declared.option.Option.TheVariants.{Some, None}
use Rattle.wire.specs.Bytes.{pick}
use Rattle.wire.proofs.Determined.{determined}
use Rattle.models.specs.Address.{same_address}
use Rattle.models.specs.declared.Afi.{Afi}
use Rattle.models.specs.declared.AsnLength.{AsnLength}
use Rattle.models.proofs.Promises.{equals_is_equality}
use Rattle.per_peer_type.specs.Peer.{kind_of}
use Rattle.per_peer_type.proofs.Promises.{number_tells}
use Rattle.per_peer_record.specs.Header.{afi_of, asn_length_of, peer_time, same_header, stripped}
use Rattle.per_peer_record.specs.declared.BmpPerPeerHeader.{BmpPerPeerHeader}

-- ---- equality
-- six fields are the same, and `==` finds the times equal
pub record Equal (a b : BmpPerPeerHeader) : Type 0 where
  pub types : a.peer_type ≡ b.peer_type
  pub flags : a.peer_flags.0 ≡ b.peer_flags.0
  pub distinguishers : a.peer_distinguisher.0 ≡ b.peer_distinguisher.0
  pub addresses : a.peer_ip ≡ b.peer_ip
  pub asns : a.peer_asn.0 ≡ b.peer_asn.0
  pub ids : a.peer_bgp_id.0 ≡ b.peer_bgp_id.0
  pub times : eq a.timestamp b.timestamp ≡ true

-- `equals` says true of two headers exactly when they are equal in the Rust's seven fields.
pub equals_is_equal : (a b : BmpPerPeerHeader) → (same_header a b ≡ true) ↔ Equal a b
equals_is_equal a b = (equal, same)
  where
    equal : same_header a b ≡ true → Equal a b
    equal e =
        let t = (and-eq-true_iff (eqb (kind_of a.peer_type) (kind_of b.peer_type)) _).0 e in
        let f = (and-eq-true_iff (eqb a.peer_flags.0 b.peer_flags.0) _).0 t.1 in
        let d = (and-eq-true_iff (eqb a.peer_distinguisher.0 b.peer_distinguisher.0) _).0 f.1 in
        let i = (and-eq-true_iff (same_address a.peer_ip b.peer_ip) _).0 d.1 in
        let n = (and-eq-true_iff (eqb a.peer_asn.0 b.peer_asn.0) _).0 i.1 in
        let g = (and-eq-true_iff (eqb a.peer_bgp_id.0 b.peer_bgp_id.0) _).0 n.1 in
        record {
          types = number_tells a.peer_type b.peer_type (eqb-true _ _ t.0);
          flags = eqb-true a.peer_flags.0 b.peer_flags.0 f.0;
          distinguishers = eqb-true a.peer_distinguisher.0 b.peer_distinguisher.0 d.0;
          addresses = (equals_is_equality a.peer_ip b.peer_ip).0 i.0;
          asns = eqb-true a.peer_asn.0 b.peer_asn.0 n.0;
          ids = eqb-true a.peer_bgp_id.0 b.peer_bgp_id.0 g.0;
          times = g.1;
        }

    same : Equal a b → same_header a b ≡ true
    same s =
        rw (
          eq-eqb (kind_of a.peer_type) (kind_of b.peer_type) (ap kind_of s.types),
          eq-eqb a.peer_flags.0 b.peer_flags.0 s.flags,
          eq-eqb a.peer_distinguisher.0 b.peer_distinguisher.0 s.distinguishers,
          (equals_is_equality a.peer_ip b.peer_ip).1 s.addresses,
          eq-eqb a.peer_asn.0 b.peer_asn.0 s.asns,
          eq-eqb a.peer_bgp_id.0 b.peer_bgp_id.0 s.ids,
        )
        s.times

-- ---- the peer's time
-- There is none exactly when both words are zero.
pub unavailable_is_zero : (h : BmpPerPeerHeader) → (peer_time h ≡ None) ↔ ((h.seconds ≡ 0) × (h.microseconds ≡ 0))
unavailable_is_zero h = (zeros (eqb h.seconds 0) refl (eqb h.microseconds 0) refl, none)
  where
    zeros : (a : Bool) → eqb h.seconds 0 ≡ a → (b : Bool) → eqb h.microseconds 0 ≡ b
        → ◌≡◌ {A = Option Float} (pick (a && b) None (Some h.timestamp)) None → (h.seconds ≡ 0) × (h.microseconds ≡ 0)
    zeros true ha true hb e = (eqb-true h.seconds 0 ha, eqb-true h.microseconds 0 hb)
    zeros true ha false hb e = cc
    zeros false ha b hb e = cc

    none : (h.seconds ≡ 0) × (h.microseconds ≡ 0) → peer_time h ≡ None
    none z = rw (eq-eqb h.seconds 0 z.0, eq-eqb h.microseconds 0 z.1)

-- A stripped header has no time.
pub stripped_is_unavailable : (h : BmpPerPeerHeader) → peer_time (stripped h) ≡ None
stripped_is_unavailable h = refl

-- ---- any two answers that the contracts allow are equal
module _ (h : BmpPerPeerHeader) where
  pub afi_determined : (r q : Afi) → r ≡ afi_of h → q ≡ afi_of h → r ≡ q
  afi_determined r q = determined

  pub asn_length_determined : (r q : AsnLength) → r ≡ asn_length_of h → q ≡ asn_length_of h → r ≡ q
  asn_length_determined r q = determined

  pub peer_time_determined : (r q : Option Float) → r ≡ peer_time h → q ≡ peer_time h → r ≡ q
  peer_time_determined r q = determined

  pub equals_determined : (other : BmpPerPeerHeader) (r q : Bool) → r ≡ same_header h other → q ≡ same_header h other → r ≡ q
  equals_determined other r q = determined

  pub strip_timestamp_determined : (r q : BmpPerPeerHeader) → r ≡ stripped h → q ≡ stripped h → r ≡ q
  strip_timestamp_determined r q = determined
