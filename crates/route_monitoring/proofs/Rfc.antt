-- A body that conforms to RFC 7854 is read, and shown whole. Assumes nothing.
use mathlib.Core.Path.{◌≡◌, refl, ap}
use native.Mathlib.Omega.{arith}
use Rattle.wire.specs.Rfc.{BgpMessage}
use Rattle.wire.specs.Exactly.{Shows}
use Rattle.wire.proofs.Refuses.{bytes_are}
use Rattle.wire.proofs.Exactly.{shows_good}
use Rattle.models.specs.declared.AsnLength.{AsnLength}
use Rattle.models.specs.declared.AsnLength.TheVariants.{Bits32}
use Rattle.per_peer_type.specs.Peer.{kind_of}
use Rattle.per_peer_type.specs.declared.BmpPeerType.{BmpPeerType}
use Rattle.per_peer_type.specs.declared.BmpPeerType.TheVariants.{LocalRib}
use Rattle.route_monitoring.specs.Grammar.{Good}
use Rattle.route_monitoring.specs.Shown.{warnings_in}
use Rattle.route_monitoring.specs.Read.{read_route_monitoring, reader}
use Rattle.route_monitoring.specs.Rfc.{Conforms, bytes, reading}
use Rattle.route_monitoring.proofs.Laws.{length_join}
use Rattle.route_monitoring.proofs.Promises.{complete}

-- A conforming body is shown whole, whatever AS length and type of peer the reader is given.
pub conforming_shown : (width : AsnLength) (t : BmpPeerType) (m : BgpMessage) → Conforms m
    → Shows (reader width t) (bytes m) (reading m)
conforming_shown width t m c =
    let good : Good (reading m) =
    record {
      marker_fits = record { many = refl; are_bytes = bytes_are _ refl };
      size_fits = c.length_fits;
      kind_fits = omega (arith, c.kind_is);
      rest-bytes = c.contents_bytes;
    } in
    shows_good (reader width t) (complete width t) (reading m) good tt (bytes m) refl (omega (arith, length_join (reading m) good, c.length_fits))

-- That of a Loc-RIB with 4-byte AS numbers brings no warning.
pub loc_rib_unwarned : (m : BgpMessage) → Conforms m → warnings_in (read_route_monitoring Bits32 LocalRib (bytes m)) ≡ 0
unfolding kind_of
loc_rib_unwarned m c = ap warnings_in (conforming_shown Bits32 LocalRib m c).shown_so
