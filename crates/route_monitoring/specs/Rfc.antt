-- RFC 7854, section 4.6: after the per-peer header a Route Monitoring message has a BGP UPDATE message (type 2), and nothing else. RFC 9069,
-- section 5.4: that of a Loc-RIB has 4-byte AS numbers.
use Rattle.std.specs.Prelude.{List, ℕ, replicate}
use Rattle.wire.specs.Rfc.{BgpMessage, bgp_length, bgp_bytes, IsBgp}
use Rattle.route_monitoring.specs.Grammar.{Reading}

abbrev pub Conforms : BgpMessage → Type 0
Conforms m = IsBgp 2 m

abbrev pub bytes : BgpMessage → List ℕ
bytes m = bgp_bytes m

-- ---- what the plain reading makes of it
abbrev pub reading : BgpMessage → Reading
reading m = record { marker = replicate 16 0xFF; size = bgp_length m; kind = m.kind; rest = m.contents }
