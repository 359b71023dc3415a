-- Where an address stands in a field of sixteen octets: IPv6 is all of them, IPv4 four. It is shown with zeros for the others.
use Rattle.std.specs.Prelude.{ℕ, List, ◌++◌, take, drop, replicate}
use Rattle.wire.specs.Bytes.{pick, has}
use Rattle.models.specs.declared.Afi.{Afi}
use Rattle.models.specs.declared.Afi.TheVariants.{Ipv4, Ipv6}
use Rattle.models.specs.declared.IpAddr.{IpAddr}

-- sixteen bytes at every place: zeros where not all of them are there
abbrev pub sixteen_at : List ℕ → ℕ → List ℕ
sixteen_at s at = pick (has 16 s at) (take 16 (drop at s)) (replicate 16 0)

-- the last four of sixteen octets, and zeros before them
abbrev pub last_four : List ℕ → List ℕ
last_four octets = replicate 12 0 ++ drop 12 octets

-- the first four, and zeros behind them
abbrev pub first_four : List ℕ → List ℕ
first_four octets = take 4 octets ++ replicate 12 0

-- in BMP (RFC 7854, sections 4.2 and 4.10)
abbrev pub shown_ip : Afi → List ℕ → IpAddr
shown_ip Ipv4 octets = record { octets = last_four octets; afi = Ipv4 }
shown_ip Ipv6 octets = record { octets = octets; afi = Ipv6 }

-- in the header of an OpenBMP collector
abbrev pub router_ip : Afi → List ℕ → IpAddr
router_ip Ipv4 octets = record { octets = first_four octets; afi = Ipv4 }
router_ip Ipv6 octets = record { octets = octets; afi = Ipv6 }
