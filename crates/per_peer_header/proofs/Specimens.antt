-- Headers as they are read, one for each layout, and the two places of a Cut where the Rust skips bytes first. Assumes nothing.
use Prim.Native.Nat.{ℕ, ◌≤◌}
use mathlib.Core.List.{List, [], ◌∷◌, ◌++◌, map}
use mathlib.Core.Path.{◌≡◌, refl, ◌∙◌}
use native.Mathlib.Omega.{arith}
use lib.ListN.{length, replicate}
use Rattle.wire.specs.Bytes.{be, value, number_at}
use Rattle.wire.specs.Refusal.{lacking}
use Rattle.models.specs.Address.{unspecified}
use Rattle.models.specs.declared.Afi.TheVariants.{Ipv4, Ipv6}
use Rattle.models.specs.declared.IpAddr.{IpAddr}
use Rattle.per_peer_header.specs.Shown.{refused, header_of, warnings_in}
use Rattle.per_peer_header.specs.Read.{read_per_peer_header}
use Rattle.per_peer_header.proofs.Promises.{refuses_cut}

-- ---- the five layouts
abbrev octets : List ℕ
octets = 1 ∷ 2 ∷ 3 ∷ 4 ∷ 5 ∷ 6 ∷ 7 ∷ 8 ∷ 9 ∷ 10 ∷ 11 ∷ 12 ∷ 13 ∷ 14 ∷ 15 ∷ 16 ∷ []

-- type and flags, a distinguisher of 1, those octets, AS bytes 01 02 03 04, and zeros for BGP ID and time
abbrev header : ℕ × ℕ → List ℕ
header (kind, flags) = kind ∷ flags ∷ (be 8 1 ++ (octets ++ (1 ∷ 2 ∷ 3 ∷ 4 ∷ replicate 12 0)))

-- the address, the AS and the warnings that are shown
abbrev seen : ℕ × ℕ → IpAddr × ℕ × ℕ
seen x = let a = read_per_peer_header (header x) in ((header_of a).peer_ip, (header_of a).peer_asn.0, warnings_in a)

abbrev last : IpAddr
last = record { octets = replicate 12 0 ++ (13 ∷ 14 ∷ 15 ∷ 16 ∷ []); afi = Ipv4 }

abbrev all : IpAddr
all = record { octets = octets; afi = Ipv6 }

pub layouts_are_read : map seen ((0, 0x20) ∷ (1, 0x00) ∷ (2, 0xA0) ∷ (0, 0x80) ∷ (3, 0xA0) ∷ [])
    ≡ (last, 0x0304, 0) ∷ (last, 0x01020304, 0) ∷ (all, 0x0304, 0) ∷ (all, 0x01020304, 0) ∷ (unspecified, 0x01020304, 3) ∷ []
unfolding be value
layouts_are_read = refl

-- ---- the places of a Cut, and what is missing there
pub cut_in_the_address : (s : List ℕ) → length s ≡ 25 → number_at 1 s 0 ≤ 3 → read_per_peer_header s ≡ refused (lacking 10 1)
cut_in_the_address s n known = (refuses_cut s (omega arith) (omega arith) known).0 ∙ rw n

pub cut_in_the_as : (s : List ℕ) → length s ≡ 29 → number_at 1 s 0 ≤ 3 → read_per_peer_header s ≡ refused (lacking 26 1)
cut_in_the_as s n known = (refuses_cut s (omega arith) (omega arith) known).0 ∙ rw n
