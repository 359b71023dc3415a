-- The OpenBMP header (version 1.7) that a collector puts before a raw BMP message, and then whatever follows it. No RFC describes it: the
-- parts have the names of the diagram in the documentation of bgpkit-parser's `OpenBmpHeader`.
--
--     offset        width  part
--        0            4    Magic Number             0x4F424D50, the letters `OBMP`
--        4            1    Major Ver.               1
--        5            1    Minor Ver.               7
--        6            2    Header Length            any number: it is compared with nothing
--        8            4    Message Length           any number: it is compared with nothing
--       12            1    Flags                    0x80 the message is of a router: set
--                                                   0x40 the router's address is IPv6
--                                                   the six lower bits are skipped
--       13            1    Obj. Type                12, a raw BMP message
--       14            4    Coll. Timestamp          seconds
--       18            4                             microseconds: any number is good, a million and more too
--       22           16    Collector Hash           skipped
--       38            2    Coll. Admin ID Length    a
--       40            a    Coll. Admin ID
--       40 + a       16    Router Hash              skipped
--       56 + a       16    Router IP                0x40 clear: the 4 bytes of an IPv4 address, and then 12 skipped
--                                                   0x40 set: the 16 bytes of an IPv6 address
--       72 + a        2    Router Group Length      g
--       74 + a        g    Router Group
--       74 + a + g    4    Row Count                1
--       78 + a + g         tail                     what follows the header
--
-- Below, `be w n` are the w bytes of the number n, the most significant first, and skipped bits and bytes may be anything.
use Rattle.std.specs.Prelude.{ℕ, ◌+◌, ◌*◌, ◌^◌, ◌<◌, ◌≡◌, List, [], ◌∷◌, ◌++◌}
use Rattle.wire.specs.Bytes.{be, Bytes, Octets}
use Rattle.wire.specs.Parts.{join_all}
use Rattle.wire.specs.Exactly.{Grammar, no_table}

pub data RouterIp : Type 0 where
  ipv4 : (address skipped : List ℕ) → RouterIp
  ipv6 : (address : List ℕ) → RouterIp

pub record Reading : Type 0 where
  pub magic : ℕ
  pub major : ℕ
  pub minor : ℕ
  pub header_length : ℕ
  pub message_length : ℕ
  -- the bit 0x80, the bit 0x40 and the six lower bits of the flags
  pub router_bit : ℕ
  pub ipv6_bit : ℕ
  pub lower_bits : ℕ
  pub object_type : ℕ
  pub seconds : ℕ
  pub microseconds : ℕ
  pub collector_hash : List ℕ
  pub admin_length : ℕ
  pub admin : List ℕ
  pub router_hash : List ℕ
  pub router_ip : RouterIp
  pub group_length : ℕ
  pub group : List ℕ
  pub row_count : ℕ
  pub tail : List ℕ

-- ---- the bytes
-- the number of the flag byte, from its bits
abbrev pub flags_of : ℕ → ℕ → ℕ → ℕ
flags_of router family lower = router * 0x80 + (family * 0x40 + lower)

abbrev pub router_ip_bytes : RouterIp → List ℕ
router_ip_bytes (ipv4 address skipped) = address ++ skipped
router_ip_bytes (ipv6 address) = address

-- the parts in order, how many bytes each has by the two lengths, and all of them joined: an address is one part
abbrev pub parts_from_admin : Reading → List (List ℕ)
parts_from_admin r =
    be 2 r.admin_length ∷ r.admin ∷ r.router_hash ∷ router_ip_bytes r.router_ip ∷ be 2 r.group_length ∷ r.group ∷ be 4 r.row_count ∷ []

abbrev pub parts : Reading → List (List ℕ)
parts r =
    be 4 r.magic ∷ be 1 r.major ∷ be 1 r.minor ∷ be 2 r.header_length ∷ be 4 r.message_length
    ∷ be 1 (flags_of r.router_bit r.ipv6_bit r.lower_bits) ∷ be 1 r.object_type ∷ be 4 r.seconds ∷ be 4 r.microseconds
    ∷ r.collector_hash ∷ parts_from_admin r

abbrev pub widths : ℕ → ℕ → List ℕ
widths a g = 4 ∷ 1 ∷ 1 ∷ 2 ∷ 4 ∷ 1 ∷ 1 ∷ 4 ∷ 4 ∷ 16 ∷ 2 ∷ a ∷ 16 ∷ 16 ∷ 2 ∷ g ∷ 4 ∷ []

abbrev pub join_from_admin : Reading → List ℕ
join_from_admin r = join_all ◌++◌ (parts_from_admin r) r.tail

abbrev pub join : Reading → List ℕ
join r = join_all ◌++◌ (parts r) r.tail

-- ---- what is skipped: bits of the flags, the two hashes, and what stands behind an IPv4 address
abbrev pub router_ip_skipped : RouterIp → List ℕ
router_ip_skipped (ipv4 address skipped) = skipped
router_ip_skipped (ipv6 address) = []

pub record Skipped : Type 0 where
  pub lower_bits : ℕ
  pub collector_hash : List ℕ
  pub router_hash : List ℕ
  pub router_ip : List ℕ

abbrev pub skipped : Reading → Skipped
skipped r =
    record {
      lower_bits = r.lower_bits;
      collector_hash = r.collector_hash;
      router_hash = r.router_hash;
      router_ip = router_ip_skipped r.router_ip;
    }

-- ---- what makes a reading good: the fixed parts have their one value, the others fit their fields, and the lengths are those of what they count
abbrev pub RouterIpFits : RouterIp → Type 0
RouterIpFits (ipv4 address skipped) = Octets 4 address × Octets 12 skipped
RouterIpFits (ipv6 address) = Octets 16 address

-- the bit that goes with a family
abbrev pub bit_of : RouterIp → ℕ
bit_of (ipv4 address skipped) = 0
bit_of (ipv6 address) = 1

pub record Good (r : Reading) : Type 0 where
  pub magic_is : r.magic ≡ 0x4F424D50
  pub major_is : r.major ≡ 1
  pub minor_is : r.minor ≡ 7
  pub header_length_fits : r.header_length < 256 ^ 2
  pub message_length_fits : r.message_length < 256 ^ 4
  pub router_bit_is : r.router_bit ≡ 1
  pub ipv6_bit_is : r.ipv6_bit ≡ bit_of r.router_ip
  pub lower_bits_fit : r.lower_bits < 2 ^ 6
  pub object_type_is : r.object_type ≡ 12
  pub seconds_fit : r.seconds < 256 ^ 4
  pub microseconds_fit : r.microseconds < 256 ^ 4
  pub collector_hash_fits : Octets 16 r.collector_hash
  pub admin_length_fits : r.admin_length < 256 ^ 2
  pub admin_fits : Octets r.admin_length r.admin
  pub router_hash_fits : Octets 16 r.router_hash
  pub router_ip_fits : RouterIpFits r.router_ip
  pub group_length_fits : r.group_length < 256 ^ 2
  pub group_fits : Octets r.group_length r.group
  pub row_count_is : r.row_count ≡ 1
  pub tail_bytes : Bytes r.tail

-- the grammar; there is no table
abbrev pub grammar : Grammar
grammar =
    record {
      Reading = Reading;
      join = join;
      Good = Good;
      Fits = no_table;
      Skipped = Skipped;
      skipped = skipped;
      tail = λ r. r.tail;
    }
