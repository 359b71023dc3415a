-- The reader and the grammar: an input taken apart and joined again, both ways. Assumes nothing.
use Prim.Native.Nat.{ℕ, ◌+◌, ◌-◌, ◌/◌, ◌%◌, ◌≤◌}
use mathlib.Core.Bool.{Bool, true, false}
use mathlib.Core.Path.{◌≡◌, refl, sym, ap, ◌∙◌}
use mathlib.Core.List.{List, ◌++◌}
use native.Mathlib.Omega.{arith}
use borrow.Author.Tests.{eqb-true, eqb-false, eq-eqb, ne_eqb}
use lib.Dec.{eqb}
use lib.ListN.{length, take, drop, length-append, length-drop, take-append-drop}
use lib.Seq.{length-take-le, take_at, drop_at, drop-drop}
use Rattle.wire.specs.Number as Number
use Rattle.wire.specs.Bytes.{pick, be, value, num_at, Bytes, Octets}
use Rattle.wire.proofs.Bytes.{value_be, num_lt, num_back, part_back, bytes_take, bytes_drop}
use Rattle.wire.proofs.Views.{octets_part, viewed_inside}
use Rattle.models.specs.declared.Afi.{Afi}
use Rattle.models.specs.declared.Afi.TheVariants.{Ipv4, Ipv6}
use Rattle.openbmp.specs.Grammar.{RouterIp, ipv4, ipv6, Reading, flags_of, router_ip_bytes, join_from_admin, join, RouterIpFits, bit_of, Good}
use Rattle.openbmp.specs.Read.{router_ip_of, family_of, parts_of}
use Rattle.wire.specs.View.{view, viewed}

-- ---- the flags and the address: joined, then taken apart
bit_small : (ip : RouterIp) → bit_of ip ≤ 1
bit_small (ipv4 address skipped) = omega arith
bit_small (ipv6 address) = omega arith

pub length_ip : (ip : RouterIp) → RouterIpFits ip → length (router_ip_bytes ip) ≡ 16
length_ip (ipv4 address skipped) fits = length-append address skipped ∙ omega (arith, fits.0.many, fits.1.many)
length_ip (ipv6 address) fits = fits.many

ip_back : (flags : ℕ) (ip : RouterIp) → RouterIpFits ip → flags / 0x40 % 2 ≡ bit_of ip → router_ip_of (family_of flags) (router_ip_bytes ip) ≡ ip
ip_back flags (ipv4 address skipped) fits e =
    rw (ne_eqb (flags / 0x40 % 2) 1 (omega arith), take_at address skipped 4 fits.0.many, drop_at address skipped 4 fits.0.many)
ip_back flags (ipv6 address) fits e = rw (eq-eqb (flags / 0x40 % 2) 1 e)

-- ---- taken apart, then joined
ip_bytes : (afi : Afi) (bytes : List ℕ) → router_ip_bytes (router_ip_of afi bytes) ≡ bytes
ip_bytes Ipv4 bytes = take-append-drop 4 bytes
ip_bytes Ipv6 bytes = refl

pub ip-fits : (afi : Afi) (bytes : List ℕ) → Octets 16 bytes → RouterIpFits (router_ip_of afi bytes)
ip-fits Ipv4 bytes e = (
  record { many = length-take-le 4 bytes (omega (arith, e.many)); are_bytes = bytes_take 4 e.are_bytes },
  record { many = length-drop 4 bytes ∙ omega (arith, e.many); are_bytes = bytes_drop 4 e.are_bytes },
)
ip-fits Ipv6 bytes e = e

bit_is : (flags : ℕ) (bytes : List ℕ) → flags / 0x40 % 2 ≡ bit_of (router_ip_of (family_of flags) bytes)
bit_is flags bytes = go (eqb (flags / 0x40 % 2) 1) refl
  where
    go : (b : Bool) → eqb (flags / 0x40 % 2) 1 ≡ b → flags / 0x40 % 2 ≡ bit_of (router_ip_of (pick b Ipv6 Ipv4) bytes)
    go true h = eqb-true (flags / 0x40 % 2) 1 h
    go false h = let x = eqb-false (flags / 0x40 % 2) 1 h in omega arith

-- ---- what stands behind a place, where it is known what stands behind an earlier one
drop_on : (s x : List ℕ) (k j m : ℕ) → drop k s ≡ x → k + j ≡ m → drop m s ≡ drop j x
drop_on s x k j m d e = ap (λ (n : ℕ). drop n s) (sym e) ∙ sym (drop-drop j k s) ∙ ap (drop j) d

-- ---- joined, then taken apart
module _ (r : Reading) (g : Good r) where
  behind_ip : List ℕ
  behind_ip = be 2 r.group_length ++ (r.group ++ (be 4 r.row_count ++ r.tail))

  pub length_join : length (join r) ≡ 78 + r.admin_length + r.group_length + length r.tail
  unfolding be behind_ip
  length_join =
      let ip = router_ip_bytes r.router_ip in
      let b3 = ip ++ behind_ip in
      let b2 = r.router_hash ++ b3 in
      let n1 = length-append r.collector_hash (join_from_admin r) in
      let n2 = length-append r.admin b2 in
      let n3 = length-append r.router_hash b3 in
      let n4 = length-append ip behind_ip in
      let n5 = length-append r.group (be 4 r.row_count ++ r.tail) in
      let n6 = length_ip r.router_ip g.router_ip_fits in
      omega (arith, g.collector_hash_fits.many, g.admin_fits.many, g.router_hash_fits.many, g.group_fits.many)

  at38 : drop 38 (join r) ≡ join_from_admin r
  unfolding be
  at38 = drop_at r.collector_hash (join_from_admin r) 16 g.collector_hash_fits.many

  at40 : drop 40 (join r) ≡ r.admin ++ (r.router_hash ++ (router_ip_bytes r.router_ip ++ behind_ip))
  unfolding be behind_ip
  at40 = drop_on (join r) (join_from_admin r) 38 2 40 at38 refl

  after_admin : drop (40 + r.admin_length) (join r) ≡ r.router_hash ++ (router_ip_bytes r.router_ip ++ behind_ip)
  after_admin =
      drop_on (join r) _ 40 r.admin_length (40 + r.admin_length) at40 refl
      ∙ drop_at r.admin (r.router_hash ++ (router_ip_bytes r.router_ip ++ behind_ip)) r.admin_length g.admin_fits.many

  after_hash : drop (56 + r.admin_length) (join r) ≡ router_ip_bytes r.router_ip ++ behind_ip
  after_hash =
      drop_on (join r) _ (40 + r.admin_length) 16 (56 + r.admin_length) after_admin (omega arith)
      ∙ drop_at r.router_hash (router_ip_bytes r.router_ip ++ behind_ip) 16 g.router_hash_fits.many

  after_ip : drop (72 + r.admin_length) (join r) ≡ behind_ip
  after_ip =
      drop_on (join r) _ (56 + r.admin_length) 16 (72 + r.admin_length) after_hash (omega arith)
      ∙ drop_at (router_ip_bytes r.router_ip) behind_ip 16 (length_ip r.router_ip g.router_ip_fits)

  before_group : drop (74 + r.admin_length) (join r) ≡ r.group ++ (be 4 r.row_count ++ r.tail)
  unfolding be behind_ip
  before_group = drop_on (join r) behind_ip (72 + r.admin_length) 2 (74 + r.admin_length) after_ip (omega arith)

  after_group : drop (74 + r.admin_length + r.group_length) (join r) ≡ be 4 r.row_count ++ r.tail
  after_group =
      drop_on (join r) _ (74 + r.admin_length) r.group_length (74 + r.admin_length + r.group_length) before_group refl
      ∙ drop_at r.group (be 4 r.row_count ++ r.tail) r.group_length g.group_fits.many

  at_tail : drop (78 + r.admin_length + r.group_length) (join r) ≡ r.tail
  unfolding be
  at_tail =
      drop_on (join r) _ (74 + r.admin_length + r.group_length) 4 (78 + r.admin_length + r.group_length) after_group (omega arith)

  -- the lengths that are read are those of the reading
  admin_there : num_at 2 (join r) 38 ≡ r.admin_length
  unfolding be
  admin_there = ap (λ (l : List ℕ). value (take 2 l)) at38 ∙ value_be 2 r.admin_length g.admin_length_fits

  group_there : num_at 2 (join r) (72 + r.admin_length) ≡ r.group_length
  unfolding be behind_ip
  group_there = ap (λ (l : List ℕ). value (take 2 l)) after_ip ∙ value_be 2 r.group_length g.group_length_fits

  flags_there : num_at 1 (join r) 12 ≡ flags_of r.router_bit r.ipv6_bit r.lower_bits
  unfolding be
  flags_there =
      value_be 1 (flags_of r.router_bit r.ipv6_bit r.lower_bits)
      (omega (arith, g.router_bit_is, g.ipv6_bit_is, bit_small r.router_ip, g.lower_bits_fit))

  pub by_lengths : parts_of (join r) r.admin_length r.group_length ≡ r
  unfolding be
  by_lengths =
      let s = join r in
      let a = r.admin_length in
      let small = bit_small r.router_ip in
      let router-bit : num_at 1 s 12 / 0x80 ≡ r.router_bit = omega (arith, flags_there, g.router_bit_is, g.ipv6_bit_is, small, g.lower_bits_fit) in
      let ipv6-bit : num_at 1 s 12 / 0x40 % 2 ≡ r.ipv6_bit = omega (arith, flags_there, g.router_bit_is, g.ipv6_bit_is, small, g.lower_bits_fit) in
      let lower-bits : num_at 1 s 12 % 0x40 ≡ r.lower_bits = omega (arith, flags_there, g.router_bit_is, g.ipv6_bit_is, small, g.lower_bits_fit) in
      let ip = router_ip_bytes r.router_ip in
      let octets = ap (take 16) after_hash ∙ take_at ip behind_ip 16 (length_ip r.router_ip g.router_ip_fits) in
      let router-ip = ap (router_ip_of (family_of (num_at 1 s 12))) octets ∙ ip_back (num_at 1 s 12) r.router_ip g.router_ip_fits (ipv6-bit ∙ g.ipv6_bit_is) in
      let collector-hash = take_at r.collector_hash (join_from_admin r) 16 g.collector_hash_fits.many in
      let admin = ap (take a) at40 ∙ take_at r.admin (r.router_hash ++ (ip ++ behind_ip)) a g.admin_fits.many in
      let router-hash = ap (take 16) after_admin ∙ take_at r.router_hash (ip ++ behind_ip) 16 g.router_hash_fits.many in
      let group = ap (take r.group_length) before_group ∙ take_at r.group (be 4 r.row_count ++ r.tail) r.group_length g.group_fits.many in
      let rows : num_at 4 s (74 + a + r.group_length) ≡ r.row_count =
      ap (λ (l : List ℕ). value (take 4 l)) after_group ∙ value_be 4 r.row_count (omega (arith, g.row_count_is)) in
      λ i. record {
        magic = value_be 4 r.magic (omega (arith, g.magic_is)) i;
        major = value_be 1 r.major (omega (arith, g.major_is)) i;
        minor = value_be 1 r.minor (omega (arith, g.minor_is)) i;
        header_length = value_be 2 r.header_length g.header_length_fits i;
        message_length = value_be 4 r.message_length g.message_length_fits i;
        router_bit = router-bit i;
        ipv6_bit = ipv6-bit i;
        lower_bits = lower-bits i;
        object_type = value_be 1 r.object_type (omega (arith, g.object_type_is)) i;
        seconds = value_be 4 r.seconds g.seconds_fit i;
        microseconds = value_be 4 r.microseconds g.microseconds_fit i;
        collector_hash = collector-hash i;
        admin_length = a;
        admin = admin i;
        router_hash = router-hash i;
        router_ip = router-ip i;
        group_length = r.group_length;
        group = group i;
        row_count = rows i;
        tail = at_tail i;
      }

-- ---- an input taken apart by its own lengths
abbrev pub admin_of : List ℕ → ℕ
admin_of s = num_at 2 s 38

abbrev pub group_of : List ℕ → ℕ
group_of s = num_at 2 s (72 + admin_of s)

abbrev pub parts_in : List ℕ → Reading
parts_in s = parts_of s (admin_of s) (group_of s)

pub parts_join : (r : Reading) → Good r → parts_in (join r) ≡ r
parts_join r g =
    (λ i. parts_of (join r) (admin_there r g i) (num_at 2 (join r) (72 + admin_there r g i)))
    ∙ ap (parts_of (join r) r.admin_length) (group_there r g) ∙ by_lengths r g

-- ---- taken apart, then joined
part_on : (n : ℕ) (s : List ℕ) (at m : ℕ) → at + n ≡ m → take n (drop at s) ++ drop m s ≡ drop at s
part_on n s at m e = ap (λ (k : ℕ). take n (drop at s) ++ drop k s) (sym e) ∙ part_back n s at

num_on : (w : ℕ) {s : List ℕ} (at m : ℕ) → Bytes s → w ≤ length s - at → at + w ≡ m → be w (num_at w s at) ++ drop m s ≡ drop at s
num_on w {s} at m p h e = ap (λ (k : ℕ). be w (num_at w s at) ++ drop k s) (sym e) ∙ num_back w at p h

flags_whole : (flags : ℕ) → flags_of (flags / 0x80) (flags / 0x40 % 2) (flags % 0x40) ≡ flags
flags_whole flags = omega arith

module _ {s : List ℕ} (p : Bytes s) (long : 78 + admin_of s + group_of s ≤ length s) where
  pub join_parts : join (parts_in s) ≡ s
  join_parts =
      let a = admin_of s in
      let g = group_of s in
      rw (
        flags_whole (num_at 1 s 12),
        ip_bytes (family_of (num_at 1 s 12)) (take 16 (drop (56 + a) s)),
        num_on 4 (74 + a + g) (78 + a + g) p (omega arith) (omega arith),
        part_back g s (74 + a),
        num_on 2 (72 + a) (74 + a) p (omega arith) (omega arith),
        part_on 16 s (56 + a) (72 + a) (omega arith),
        part_on 16 s (40 + a) (56 + a) (omega arith),
        part_back a s 40,
        num_back 2 38 p (omega arith),
        part_back 16 s 22,
        num_back 4 18 p (omega arith),
        num_back 4 14 p (omega arith),
        num_back 1 13 p (omega arith),
        num_back 1 12 p (omega arith),
        num_back 4 8 p (omega arith),
        num_back 2 6 p (omega arith),
        num_back 1 5 p (omega arith),
        num_back 1 4 p (omega arith),
      )
      (num_back 4 0 p (omega arith))

-- ---- what the reader accepts
pub record Accepted (s : List ℕ) : Type 0 where
  pub short : length s ≤ Number.limit
  pub magic : num_at 4 s 0 ≡ 0x4F424D50
  pub major : num_at 1 s 4 ≡ 1
  pub minor : num_at 1 s 5 ≡ 7
  pub router : num_at 1 s 12 / 0x80 % 2 ≡ 1
  pub kind : num_at 1 s 13 ≡ 12
  pub long : 78 + admin_of s + group_of s ≤ length s
  pub rows : num_at 4 s (74 + admin_of s + group_of s) ≡ 1

pub parts_good : {s : List ℕ} → Bytes s → Accepted s → Good (parts_in s)
parts_good {s} p acc =
    let a = admin_of s in
    let g = group_of s in
    let long = acc.long in
    let octets = octets_part p (56 + a) 16 (omega arith) in
    record {
      magic_is = acc.magic;
      major_is = acc.major;
      minor_is = acc.minor;
      header_length_fits = num_lt 2 6 p;
      message_length_fits = num_lt 4 8 p;
      router_bit_is = omega (arith, num_lt 1 12 p, acc.router);
      ipv6_bit_is = bit_is (num_at 1 s 12) (take 16 (drop (56 + a) s));
      lower_bits_fit = omega arith;
      object_type_is = acc.kind;
      seconds_fit = num_lt 4 14 p;
      microseconds_fit = num_lt 4 18 p;
      collector_hash_fits = octets_part p 22 16 (omega arith);
      admin_length_fits = num_lt 2 38 p;
      admin_fits = octets_part p 40 a (omega arith);
      router_hash_fits = octets_part p (40 + a) 16 (omega arith);
      router_ip_fits = ip-fits (family_of (num_at 1 s 12)) (take 16 (drop (56 + a) s)) octets;
      group_length_fits = num_lt 2 (72 + a) p;
      group_fits = octets_part p (74 + a) g (omega arith);
      row_count_is = acc.rows;
      tail_bytes = bytes_drop (78 + a + g) p;
    }

pub join_accepted : (r : Reading) → Good r → length (join r) ≤ Number.limit → Accepted (join r)
join_accepted r g short =
    let e = parts_join r g in
    let field : (f : Reading → ℕ) → f (parts_in (join r)) ≡ f r = λ f. ap f e in
    let admin = field (λ q. q.admin_length) in
    let group = field (λ q. q.group_length) in
    let router = field (λ q. q.router_bit) ∙ g.router_bit_is in
    record {
      short = short;
      magic = field (λ q. q.magic) ∙ g.magic_is;
      major = field (λ q. q.major) ∙ g.major_is;
      minor = field (λ q. q.minor) ∙ g.minor_is;
      router = omega (arith, router);
      kind = field (λ q. q.object_type) ∙ g.object_type_is;
      long = omega (arith, length_join r g, admin, group);
      rows = field (λ q. q.row_count) ∙ g.row_count_is;
    }

-- ---- the views that show a reading's admin and group
module _ (r : Reading) (g : Good r) where
  pub admin_viewed : viewed (join r) (view 40 r.admin_length) ≡ r.admin
  admin_viewed = viewed_inside (join r) (view 40 r.admin_length) (omega (arith, length_join r g)) ∙ ap (λ (q : Reading). q.admin) (by_lengths r g)

  pub group_viewed : viewed (join r) (view (74 + r.admin_length) r.group_length) ≡ r.group
  group_viewed =
      viewed_inside (join r) (view (74 + r.admin_length) r.group_length) (omega (arith, length_join r g))
      ∙ ap (λ (q : Reading). q.group) (by_lengths r g)
