-- The reading of a header: it is good and shows the header again where that is writable, and only there. Assumes nothing.
use Prim.Native.Nat.{ℕ, ◌+◌, ◌≤◌}
use mathlib.Core.Bool.{true}
use mathlib.Core.Path.{◌≡◌, refl, sym, ap, ◌∙◌, subst}
use mathlib.Core.List.{List}
use native.Mathlib.Omega.{arith}
use lib.Dec.{lit<}
use lib.ListN.{length, replicate}
use lib.Seq.{take_at}
use Rattle.wire.specs.Number as Number
use Rattle.wire.specs.Bytes.{Bytes, none}
use Rattle.wire.proofs.Bytes.{bytes_be, bytes_append}
use Rattle.wire.proofs.Views.{bytes_viewed, octets_zeros}
use Rattle.writing.proofs.Tlv.{view_long}
use Rattle.times.specs.Time.{time_of}
use Rattle.models.specs.declared.Afi.{Afi}
use Rattle.models.specs.declared.Afi.TheVariants.{Ipv4, Ipv6}
use Rattle.models.specs.declared.IpAddr.{IpAddr}
use Rattle.times.proofs.Promises.{is_timestamp_is_equality}
use Rattle.openbmp.specs.Grammar.{RouterIp, ipv4, ipv6, Reading, flags_of, router_ip_bytes, join, RouterIpFits, bit_of, Good}
use Rattle.openbmp.specs.Shown.{shown_router_ip, shown_header}
use Rattle.openbmp.specs.Read.{router_ip_of}
use Rattle.openbmp_writer.specs.Write.{family_bit, ip_of, blank_ip, reading_of, bytes_of, writable, Typed, Same}
use Rattle.openbmp.specs.declared.OpenBmpHeader.{OpenBmpHeader}
use Rattle.openbmp.proofs.Laws.{ip-fits, length_join, admin_viewed, group_viewed}
use Rattle.openbmp_writer.proofs.Written.{Writable, writable_is, writable_from}

-- ---- addresses with their skipped bytes zero
blank_fits : (ip : RouterIp) → RouterIpFits ip → RouterIpFits (blank_ip ip)
blank_fits (ipv4 address skipped) fits = (fits.0, octets_zeros 12)
blank_fits (ipv6 address) fits = fits

blank_shown : (ip : RouterIp) → shown_router_ip (blank_ip ip) ≡ shown_router_ip ip
blank_shown (ipv4 address skipped) = refl
blank_shown (ipv6 address) = refl

blank_bit : (afi : Afi) (octets : List ℕ) → family_bit afi ≡ bit_of (blank_ip (router_ip_of afi octets))
blank_bit Ipv4 octets = refl
blank_bit Ipv6 octets = refl

bytes_ip : (ip : RouterIp) → RouterIpFits ip → Bytes (router_ip_bytes ip)
bytes_ip (ipv4 address skipped) fits = bytes_append fits.0.are_bytes fits.1.are_bytes
bytes_ip (ipv6 address) fits = fits.are_bytes

-- what is shown of an address fits its family
shown_fits : (ip : RouterIp) → RouterIpFits ip → shown_router_ip (ip_of (shown_router_ip ip)) ≡ shown_router_ip ip
shown_fits (ipv4 address skipped) fits = rw (take_at address (replicate 12 0) 4 fits.0.many)
shown_fits (ipv6 address) fits = refl

module _ (h : OpenBmpHeader) (b : List ℕ) (t : Typed h) (p : Bytes b) where
  own_ip : RouterIpFits (blank_ip (ip_of h.router_ip))
  own_ip = blank_fits (ip_of h.router_ip) (ip-fits h.router_ip.afi h.router_ip.octets t.octets)

  pub bytes_written : Bytes (bytes_of h b)
  bytes_written =
      bytes_append (bytes_be 4 0x4F424D50)
      (bytes_append (bytes_be 1 h.major_version)
      (bytes_append (bytes_be 1 h.minor_version)
      (bytes_append (bytes_be 2 h.header_len)
      (bytes_append (bytes_be 4 h.msg_len)
      (bytes_append (bytes_be 1 (flags_of 1 (family_bit h.router_ip.afi) 0))
      (bytes_append (bytes_be 1 h.object_type)
      (bytes_append (bytes_be 4 h.seconds)
      (bytes_append (bytes_be 4 h.microseconds)
      (bytes_append (octets_zeros 16).are_bytes
      (bytes_append (bytes_be 2 h.admin_id.length)
      (bytes_append (bytes_viewed b h.admin_id p)
      (bytes_append (octets_zeros 16).are_bytes
      (bytes_append (bytes_ip (blank_ip (ip_of h.router_ip)) own_ip)
      (bytes_append (bytes_be 2 h.router_group.length)
      (bytes_append (bytes_viewed b h.router_group p)
      (bytes_append (bytes_be 4 1) none))))))))))))))))

  -- ---- the reading of a writable header is good, and shows it again
  module _ (e : writable h (length b) ≡ true) where
    is_writable : Writable h (length b)
    is_writable = writable_is h (length b) e

    pub good_reading : Good (reading_of h b)
    good_reading =
        let w = is_writable in
        record {
          magic_is = refl;
          major_is = w.major_is;
          minor_is = w.minor_is;
          header_length_fits = t.header_len_fits;
          message_length_fits = t.msg_len_fits;
          router_bit_is = refl;
          ipv6_bit_is = blank_bit h.router_ip.afi h.router_ip.octets;
          lower_bits_fit = lit< tt;
          object_type_is = w.object_type_is;
          seconds_fit = t.seconds_fit;
          microseconds_fit = t.microseconds_fit;
          collector_hash_fits = octets_zeros 16;
          admin_length_fits = w.admin_short;
          admin_fits = record { many = view_long b h.admin_id w.admin_inside; are_bytes = bytes_viewed b h.admin_id p };
          router_hash_fits = octets_zeros 16;
          router_ip_fits = own_ip;
          group_length_fits = w.group_short;
          group_fits = record { many = view_long b h.router_group w.group_inside; are_bytes = bytes_viewed b h.router_group p };
          row_count_is = refl;
          tail_bytes = none;
        }

    pub short_enough : length (bytes_of h b) ≤ Number.limit
    short_enough = let w = is_writable in omega (arith, length_join (reading_of h b) good_reading, w.admin_short, w.group_short)

    pub same_again : Same h b (shown_header (reading_of h b)) (bytes_of h b)
    same_again =
        let w = is_writable in
        record {
          major_same = refl;
          minor_same = refl;
          header_len_same = refl;
          msg_len_same = refl;
          object_type_same = refl;
          timestamp_same = (is_timestamp_is_equality h.timestamp h.seconds h.microseconds t.time-fits).0 w.time_is;
          seconds_same = refl;
          microseconds_same = refl;
          router_ip_same = sym (blank_shown (ip_of h.router_ip) ∙ w.ip_is);
          admin_same = sym (admin_viewed (reading_of h b) good_reading);
          group_same = sym (group_viewed (reading_of h b) good_reading);
        }

  -- ---- a header that is the same as what a good reading shows is writable, where its views lie inside the buffer
  module _ (admin_inside : h.admin_id.place + h.admin_id.length ≤ length b)
      (group_inside : h.router_group.place + h.router_group.length ≤ length b)
      (q : Reading) (g : Good q) (same : Same h b (shown_header q) (join q)) where
    pub again_writable : writable h (length b) ≡ true
    again_writable =
        let time = same.timestamp_same ∙ (λ i. time_of (sym same.seconds_same i) (sym same.microseconds_same i)) in
        let admin : h.admin_id.length ≡ q.admin_length =
        sym (view_long b h.admin_id admin_inside) ∙ ap length (same.admin_same ∙ admin_viewed q g) ∙ g.admin_fits.many in
        let group : h.router_group.length ≡ q.group_length =
        sym (view_long b h.router_group group_inside) ∙ ap length (same.group_same ∙ group_viewed q g) ∙ g.group_fits.many in
        writable_from h (length b)
        (record {
          major_is = same.major_same ∙ g.major_is;
          minor_is = same.minor_same ∙ g.minor_is;
          object_type_is = same.object_type_same ∙ g.object_type_is;
          time_is = (is_timestamp_is_equality h.timestamp h.seconds h.microseconds t.time-fits).1 time;
          ip_is = subst (λ (a : IpAddr). shown_router_ip (ip_of a) ≡ a) (sym same.router_ip_same) (shown_fits q.router_ip g.router_ip_fits);
          admin_short = omega (arith, admin, g.admin_length_fits);
          admin_inside = admin_inside;
          group_short = omega (arith, group, g.group_length_fits);
          group_inside = group_inside;
        })
