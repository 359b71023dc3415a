-- The reading that an answer tells: its header with the bytes that its two views show, what is fixed (magic number, flag 0x80 and row
-- count), what is skipped, and the tail.
use Rattle.std.specs.Prelude.{ℕ, List, take}
use Rattle.wire.specs.declared.View.{View}
use Rattle.models.specs.declared.Afi.{Afi}
use Rattle.models.specs.declared.Afi.TheVariants.{Ipv4, Ipv6}
use Rattle.openbmp.specs.Grammar.{RouterIp, ipv4, ipv6, bit_of, Reading, Skipped}
use Rattle.openbmp.specs.declared.OpenBmpHeader.{OpenBmpHeader}
use Rattle.openbmp.specs.Shown.{OpenBmpResult, header_of}

-- an IPv4 address is the first four octets that are shown
abbrev pub told_ip : Afi → List ℕ → List ℕ → RouterIp
told_ip Ipv4 octets skipped = ipv4 (take 4 octets) skipped
told_ip Ipv6 octets skipped = ipv6 octets

abbrev pub told_header : (View → List ℕ) → OpenBmpHeader → Skipped → List ℕ → Reading
told_header look h x tail =
    record {
      magic = 0x4F424D50;
      major = h.major_version;
      minor = h.minor_version;
      header_length = h.header_len;
      message_length = h.msg_len;
      router_bit = 1;
      ipv6_bit = bit_of (told_ip h.router_ip.afi h.router_ip.octets x.router_ip);
      lower_bits = x.lower_bits;
      object_type = h.object_type;
      seconds = h.seconds;
      microseconds = h.microseconds;
      collector_hash = x.collector_hash;
      admin_length = h.admin_id.length;
      admin = look h.admin_id;
      router_hash = x.router_hash;
      router_ip = told_ip h.router_ip.afi h.router_ip.octets x.router_ip;
      group_length = h.router_group.length;
      group = look h.router_group;
      row_count = 1;
      tail = tail;
    }

abbrev pub told : (View → List ℕ) → OpenBmpResult → Skipped → List ℕ → Reading
told look a x tail = told_header look (header_of a) x tail
