-- What the writer writes: the reading of a header, by the grammar's own parts; which headers are writable; when two are the same.
use Rattle.std.specs.Prelude.{ℕ, ◌^◌, ◌<◌, Bool, ◌&&◌, ◌≡◌, List, [], ◌++◌, T, eqb, ltb, length, replicate}
use Rattle.std.specs.Float.{binary64}
use Rattle.std.specs.Float.Ieee.{fits}
use Rattle.wire.specs.Bytes.{be, Octets}
use Rattle.wire.specs.View.{inside, viewed}
use Rattle.wire.specs.declared.View.{View}
use Rattle.models.specs.Address.{same_address}
use Rattle.times.specs.Time.{is_timestamp}
use Rattle.models.specs.declared.Afi.{Afi}
use Rattle.models.specs.declared.Afi.TheVariants.{Ipv4, Ipv6}
use Rattle.models.specs.declared.IpAddr.{IpAddr}
use Rattle.openbmp.specs.Grammar.{RouterIp, ipv4, ipv6, Reading, join}
use Rattle.openbmp.specs.Shown.{shown_router_ip}
use Rattle.openbmp.specs.Read.{router_ip_of}
use Rattle.openbmp.specs.declared.OpenBmpHeader.{OpenBmpHeader}

-- the flag of a family
abbrev pub family_bit : Afi → ℕ
family_bit Ipv4 = 0
family_bit Ipv6 = 1

-- the field of a header's own address; its skipped bytes are written zero
abbrev pub ip_of : IpAddr → RouterIp
ip_of address = router_ip_of address.afi address.octets

abbrev pub blank_ip : RouterIp → RouterIp
blank_ip (ipv4 address skipped) = ipv4 address (replicate 12 0)
blank_ip (ipv6 address) = ipv6 address

abbrev pub reading_of : OpenBmpHeader → List ℕ → Reading
reading_of h b =
    record {
      magic = 0x4F424D50;
      major = h.major_version;
      minor = h.minor_version;
      header_length = h.header_len;
      message_length = h.msg_len;
      router_bit = 1;
      ipv6_bit = family_bit h.router_ip.afi;
      lower_bits = 0;
      object_type = h.object_type;
      seconds = h.seconds;
      microseconds = h.microseconds;
      collector_hash = replicate 16 0;
      admin_length = h.admin_id.length;
      admin = viewed b h.admin_id;
      router_hash = replicate 16 0;
      router_ip = blank_ip (ip_of h.router_ip);
      group_length = h.router_group.length;
      group = viewed b h.router_group;
      row_count = 1;
      tail = [];
    }

abbrev pub bytes_of : OpenBmpHeader → List ℕ → List ℕ
bytes_of h b = join (reading_of h b)

-- ---- what is writable
-- Versions and object type are the fixed ones.
abbrev pub fixed_fits : ℕ → ℕ → ℕ → Bool
fixed_fits major minor kind = eqb major 1 && (eqb minor 7 && eqb kind 12)

-- The time is the one that the words give, bit for bit.
abbrev pub time_fits : OpenBmpHeader → Bool
time_fits h = is_timestamp h.timestamp h.seconds h.microseconds

-- The address is the one that its octets show: IPv6, or IPv4 with zeros behind its four octets.
abbrev pub ip_fits : IpAddr → Bool
ip_fits address = same_address (shown_router_ip (ip_of address)) address

-- A view lies inside a buffer of this length, and its length has room in its field.
abbrev pub view_fits : View → ℕ → Bool
view_fits v room = ltb v.length (256 ^ 2) && inside room v

abbrev pub writable : OpenBmpHeader → ℕ → Bool
writable h room =
    fixed_fits h.major_version h.minor_version h.object_type
    && (time_fits h && (ip_fits h.router_ip && (view_fits h.admin_id room && view_fits h.router_group room)))

-- ---- the bytes of a writable header in the three runs in which they are put, by its octets and the bytes that its views show
abbrev pub front_bytes : ℕ → ℕ → ℕ → List ℕ
front_bytes header_length message_length flags =
    be 4 0x4F424D50 ++ (be 1 1 ++ (be 1 7 ++ (be 2 header_length ++ (be 4 message_length ++ (be 1 flags ++ be 1 12)))))

abbrev pub time_bytes : ℕ → ℕ → List ℕ
time_bytes seconds microseconds = be 4 seconds ++ (be 4 microseconds ++ replicate 16 0)

-- some bytes, behind their length
abbrev pub counted : List ℕ → List ℕ
counted l = be 2 (length l) ++ l

abbrev pub rest_bytes : List ℕ → List ℕ → List ℕ → List ℕ
rest_bytes octets admin group = counted admin ++ (replicate 16 0 ++ (octets ++ (counted group ++ be 4 1)))

-- what the types of its fields say of every header
pub record Typed (h : OpenBmpHeader) : Type 0 where
  pub header_len_fits : h.header_len < 256 ^ 2
  pub msg_len_fits : h.msg_len < 256 ^ 4
  pub time-fits : T (fits binary64 h.timestamp)
  pub seconds_fit : h.seconds < 256 ^ 4
  pub microseconds_fit : h.microseconds < 256 ^ 4
  pub octets : Octets 16 h.router_ip.octets

-- two headers are the same: their numbers and addresses, and the bytes that their views show, each in its own buffer
pub record Same (h : OpenBmpHeader) (b : List ℕ) (k : OpenBmpHeader) (s : List ℕ) : Type 0 where
  pub major_same : h.major_version ≡ k.major_version
  pub minor_same : h.minor_version ≡ k.minor_version
  pub header_len_same : h.header_len ≡ k.header_len
  pub msg_len_same : h.msg_len ≡ k.msg_len
  pub object_type_same : h.object_type ≡ k.object_type
  pub timestamp_same : h.timestamp ≡ k.timestamp
  pub seconds_same : h.seconds ≡ k.seconds
  pub microseconds_same : h.microseconds ≡ k.microseconds
  pub router_ip_same : h.router_ip ≡ k.router_ip
  pub admin_same : viewed b h.admin_id ≡ viewed s k.admin_id
  pub group_same : viewed b h.router_group ≡ viewed s k.router_group
