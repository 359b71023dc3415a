-- A good reading is told by the answer that shows it. Assumes nothing.
use Prim.Native.Nat.{ℕ}
use mathlib.Core.Path.{◌≡◌, refl, sym, ap, ◌∙◌}
use mathlib.Core.List.{List}
use native.Mathlib.Omega.{arith}
use lib.ListN.{replicate}
use lib.Seq.{take_at}
use Rattle.wire.specs.Exactly.{Told}
use Rattle.openbmp.specs.Grammar.{RouterIp, ipv4, ipv6, RouterIpFits, bit_of, router_ip_skipped, Reading}
use Rattle.openbmp.specs.Shown.{shown_router_ip}
use Rattle.openbmp.specs.Told.{told_ip}
use Rattle.openbmp.specs.Read.{reader}
use Rattle.openbmp.proofs.Laws.{length_join, by_lengths, admin_viewed, group_viewed}

ip_told : (ip : RouterIp) → RouterIpFits ip → told_ip (shown_router_ip ip).afi (shown_router_ip ip).octets (router_ip_skipped ip) ≡ ip
ip_told (ipv4 address skipped) fits = ap (λ (a : List ℕ). ipv4 a skipped) (take_at address (replicate 12 0) 4 fits.0.many)
ip_told (ipv6 address) fits = refl

pub told_back : Told reader
told_back r g f =
    let ip_is = ip_told r.router_ip g.router_ip_fits in
    let bit_is = ap bit_of ip_is ∙ sym g.ipv6_bit_is in
    let admin-is = admin_viewed r g in
    let group-is = group_viewed r g in
    record {
      told_so =
          λ i. record {
            magic = sym g.magic_is i;
            major = r.major;
            minor = r.minor;
            header_length = r.header_length;
            message_length = r.message_length;
            router_bit = sym g.router_bit_is i;
            ipv6_bit = bit_is i;
            lower_bits = r.lower_bits;
            object_type = r.object_type;
            seconds = r.seconds;
            microseconds = r.microseconds;
            collector_hash = r.collector_hash;
            admin_length = r.admin_length;
            admin = admin-is i;
            router_hash = r.router_hash;
            router_ip = ip_is i;
            group_length = r.group_length;
            group = group-is i;
            row_count = sym g.row_count_is i;
            tail = r.tail;
          };
      tail_so = ap (λ (q : Reading). q.tail) (by_lengths r g);
      tail_within = omega (arith, length_join r g);
    }
