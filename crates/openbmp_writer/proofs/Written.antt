-- What the writer writes: which headers are writable, and the bytes of one field after the other. Assumes nothing.
use Prim.Native.Nat.{ℕ, ◌+◌, ◌^◌, ◌≤◌, ◌<◌}
use mathlib.Core.Bool.{true, and-eq-true_iff}
use mathlib.Core.Path.{◌≡◌, refl, sym, ap, ◌∙◌}
use mathlib.Core.List.{List, ◌++◌}
use native.Mathlib.Omega.{arith}
use borrow.Author.Tests.{eqb-true, eq-eqb, ltb-true, lt-ltb, leb-true}
use lib.Dec.{eqb, ltb}
use lib.ListN.{length, replicate, length-append}
use lib.Seq.{sets}
use Rattle.wire.specs.Bytes.{be}
use Rattle.wire.specs.View.{inside, viewed}
use Rattle.wire.specs.declared.View.{View}
use Rattle.wire.proofs.Bytes.{length_be}
use Rattle.wire.proofs.Views.{inside_is}
use Rattle.writing.specs.Write.{put_at}
use Rattle.writing.proofs.Sets.{put_then, put_fits, length_put}
use Rattle.writing.proofs.Tlv.{view_long}
use Rattle.models.specs.declared.IpAddr.{IpAddr}
use Rattle.models.proofs.Promises.{equals_is_equality}
use Rattle.openbmp.specs.Grammar.{RouterIp, ipv4, ipv6, router_ip_bytes, flags_of}
use Rattle.openbmp.specs.Shown.{shown_router_ip}
use Rattle.openbmp_writer.specs.Write.{family_bit, ip_of, blank_ip, bytes_of, fixed_fits, time_fits, ip_fits, view_fits, writable, front_bytes, time_bytes, counted, rest_bytes}
use Rattle.openbmp.specs.declared.OpenBmpHeader.{OpenBmpHeader}

-- ---- one put after the other
length_counted : (l : List ℕ) → length (counted l) ≡ 2 + length l
unfolding be
length_counted l = omega arith

pub put_counted : (out o1 o2 bytes : List ℕ) (at : ℕ) → at + (2 + length bytes) ≤ length out
    → o1 ≡ put_at out at (be 2 (length bytes)) → o2 ≡ put_at o1 (at + 2) bytes → o2 ≡ put_at out at (counted bytes)
put_counted out o1 o2 bytes at room e1 e2 =
    let two = length_be 2 (length bytes) in
    put_then out o1 o2 at (at + 2) (be 2 (length bytes)) bytes (omega arith) e1 (omega arith) e2

pub put_time : (out o1 o2 o3 : List ℕ) (seconds microseconds : ℕ) → 38 ≤ length out
    → o1 ≡ put_at out 14 (be 4 seconds) → o2 ≡ put_at o1 18 (be 4 microseconds) → o3 ≡ put_at o2 22 (replicate 16 0)
    → o3 ≡ put_at out 14 (time_bytes seconds microseconds)
unfolding be
put_time out o1 o2 o3 seconds microseconds room e1 e2 e3 =
    let p2 = put_then out o1 o2 14 18 (be 4 seconds) (be 4 microseconds) (omega arith) e1 refl e2 in
    put_then out o2 o3 14 22 (be 4 seconds ++ be 4 microseconds) (replicate 16 0) (omega arith) p2 refl e3

module _ (header_length message_length flags : ℕ) where
  pub put_front : (out o1 o2 o3 o4 o5 o6 o7 : List ℕ) → 14 ≤ length out
      → o1 ≡ put_at out 0 (be 4 0x4F424D50) → o2 ≡ put_at o1 4 (be 1 1) → o3 ≡ put_at o2 5 (be 1 7)
      → o4 ≡ put_at o3 6 (be 2 header_length) → o5 ≡ put_at o4 8 (be 4 message_length) → o6 ≡ put_at o5 12 (be 1 flags) → o7 ≡ put_at o6 13 (be 1 12)
      → o7 ≡ put_at out 0 (front_bytes header_length message_length flags)
  unfolding be
  put_front out o1 o2 o3 o4 o5 o6 o7 room e1 e2 e3 e4 e5 e6 e7 =
      let a3 = be 4 0x4F424D50 ++ (be 1 1 ++ be 1 7) in
      let a4 = a3 ++ be 2 header_length in
      let a5 = a4 ++ be 4 message_length in
      let p2 = put_then out o1 o2 0 4 (be 4 0x4F424D50) (be 1 1) (omega arith) e1 refl e2 in
      let p3 = put_then out o2 o3 0 5 (be 4 0x4F424D50 ++ be 1 1) (be 1 7) (omega arith) p2 refl e3 in
      let p4 = put_then out o3 o4 0 6 a3 (be 2 header_length) (omega arith) p3 refl e4 in
      let p5 = put_then out o4 o5 0 8 a4 (be 4 message_length) (omega arith) p4 refl e5 in
      let p6 = put_then out o5 o6 0 12 a5 (be 1 flags) (omega arith) p5 refl e6 in
      put_then out o6 o7 0 13 (a5 ++ be 1 flags) (be 1 12) (omega arith) p6 refl e7

module _ (octets admin group : List ℕ) where
  length_rest : length octets ≡ 16 → length (rest_bytes octets admin group) ≡ 40 + length admin + length group
  length_rest sixteen =
      let b4 = counted group ++ be 4 1 in
      let b3 = octets ++ b4 in
      omega (
        arith,
        sixteen,
        length_counted admin,
        length_counted group,
        length_be 4 1,
        length-append (counted group) (be 4 1),
        length-append octets b4,
        length-append (replicate 16 0) b3,
        length-append (counted admin) (replicate 16 0 ++ b3),
      )

  pub put_rest : (out o1 o2 o3 o4 o5 : List ℕ) → length octets ≡ 16 → 78 + length admin + length group ≤ length out
      → o1 ≡ put_at out 38 (counted admin) → o2 ≡ put_at o1 (40 + length admin) (replicate 16 0) → o3 ≡ put_at o2 (56 + length admin) octets
      → o4 ≡ put_at o3 (72 + length admin) (counted group) → o5 ≡ put_at o4 (74 + length admin + length group) (be 4 1)
      → o5 ≡ put_at out 38 (rest_bytes octets admin group)
  put_rest out o1 o2 o3 o4 o5 sixteen room e1 e2 e3 e4 e5 =
      let a = length admin in
      let ca = length_counted admin in
      let cg = length_counted group in
      let four = length_be 4 1 in
      let b4 = counted group ++ be 4 1 in
      let b3 = octets ++ b4 in
      let n4 = length-append (counted group) (be 4 1) in
      let n3 = length-append octets b4 in
      let n2 = length-append (replicate 16 0) b3 in
      let l1 : length o1 ≡ length out = ap length e1 ∙ length_put out 38 (counted admin) in
      let l2 : length o2 ≡ length o1 = ap length e2 ∙ length_put o1 (40 + a) (replicate 16 0) in
      let l3 : length o3 ≡ length o2 = ap length e3 ∙ length_put o2 (56 + a) octets in
      let q4 = put_then o3 o4 o5 (72 + a) (74 + a + length group) (counted group) (be 4 1) (omega arith) e4 (omega arith) e5 in
      let q3 = put_then o2 o3 o5 (56 + a) (72 + a) octets b4 (omega arith) e3 (omega arith) q4 in
      let q2 = put_then o1 o2 o5 (40 + a) (56 + a) (replicate 16 0) b3 (omega arith) e2 (omega arith) q3 in
      put_then out o1 o5 38 (40 + a) (counted admin) (replicate 16 0 ++ b3) (omega arith) e1 (omega arith) q2

-- all of a header's bytes
abbrev all_bytes : OpenBmpHeader → List ℕ → List ℕ → List ℕ
all_bytes h admin group =
    front_bytes h.header_len h.msg_len (flags_of 1 (family_bit h.router_ip.afi) 0)
    ++ (time_bytes h.seconds h.microseconds ++ rest_bytes h.router_ip.octets admin group)

module _ (h : OpenBmpHeader) (admin group : List ℕ) where
  length_all : length h.router_ip.octets ≡ 16 → length (all_bytes h admin group) ≡ 78 + length admin + length group
  unfolding be
  length_all sixteen = omega (arith, length_rest h.router_ip.octets admin group sixteen)

  put_header : (flags : ℕ) (out o1 o2 o3 : List ℕ) → length h.router_ip.octets ≡ 16 → 78 + length admin + length group ≤ length out
      → flags ≡ flags_of 1 (family_bit h.router_ip.afi) 0
      → o1 ≡ put_at out 0 (front_bytes h.header_len h.msg_len flags) → o2 ≡ put_at o1 14 (time_bytes h.seconds h.microseconds)
      → o3 ≡ put_at o2 38 (rest_bytes h.router_ip.octets admin group) → o3 ≡ sets out 0 (all_bytes h admin group)
  unfolding be
  put_header flags out o1 o2 o3 sixteen room known e1 e2 e3 =
      let front = front_bytes h.header_len h.msg_len flags in
      let time = time_bytes h.seconds h.microseconds in
      let rest = rest_bytes h.router_ip.octets admin group in
      let n = length_rest h.router_ip.octets admin group sixteen in
      let p2 = put_then out o1 o2 0 14 front time (omega arith) e1 refl e2 in
      let p3 = put_then out o2 o3 0 38 (front ++ time) rest (omega arith) p2 refl e3 in
      p3 ∙ (λ i. put_at out 0 (front_bytes h.header_len h.msg_len (known i) ++ (time ++ rest)))
      ∙ put_fits out 0 (all_bytes h admin group) (omega (arith, length_all sixteen))

-- ---- what `writable` asks
pub record Writable (h : OpenBmpHeader) (room : ℕ) : Type 0 where
  pub major_is : h.major_version ≡ 1
  pub minor_is : h.minor_version ≡ 7
  pub object_type_is : h.object_type ≡ 12
  pub time_is : time_fits h ≡ true
  pub ip_is : shown_router_ip (ip_of h.router_ip) ≡ h.router_ip
  pub admin_short : h.admin_id.length < 256 ^ 2
  pub admin_inside : h.admin_id.place + h.admin_id.length ≤ room
  pub group_short : h.router_group.length < 256 ^ 2
  pub group_inside : h.router_group.place + h.router_group.length ≤ room

view_is : (v : View) (room : ℕ) → view_fits v room ≡ true → (v.length < 256 ^ 2) × (v.place + v.length ≤ room)
view_is v room e =
    let both = (and-eq-true_iff (ltb v.length (256 ^ 2)) (inside room v)).0 e in
    (ltb-true v.length (256 ^ 2) both.0, leb-true (v.place + v.length) room both.1)

view_from : (v : View) (room : ℕ) → v.length < 256 ^ 2 → v.place + v.length ≤ room → view_fits v room ≡ true
view_from v room short within = rw (lt-ltb v.length (256 ^ 2) short) (inside_is room v within)

module _ (h : OpenBmpHeader) (room : ℕ) where
  pub writable_is : writable h room ≡ true → Writable h room
  writable_is e =
      let all = (and-eq-true_iff (fixed_fits h.major_version h.minor_version h.object_type) _).0 e in
      let fixed = (and-eq-true_iff (eqb h.major_version 1) _).0 all.0 in
      let two = (and-eq-true_iff (eqb h.minor_version 7) (eqb h.object_type 12)).0 fixed.1 in
      let time = (and-eq-true_iff (time_fits h) _).0 all.1 in
      let ip = (and-eq-true_iff (ip_fits h.router_ip) _).0 time.1 in
      let both = (and-eq-true_iff (view_fits h.admin_id room) (view_fits h.router_group room)).0 ip.1 in
      let admin = view_is h.admin_id room both.0 in
      let group = view_is h.router_group room both.1 in
      record {
        major_is = eqb-true h.major_version 1 fixed.0;
        minor_is = eqb-true h.minor_version 7 two.0;
        object_type_is = eqb-true h.object_type 12 two.1;
        time_is = time.0;
        ip_is = (equals_is_equality (shown_router_ip (ip_of h.router_ip)) h.router_ip).0 ip.0;
        admin_short = admin.0;
        admin_inside = admin.1;
        group_short = group.0;
        group_inside = group.1;
      }

  pub writable_from : Writable h room → writable h room ≡ true
  writable_from w =
      rw (
        eq-eqb h.major_version 1 w.major_is,
        eq-eqb h.minor_version 7 w.minor_is,
        eq-eqb h.object_type 12 w.object_type_is,
        w.time_is,
        (equals_is_equality (shown_router_ip (ip_of h.router_ip)) h.router_ip).1 w.ip_is,
        view_from h.admin_id room w.admin_short w.admin_inside,
      )
      (view_from h.router_group room w.group_short w.group_inside)

-- ---- the bytes that are written are those that are shown
written_ip : (ip : RouterIp) → router_ip_bytes (blank_ip ip) ≡ (shown_router_ip ip).octets
written_ip (ipv4 address skipped) = refl
written_ip (ipv6 address) = refl

module _ (h : OpenBmpHeader) (b : List ℕ) where
  bytes_are : writable h (length b) ≡ true → bytes_of h b ≡ all_bytes h (viewed b h.admin_id) (viewed b h.router_group)
  unfolding be
  bytes_are e =
      let w = writable_is h (length b) e in
      let admin = viewed b h.admin_id in
      let group = viewed b h.router_group in
      let octets : router_ip_bytes (blank_ip (ip_of h.router_ip)) ≡ h.router_ip.octets =
      written_ip (ip_of h.router_ip) ∙ ap (λ (a : IpAddr). a.octets) w.ip_is in
      let admin-long = sym (view_long b h.admin_id w.admin_inside) in
      let group-long = sym (view_long b h.router_group w.group_inside) in
      let flags = flags_of 1 (family_bit h.router_ip.afi) 0 in
      λ i. be 4 0x4F424D50 ++ (be 1 (w.major_is i) ++ (be 1 (w.minor_is i) ++ (be 2 h.header_len ++ (be 4 h.msg_len ++
      (be 1 flags ++ (be 1 (w.object_type_is i) ++ (time_bytes h.seconds h.microseconds ++
      (be 2 (admin-long i) ++ (admin ++ (replicate 16 0 ++ (octets i ++ (be 2 (group-long i) ++ (group ++ be 4 1)))))))))))))

  pub length_written : length h.router_ip.octets ≡ 16 → writable h (length b) ≡ true
      → length (bytes_of h b) ≡ 78 + h.admin_id.length + h.router_group.length
  length_written sixteen e =
      let w = writable_is h (length b) e in
      ap length (bytes_are e) ∙ length_all h (viewed b h.admin_id) (viewed b h.router_group) sixteen
      ∙ omega (arith, view_long b h.admin_id w.admin_inside, view_long b h.router_group w.group_inside)

  -- the three puts of a writable header, whose views show admin and group
  module _ (e : writable h (length b) ≡ true) (admin group : List ℕ) (admin-is : admin ≡ viewed b h.admin_id) (group-is : group ≡ viewed b h.router_group) where
    pub lengths_are : (length admin ≡ h.admin_id.length) × (length group ≡ h.router_group.length)
    lengths_are =
        let w = writable_is h (length b) e in
        (ap length admin-is ∙ view_long b h.admin_id w.admin_inside, ap length group-is ∙ view_long b h.router_group w.group_inside)

    pub put_written : (flags : ℕ) (out o1 o2 o3 : List ℕ) → length h.router_ip.octets ≡ 16 → 78 + length admin + length group ≤ length out
        → flags ≡ flags_of 1 (family_bit h.router_ip.afi) 0
        → o1 ≡ put_at out 0 (front_bytes h.header_len h.msg_len flags) → o2 ≡ put_at o1 14 (time_bytes h.seconds h.microseconds)
        → o3 ≡ put_at o2 38 (rest_bytes h.router_ip.octets admin group) → o3 ≡ sets out 0 (bytes_of h b)
    put_written flags out o1 o2 o3 sixteen room known e1 e2 e3 =
        put_header h admin group flags out o1 o2 o3 sixteen room known e1 e2 e3
        ∙ ap (sets out 0) ((λ i. all_bytes h (admin-is i) (group-is i)) ∙ sym (bytes_are e))
