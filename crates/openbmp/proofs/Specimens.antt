-- A header cut in each of its fields, one for each judgment, and what is shown of both families. Assumes nothing.
use Prim.Native.Nat.{ℕ}
use mathlib.Core.List.{List, [], ◌∷◌, ◌++◌, map}
use mathlib.Core.Path.{◌≡◌, refl}
use lib.ListN.{take, replicate}
use Rattle.wire.specs.Number as Number
use Rattle.wire.specs.Bytes.{be, value}
use Rattle.wire.specs.Refusal.{refusal, lacking}
use Rattle.wire.specs.View.{view}
use Rattle.wire.specs.declared.Refusal.{Refusal}
use Rattle.wire.specs.declared.View.{View}
use Rattle.models.specs.declared.Afi.TheVariants.{Ipv4, Ipv6}
use Rattle.models.specs.declared.IpAddr.{IpAddr}
use Rattle.openbmp.specs.Shown.{refusal_of, stop_of, header_of}
use Rattle.openbmp.specs.Read.{after_row_count, after_group_length, after_admin_length, after_type, after_flags, after_versions, after_magic, read_open_bmp_header}

abbrev octets : List ℕ
octets = 1 ∷ 2 ∷ 3 ∷ 4 ∷ 5 ∷ 6 ∷ 7 ∷ 8 ∷ 9 ∷ 10 ∷ 11 ∷ 12 ∷ 13 ∷ 14 ∷ 15 ∷ 16 ∷ []

-- a header of the admin `ab` and the group `c`, by its versions, flags, object type and row count
abbrev header : (major minor flags kind rows : ℕ) → List ℕ
header major minor flags kind rows =
    be 4 0x4F424D50 ++ (major ∷ minor ∷ (be 2 81 ++ (be 4 6 ++ (flags ∷ kind ∷ (be 4 1 ++ (be 4 0 ++ (replicate 16 9
    ++ (be 2 2 ++ (97 ∷ 98 ∷ (replicate 16 9 ++ (octets ++ (be 2 1 ++ (99 ∷ be 4 rows)))))))))))))

abbrev refused_with : List ℕ → Refusal
refused_with s = refusal_of (read_open_bmp_header s)

-- Each field in turn has all of its bytes but one, and that one is missing.
pub cuts_are_refused : map (λ n. refused_with (take n (header 1 7 0x80 12 1)))
    (3 ∷ 4 ∷ 5 ∷ 7 ∷ 11 ∷ 12 ∷ 13 ∷ 17 ∷ 21 ∷ 37 ∷ 39 ∷ 41 ∷ 57 ∷ 73 ∷ 75 ∷ 76 ∷ 80 ∷ [])
    ≡ map (λ p. lacking p 1) (0 ∷ 4 ∷ 5 ∷ 6 ∷ 8 ∷ 12 ∷ 13 ∷ 14 ∷ 18 ∷ 22 ∷ 38 ∷ 40 ∷ 42 ∷ 58 ∷ 74 ∷ 76 ∷ 77 ∷ [])
unfolding be value after_row_count after_group_length after_admin_length after_type after_flags after_versions after_magic
cuts_are_refused = refl

-- A judgment comes before what is missing behind it, and both versions are there before either is judged.
pub faults_are_refused : map refused_with
    ((79 ∷ 66 ∷ 77 ∷ 81 ∷ []) ∷ take 5 (header 2 7 0x80 12 1) ∷ take 6 (header 2 7 0x80 12 1) ∷ take 6 (header 1 6 0x80 12 1)
    ∷ take 13 (header 1 7 0x7F 12 1) ∷ take 14 (header 1 7 0x80 11 1) ∷ header 1 7 0x80 12 0 ∷ header 1 7 0x80 12 2 ∷ [])
    ≡ refusal Number.BadOpenBmp 0 ∷ lacking 5 1 ∷ refusal Number.BadOpenBmp 4 ∷ refusal Number.BadOpenBmp 4
    ∷ refusal Number.Unsupported 12 ∷ refusal Number.Unsupported 13 ∷ refusal Number.BadOpenBmp 77 ∷ refusal Number.BadOpenBmp 77 ∷ []
unfolding be value after_row_count after_group_length after_admin_length after_type after_flags after_versions after_magic
faults_are_refused = refl

-- the stop, the views and the address that are shown
abbrev seen : ℕ → ℕ × View × View × IpAddr
seen flags =
    let a = read_open_bmp_header (header 1 7 flags 12 1) in (stop_of a, (header_of a).admin_id, (header_of a).router_group, (header_of a).router_ip)

pub families_are_shown : map seen (0x80 ∷ 0xBF ∷ 0xC0 ∷ [])
    ≡ (81, view 40 2, view 76 1, record { octets = 1 ∷ 2 ∷ 3 ∷ 4 ∷ replicate 12 0; afi = Ipv4 })
    ∷ (81, view 40 2, view 76 1, record { octets = 1 ∷ 2 ∷ 3 ∷ 4 ∷ replicate 12 0; afi = Ipv4 })
    ∷ (81, view 40 2, view 76 1, record { octets = octets; afi = Ipv6 }) ∷ []
unfolding be value after_row_count after_group_length after_admin_length after_type after_flags after_versions after_magic
families_are_shown = refl
