-- What the reader answers, for every input: stages in byte order, each with one judgment on what was read and one test of the length for what
-- is read next. BadOpenBmp (8) is for a magic number, versions or a row count that are other than the grammar's, Unsupported (9) for a flag 0x80
-- that is clear or another object type. `number_at` is the number there, since its bytes were asked for before.
use Rattle.std.specs.Prelude.{ℕ, ◌+◌, ◌/◌, ◌%◌, ◌&&◌, List, [], ◌∷◌, ltb, eqb, length, take, drop}
use Rattle.wire.specs.Number as Number
use Rattle.wire.specs.Bytes.{pick, num_at, number_at, flag}
use Rattle.wire.specs.Refusal.{refusal}
use Rattle.wire.specs.Exactly.{Reader}
use Rattle.layout.specs.Layout.{cut_in}
use Rattle.models.specs.declared.Afi.{Afi}
use Rattle.models.specs.declared.Afi.TheVariants.{Ipv4, Ipv6}
use Rattle.openbmp.specs.Grammar.{widths, RouterIp, ipv4, ipv6, Reading, grammar}
use Rattle.openbmp.specs.Told as Told
use Rattle.openbmp.specs.Shown.{OpenBmpResult, shown, refused, refusal_of, stop_of}

-- the sixteen bytes of an address taken apart by its family, and the family by the flags
abbrev pub router_ip_of : Afi → List ℕ → RouterIp
router_ip_of Ipv4 bytes = ipv4 (take 4 bytes) (drop 4 bytes)
router_ip_of Ipv6 bytes = ipv6 bytes

abbrev pub family_of : ℕ → Afi
family_of flags = pick (flag 0x40 flags) Ipv6 Ipv4

-- an input taken apart by the two lengths that it holds, where it is long enough
abbrev pub parts_of : List ℕ → ℕ → ℕ → Reading
parts_of s a g =
    record {
      magic = num_at 4 s 0;
      major = num_at 1 s 4;
      minor = num_at 1 s 5;
      header_length = num_at 2 s 6;
      message_length = num_at 4 s 8;
      router_bit = num_at 1 s 12 / 0x80;
      ipv6_bit = num_at 1 s 12 / 0x40 % 2;
      lower_bits = num_at 1 s 12 % 0x40;
      object_type = num_at 1 s 13;
      seconds = num_at 4 s 14;
      microseconds = num_at 4 s 18;
      collector_hash = take 16 (drop 22 s);
      admin_length = a;
      admin = take a (drop 40 s);
      router_hash = take 16 (drop (40 + a) s);
      router_ip = router_ip_of (family_of (num_at 1 s 12)) (take 16 (drop (56 + a) s));
      group_length = g;
      group = take g (drop (74 + a) s);
      row_count = num_at 4 s (74 + a + g);
      tail = drop (78 + a + g) s;
    }

-- the first field that lacks bytes; a length that was not read yet is 0, and stands behind that field
abbrev pub cut : ℕ → ℕ → ℕ → OpenBmpResult
cut n a g = refused (cut_in (widths a g) 0 n)

unfoldable pub after_row_count : List ℕ → ℕ → ℕ → ℕ → OpenBmpResult
after_row_count s a g rows = pick (eqb rows 1) (shown (parts_of s a g)) (refused (refusal Number.BadOpenBmp (74 + a + g)))

unfoldable pub after_group_length : List ℕ → ℕ → ℕ → OpenBmpResult
after_group_length s a g =
    pick (ltb (length s) (78 + a + g)) (cut (length s) a g) (after_row_count s a g (number_at 4 s (74 + a + g)))

unfoldable pub after_admin_length : List ℕ → ℕ → OpenBmpResult
after_admin_length s a = pick (ltb (length s) (74 + a)) (cut (length s) a 0) (after_group_length s a (number_at 2 s (72 + a)))

unfoldable pub after_type : List ℕ → ℕ → OpenBmpResult
after_type s kind =
    pick (eqb kind 12)
    (pick (ltb (length s) 40) (cut (length s) 0 0) (after_admin_length s (number_at 2 s 38)))
    (refused (refusal Number.Unsupported 13))

unfoldable pub after_flags : List ℕ → ℕ → OpenBmpResult
after_flags s flags =
    pick (flag 0x80 flags)
    (pick (ltb (length s) 14) (cut (length s) 0 0) (after_type s (number_at 1 s 13)))
    (refused (refusal Number.Unsupported 12))

unfoldable pub after_versions : List ℕ → ℕ → ℕ → OpenBmpResult
after_versions s major minor =
    pick (eqb major 1 && eqb minor 7)
    (pick (ltb (length s) 13) (cut (length s) 0 0) (after_flags s (number_at 1 s 12)))
    (refused (refusal Number.BadOpenBmp 4))

unfoldable pub after_magic : List ℕ → ℕ → OpenBmpResult
after_magic s magic =
    pick (eqb magic 0x4F424D50)
    (pick (ltb (length s) 6) (cut (length s) 0 0) (after_versions s (number_at 1 s 4) (number_at 1 s 5)))
    (refused (refusal Number.BadOpenBmp 0))

abbrev pub read_open_bmp_header : List ℕ → OpenBmpResult
read_open_bmp_header s =
    pick (ltb Number.limit (length s)) (refused (refusal Number.TooLong 0))
    (pick (ltb (length s) 4) (cut (length s) 0 0) (after_magic s (number_at 4 s 0)))

-- the numbers that it refuses with
abbrev pub numbers : List ℕ
numbers = Number.TooLong ∷ Number.Cut ∷ Number.BadOpenBmp ∷ Number.Unsupported ∷ []

-- the reader, and the grammar that it is held against
abbrev pub reader : Reader
reader =
    record {
      grammar = grammar;
      Answer = OpenBmpResult;
      read = read_open_bmp_header;
      shown = shown;
      tail_at = stop_of;
      told = Told.told;
      refused = refused;
      refusal_of = refusal_of;
      numbers = numbers;
    }
