-- The reader's stages: what each asks, and that the next one answers where it is met. Assumes nothing.
use Prim.Native.Nat.{ℕ, ◌+◌, ◌/◌, ◌%◌, ◌≤◌}
use mathlib.Core.Bool.{Bool, true, false, ◌&&◌, and-eq-true_iff}
use mathlib.Core.Path.{◌≡◌, refl, ◌∙◌, subst}
use mathlib.Core.List.{List}
use native.Mathlib.Omega.{arith}
use borrow.Author.Tests.{eqb-true, eq-eqb, ltb-true, ltb-false, le-ltb}
use lib.Dec.{eqb, ltb}
use lib.ListN.{length}
use Rattle.wire.specs.Number as Number
use Rattle.wire.specs.Bytes.{pick, num_at, number_at, flag}
use Rattle.wire.specs.Refusal.{refusal}
use Rattle.wire.proofs.Bytes.{number_is}
use Rattle.layout.proofs.Cuts.{cut_number}
use Rattle.openbmp.specs.Grammar.{widths}
use Rattle.openbmp.specs.Shown.{OpenBmpResult, shown, refused, refusal_of}
use Rattle.openbmp.specs.Read.{parts_of, cut, after_row_count, after_group_length, after_admin_length, after_type, after_flags, after_versions, after_magic, read_open_bmp_header}
use Rattle.openbmp.proofs.Laws.{admin_of, group_of, parts_in, Accepted}

abbrev Fine : OpenBmpResult → Type 0
Fine x = (refusal_of x).number ≡ Number.Good

-- a stage that refuses on one side of each of its two tests was passed on the other
passed : (test short : Bool) (x y z : OpenBmpResult) → (short ≡ true → Fine x → ⊥) → (Fine z → ⊥) → Fine (pick test (pick short x y) z)
    → (test ≡ true) × (short ≡ false)
passed true false x y z nx nz e = (refl, refl)
passed true true x y z nx nz e = absurd (nx refl e)
passed false short x y z nx nz e = absurd (nz e)

module _ (s : List ℕ) where
  -- a header that is short of a stage's end is cut
  short_of : (a g end : ℕ) → end ≤ 78 + a + g → ltb (length s) end ≡ true → Fine (cut (length s) a g) → ⊥
  short_of a g end h t e =
      let few = ltb-true (length s) end t in
      omega (arith, cut_number (widths a g) 0 (length s) (omega arith) (omega arith), e)

  start_asks : Fine (read_open_bmp_header s) → (length s ≤ Number.limit) × (4 ≤ length s)
  start_asks e =
      let next = after_magic s (number_at 4 s 0) in
      let long = refused (refusal Number.TooLong 0) in
      let rest = pick (ltb (length s) 4) (cut (length s) 0 0) next in
      let a = passed true (ltb Number.limit (length s)) long rest long (λ h q. omega arith) (λ q. omega arith) e in
      let f : Fine rest = subst (λ (b : Bool). Fine (pick b long rest)) a.1 e in
      let b = passed true (ltb (length s) 4) (cut (length s) 0 0) next long (short_of 0 0 4 (omega arith)) (λ q. omega arith) f in
      (ltb-false Number.limit (length s) a.1, ltb-false (length s) 4 b.1)

  start_on : length s ≤ Number.limit → 4 ≤ length s → read_open_bmp_header s ≡ after_magic s (num_at 4 s 0)
  start_on short long = rw (le-ltb Number.limit (length s) short, le-ltb (length s) 4 long, number_is 4 s 0 (omega arith))

  magic_asks : (magic : ℕ) → Fine (after_magic s magic) → (magic ≡ 0x4F424D50) × (6 ≤ length s)
  unfolding after_magic
  magic_asks magic e =
      let p = passed (eqb magic 0x4F424D50) (ltb (length s) 6) (cut (length s) 0 0) (after_versions s (number_at 1 s 4) (number_at 1 s 5))
      (refused (refusal Number.BadOpenBmp 0)) (short_of 0 0 6 (omega arith)) (λ q. omega arith) e in
      (eqb-true magic 0x4F424D50 p.0, ltb-false (length s) 6 p.1)

  magic_on : (magic : ℕ) → magic ≡ 0x4F424D50 → 6 ≤ length s → after_magic s magic ≡ after_versions s (num_at 1 s 4) (num_at 1 s 5)
  unfolding after_magic
  magic_on magic e long =
      rw (eq-eqb magic 0x4F424D50 e, le-ltb (length s) 6 long, number_is 1 s 4 (omega arith), number_is 1 s 5 (omega arith))

  versions_ask : (major minor : ℕ) → Fine (after_versions s major minor) → (major ≡ 1) × (minor ≡ 7) × (13 ≤ length s)
  unfolding after_versions
  versions_ask major minor e =
      let p = passed (eqb major 1 && eqb minor 7) (ltb (length s) 13) (cut (length s) 0 0) (after_flags s (number_at 1 s 12))
      (refused (refusal Number.BadOpenBmp 4)) (short_of 0 0 13 (omega arith)) (λ q. omega arith) e in
      let both = (and-eq-true_iff (eqb major 1) (eqb minor 7)).0 p.0 in
      (eqb-true major 1 both.0, eqb-true minor 7 both.1, ltb-false (length s) 13 p.1)

  versions_on : (major minor : ℕ) → major ≡ 1 → minor ≡ 7 → 13 ≤ length s → after_versions s major minor ≡ after_flags s (num_at 1 s 12)
  unfolding after_versions
  versions_on major minor e f long =
      rw (eq-eqb major 1 e, eq-eqb minor 7 f, le-ltb (length s) 13 long, number_is 1 s 12 (omega arith))

  flags_ask : (flags : ℕ) → Fine (after_flags s flags) → (flags / 0x80 % 2 ≡ 1) × (14 ≤ length s)
  unfolding after_flags
  flags_ask flags e =
      let p = passed (flag 0x80 flags) (ltb (length s) 14) (cut (length s) 0 0) (after_type s (number_at 1 s 13))
      (refused (refusal Number.Unsupported 12)) (short_of 0 0 14 (omega arith)) (λ q. omega arith) e in
      (eqb-true (flags / 0x80 % 2) 1 p.0, ltb-false (length s) 14 p.1)

  flags_on : (flags : ℕ) → flags / 0x80 % 2 ≡ 1 → 14 ≤ length s → after_flags s flags ≡ after_type s (num_at 1 s 13)
  unfolding after_flags
  flags_on flags e long = rw (eq-eqb (flags / 0x80 % 2) 1 e, le-ltb (length s) 14 long, number_is 1 s 13 (omega arith))

  type_asks : (kind : ℕ) → Fine (after_type s kind) → (kind ≡ 12) × (40 ≤ length s)
  unfolding after_type
  type_asks kind e =
      let p = passed (eqb kind 12) (ltb (length s) 40) (cut (length s) 0 0) (after_admin_length s (number_at 2 s 38))
      (refused (refusal Number.Unsupported 13)) (short_of 0 0 40 (omega arith)) (λ q. omega arith) e in
      (eqb-true kind 12 p.0, ltb-false (length s) 40 p.1)

  type_on : (kind : ℕ) → kind ≡ 12 → 40 ≤ length s → after_type s kind ≡ after_admin_length s (admin_of s)
  unfolding after_type
  type_on kind e long = rw (eq-eqb kind 12 e, le-ltb (length s) 40 long, number_is 2 s 38 (omega arith))

  admin_asks : (a : ℕ) → Fine (after_admin_length s a) → 74 + a ≤ length s
  unfolding after_admin_length
  admin_asks a e =
      let p = passed true (ltb (length s) (74 + a)) (cut (length s) a 0) (after_group_length s a (number_at 2 s (72 + a)))
      (refused (refusal Number.TooLong 0)) (short_of a 0 (74 + a) (omega arith)) (λ q. omega arith) e in
      ltb-false (length s) (74 + a) p.1

  admin_on : (a : ℕ) → 74 + a ≤ length s → after_admin_length s a ≡ after_group_length s a (num_at 2 s (72 + a))
  unfolding after_admin_length
  admin_on a long = rw (le-ltb (length s) (74 + a) long, number_is 2 s (72 + a) (omega arith))

  group_asks : (a g : ℕ) → Fine (after_group_length s a g) → 78 + a + g ≤ length s
  unfolding after_group_length
  group_asks a g e =
      let p = passed true (ltb (length s) (78 + a + g)) (cut (length s) a g) (after_row_count s a g (number_at 4 s (74 + a + g)))
      (refused (refusal Number.TooLong 0)) (short_of a g (78 + a + g) (omega arith)) (λ q. omega arith) e in
      ltb-false (length s) (78 + a + g) p.1

  group_on : (a g : ℕ) → 78 + a + g ≤ length s → after_group_length s a g ≡ after_row_count s a g (num_at 4 s (74 + a + g))
  unfolding after_group_length
  group_on a g long = rw (le-ltb (length s) (78 + a + g) long, number_is 4 s (74 + a + g) (omega arith))

  rows_ask : (a g rows : ℕ) → Fine (after_row_count s a g rows) → rows ≡ 1
  unfolding after_row_count
  rows_ask a g rows e =
      let bad = refused (refusal Number.BadOpenBmp (74 + a + g)) in
      let p = passed (eqb rows 1) false bad (shown (parts_of s a g)) bad (λ h q. omega arith) (λ q. omega arith) e in
      eqb-true rows 1 p.0

  rows_on : (a g rows : ℕ) → rows ≡ 1 → after_row_count s a g rows ≡ shown (parts_of s a g)
  unfolding after_row_count
  rows_on a g rows e = rw (eq-eqb rows 1 e)

  -- ---- what the reader accepts, and how it shows it
  pub accepted : Fine (read_open_bmp_header s) → Accepted s
  accepted e =
      let t0 = start_asks e in
      let e1 = subst Fine (start_on t0.0 t0.1) e in
      let t1 = magic_asks (num_at 4 s 0) e1 in
      let e2 = subst Fine (magic_on (num_at 4 s 0) t1.0 t1.1) e1 in
      let t2 = versions_ask (num_at 1 s 4) (num_at 1 s 5) e2 in
      let e3 = subst Fine (versions_on (num_at 1 s 4) (num_at 1 s 5) t2.0 t2.1 t2.2) e2 in
      let t3 = flags_ask (num_at 1 s 12) e3 in
      let e4 = subst Fine (flags_on (num_at 1 s 12) t3.0 t3.1) e3 in
      let t4 = type_asks (num_at 1 s 13) e4 in
      let e5 = subst Fine (type_on (num_at 1 s 13) t4.0 t4.1) e4 in
      let e6 = subst Fine (admin_on (admin_of s) (admin_asks (admin_of s) e5)) e5 in
      let t6 = group_asks (admin_of s) (group_of s) e6 in
      let e7 = subst Fine (group_on (admin_of s) (group_of s) t6) e6 in
      record {
        short = t0.0;
        magic = t1.0;
        major = t2.0;
        minor = t2.1;
        router = t3.0;
        kind = t4.0;
        long = t6;
        rows = rows_ask (admin_of s) (group_of s) (num_at 4 s (74 + admin_of s + group_of s)) e7;
      }

  pub shows_parts : Accepted s → read_open_bmp_header s ≡ shown (parts_in s)
  shows_parts acc =
      let a = admin_of s in
      let g = group_of s in
      let long = acc.long in
      start_on acc.short (omega arith) ∙ magic_on (num_at 4 s 0) acc.magic (omega arith)
      ∙ versions_on (num_at 1 s 4) (num_at 1 s 5) acc.major acc.minor (omega arith) ∙ flags_on (num_at 1 s 12) acc.router (omega arith)
      ∙ type_on (num_at 1 s 13) acc.kind (omega arith) ∙ admin_on a (omega arith) ∙ group_on a g long
      ∙ rows_on a g (num_at 4 s (74 + a + g)) acc.rows
