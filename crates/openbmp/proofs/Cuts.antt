-- Where a header that is cut is cut: each stage's list of widths is the one that the input's own lengths give. Assumes nothing.
use Prim.Native.Nat.{ℕ, ◌+◌, ◌<◌}
use mathlib.Core.Bool.{Bool, true, false, ◌&&◌}
use mathlib.Core.Path.{◌≡◌, refl, ap, sym}
use mathlib.Core.List.{List}
use native.Mathlib.Omega.{arith}
use borrow.Author.Tests.{ltb-true}
use lib.Dec.{eqb, ltb}
use lib.ListN.{length}
use Rattle.wire.specs.Number as Number
use Rattle.wire.specs.Bytes.{pick, number_at, flag}
use Rattle.wire.specs.Refusal.{refusal}
use Rattle.wire.proofs.Bytes.{number_none}
use Rattle.wire.specs.Lacking.{total}
use Rattle.layout.specs.Layout.{cut_in}
use Rattle.openbmp.specs.Grammar.{widths}
use Rattle.openbmp.specs.Shown.{OpenBmpResult, shown, refused, refusal_of}
use Rattle.openbmp.specs.Read.{parts_of, cut, after_row_count, after_group_length, after_admin_length, after_type, after_flags, after_versions, after_magic, read_open_bmp_header}

abbrev WasCut : OpenBmpResult → Type 0
WasCut x = (refusal_of x).number ≡ Number.Cut

-- a stage whose judgment is no Cut: its own length was too short, or it went on
stage : (G : OpenBmpResult → Type 0) (test short : Bool) (x y z : OpenBmpResult) → (WasCut z → ⊥) → (short ≡ true → WasCut x → G x) → (WasCut y → G y)
    → WasCut (pick test (pick short x y) z) → G (pick test (pick short x y) z)
stage G true true x y z judged here on e = here refl e
stage G true false x y z judged here on e = on e
stage G false short x y z judged here on e = absurd (judged e)

-- ---- the fields' widths by the lengths that stand in the input; a length that is not there is 0
abbrev pub widths_in : List ℕ → List ℕ
widths_in s = widths (number_at 2 s 38) (number_at 2 s (72 + number_at 2 s 38))

module _ (s : List ℕ) where
  abbrev Lacks : OpenBmpResult → Type 0
  Lacks x = (refusal_of x ≡ cut_in (widths_in s) 0 (length s)) × (length s < total (widths_in s))

  -- before the admin's length was read, and before the group's
  early : length s < 40 → Lacks (cut (length s) 0 0)
  early h =
      let a0 : number_at 2 s 38 ≡ 0 = number_none 2 s 38 (omega arith) in
      let g0 : number_at 2 s (72 + number_at 2 s 38) ≡ 0 = number_none 2 s (72 + number_at 2 s 38) (omega arith) in
      ((λ i. cut_in (widths (sym a0 i) (sym g0 i)) 0 (length s)), omega arith)

  half : (a : ℕ) → number_at 2 s 38 ≡ a → length s < 74 + a → Lacks (cut (length s) a 0)
  half a known h =
      let g0 : number_at 2 s (72 + number_at 2 s 38) ≡ 0 = number_none 2 s (72 + number_at 2 s 38) (omega arith) in
      ((λ i. cut_in (widths (sym known i) (sym g0 i)) 0 (length s)), omega arith)

  -- ---- the stages, the last first
  row_count : (a g rows : ℕ) → WasCut (after_row_count s a g rows) → Lacks (after_row_count s a g rows)
  unfolding after_row_count
  row_count a g rows e =
      let bad = refused (refusal Number.BadOpenBmp (74 + a + g)) in
      stage Lacks (eqb rows 1) false bad (shown (parts_of s a g)) bad (λ q. omega arith) (λ q w. absurd (omega arith)) (λ q. absurd (omega arith)) e

  group-length : (a g : ℕ) → number_at 2 s 38 ≡ a → number_at 2 s (72 + number_at 2 s 38) ≡ g → WasCut (after_group_length s a g) → Lacks (after_group_length s a g)
  unfolding after_group_length
  group-length a g ea eg e =
      stage Lacks true (ltb (length s) (78 + a + g)) (cut (length s) a g) (after_row_count s a g (number_at 4 s (74 + a + g))) (refused (refusal Number.TooLong 0))
      (λ q. omega arith)
      (λ q w. let h = ltb-true (length s) (78 + a + g) q in ((λ i. cut_in (widths (sym ea i) (sym eg i)) 0 (length s)), omega arith))
      (row_count a g (number_at 4 s (74 + a + g))) e

  admin-length : (a : ℕ) → number_at 2 s 38 ≡ a → WasCut (after_admin_length s a) → Lacks (after_admin_length s a)
  unfolding after_admin_length
  admin-length a known e =
      let group = number_at 2 s (72 + a) in
      stage Lacks true (ltb (length s) (74 + a)) (cut (length s) a 0) (after_group_length s a group) (refused (refusal Number.TooLong 0))
      (λ q. omega arith) (λ q w. half a known (ltb-true (length s) (74 + a) q))
      (group-length a group known (ap (λ (k : ℕ). number_at 2 s (72 + k)) known)) e

  object_type : (kind : ℕ) → WasCut (after_type s kind) → Lacks (after_type s kind)
  unfolding after_type
  object_type kind e =
      let next = after_admin_length s (number_at 2 s 38) in
      stage Lacks (eqb kind 12) (ltb (length s) 40) (cut (length s) 0 0) next (refused (refusal Number.Unsupported 13)) (λ q. omega arith)
      (λ q w. early (ltb-true (length s) 40 q)) (admin-length (number_at 2 s 38) refl) e

  flags_byte : (flags : ℕ) → WasCut (after_flags s flags) → Lacks (after_flags s flags)
  unfolding after_flags
  flags_byte flags e =
      stage Lacks (flag 0x80 flags) (ltb (length s) 14) (cut (length s) 0 0) (after_type s (number_at 1 s 13))
      (refused (refusal Number.Unsupported 12)) (λ q. omega arith)
      (λ q w. let h = ltb-true (length s) 14 q in early (omega arith)) (object_type (number_at 1 s 13)) e

  versions : (major minor : ℕ) → WasCut (after_versions s major minor) → Lacks (after_versions s major minor)
  unfolding after_versions
  versions major minor e =
      stage Lacks (eqb major 1 && eqb minor 7) (ltb (length s) 13) (cut (length s) 0 0) (after_flags s (number_at 1 s 12))
      (refused (refusal Number.BadOpenBmp 4)) (λ q. omega arith)
      (λ q w. let h = ltb-true (length s) 13 q in early (omega arith)) (flags_byte (number_at 1 s 12)) e

  magic_number : (magic : ℕ) → WasCut (after_magic s magic) → Lacks (after_magic s magic)
  unfolding after_magic
  magic_number magic e =
      stage Lacks (eqb magic 0x4F424D50) (ltb (length s) 6) (cut (length s) 0 0) (after_versions s (number_at 1 s 4) (number_at 1 s 5))
      (refused (refusal Number.BadOpenBmp 0)) (λ q. omega arith)
      (λ q w. let h = ltb-true (length s) 6 q in early (omega arith)) (versions (number_at 1 s 4) (number_at 1 s 5)) e

  pub header_lacks : WasCut (read_open_bmp_header s) → Lacks (read_open_bmp_header s)
  header_lacks e =
      let long = refused (refusal Number.TooLong 0) in
      let next = pick (ltb (length s) 4) (cut (length s) 0 0) (after_magic s (number_at 4 s 0)) in
      stage Lacks true (ltb Number.limit (length s)) long next long (λ q. omega arith) (λ q w. absurd (omega arith))
      (stage Lacks true (ltb (length s) 4) (cut (length s) 0 0) (after_magic s (number_at 4 s 0)) long
      (λ q. omega arith) (λ q w. let h = ltb-true (length s) 4 q in early (omega arith)) (magic_number (number_at 4 s 0))) e
