-- What one who waits for the missing bytes gets. Assumes nothing.
use mathlib.Core.Path.{◌≡◌, refl, sym, ap, ap₂, ◌∙◌}
use mathlib.Core.Bool.{Bool, ◌&&◌}
use mathlib.Core.List.{List, [], ◌∷◌, ◌++◌}
use Prim.Native.Nat.{ℕ, ◌+◌, ◌≤◌}
use native.Mathlib.Omega.{arith}
use borrow.Author.Tests.{ltb-true, ltb-false}
use lib.Dec.{ltb, eqb}
use lib.ListN.{length, take, drop}
use Rattle.wire.specs.Number as Number
use Rattle.wire.specs.Bytes.{pick, number_at, flag}
use Rattle.wire.specs.Refusal.{refusal}
use Rattle.wire.specs.Lacking.{total}
use Rattle.wire.specs.Waits.{Never, Waits, MissingTells}
use Rattle.wire.proofs.Waits.{Judge, by_number_at, said, said_by, ends, good, test, given, waits_by, tells_by}
use Rattle.layout.specs.Layout.{cut_in}
use Rattle.layout.proofs.Cuts.{cut_among}
use Rattle.layout.proofs.Waits.{fields, fields_judge}
use Rattle.openbmp.specs.Grammar.{widths}
use Rattle.openbmp.specs.Shown.{OpenBmpResult, refusal_of}
use Rattle.openbmp.specs.Read.{cut, after_row_count, after_group_length, after_admin_length, after_type, after_flags, after_versions, after_magic, read_open_bmp_header, reader}

-- ---- its stages, the last first: what each judges, and the fields that it needs next
row_count : (Again : List ℕ → ℕ → ℕ → Type 0) (a g : ℕ) → Judge Again (78 + a + g) (78 + a + g)
row_count Again a g =
    test (λ s. eqb (number_at 4 s (74 + a + g)) 1) (by_number_at 4 (74 + a + g) (omega arith) (λ n. eqb n 1)) good
    (ends Number.BadOpenBmp (74 + a + g) refl)

group_end : (a g : ℕ) → 74 + a + total (g ∷ 4 ∷ []) ≡ 78 + a + g
group_end a g = omega arith

group_length : (Again : List ℕ → ℕ → ℕ → Type 0) (a : ℕ) → Judge Again (74 + a) (74 + a)
group_length Again a =
    given (λ s. number_at 2 s (72 + a)) (by_number_at 2 (72 + a) (omega arith) (λ n. n))
    (λ g. fields (g ∷ 4 ∷ []) (74 + a) (78 + a + g) (group_end a g) (row_count _ a g))

admin_end : (a : ℕ) → 40 + total (a ∷ 16 ∷ 16 ∷ 2 ∷ []) ≡ 74 + a
admin_end a = omega arith

admin_length : Judge Never 40 40
admin_length =
    given (λ s. number_at 2 s 38) (by_number_at 2 38 (omega arith) (λ n. n))
    (λ a. fields (a ∷ 16 ∷ 16 ∷ 2 ∷ []) 40 (74 + a) (admin_end a) (group_length _ a))

object_type : Judge Never 14 14
object_type =
    test (λ s. eqb (number_at 1 s 13) 12) (by_number_at 1 13 (omega arith) (λ n. eqb n 12)) (fields (4 ∷ 4 ∷ 16 ∷ 2 ∷ []) 14 40 refl admin_length)
    (ends Number.Unsupported 13 refl)

flags : Judge Never 13 13
flags =
    test (λ s. flag 0x80 (number_at 1 s 12)) (by_number_at 1 12 (omega arith) (flag 0x80)) (fields (1 ∷ []) 13 14 refl object_type)
    (ends Number.Unsupported 12 refl)

is_seven : List ℕ → Bool
is_seven s = eqb (number_at 1 s 4) 1 && eqb (number_at 1 s 5) 7

versions : Judge Never 6 6
unfolding is_seven
versions =
    test is_seven (λ s t h. ap₂ ◌&&◌ (by_number_at 1 4 (omega arith) (λ n. eqb n 1) s t h) (by_number_at 1 5 (omega arith) (λ n. eqb n 7) s t h))
    (fields (2 ∷ 4 ∷ 1 ∷ []) 6 13 refl flags) (ends Number.BadOpenBmp 4 refl)

magic : Judge Never 4 4
magic =
    test (λ s. eqb (number_at 4 s 0) 0x4F424D50) (by_number_at 4 0 (omega arith) (λ n. eqb n 0x4F424D50)) (fields (1 ∷ 1 ∷ []) 4 6 refl versions)
    (ends Number.BadOpenBmp 0 refl)

judged : Judge Never 0 0
judged = fields (4 ∷ []) 0 4 refl magic

-- ---- and that the reader's stages are these
module _ (s : List ℕ) where
  -- the fields of a stage are those from the i-th to the j-th of all
  stage : {Again : List ℕ → ℕ → ℕ → Type 0} (a g i j : ℕ) (ws : List ℕ) → widths a g ≡ take i (widths a g) ++ (ws ++ drop j (widths a g)) → (at end : ℕ)
      → total (take i (widths a g)) ≡ at
      → (e : at + total ws ≡ end) (x : Judge Again end end) (y : OpenBmpResult) → at ≤ length s → (end ≤ length s → refusal_of y ≡ x.judge s)
      → refusal_of (pick (ltb (length s) end) (cut (length s) a g) y) ≡ (fields {known = at} ws at end e x).judge s
  stage a g i j ws split at end starts e x y inside on =
      said_by refusal_of (ltb (length s) end)
      (λ h. let few = ltb-true (length s) end h in ap (λ (l : List ℕ). cut_in l 0 (length s)) split ∙ cut_among (take i (widths a g)) ws (drop j (widths a g)) at (length s) starts inside (omega arith))
      (λ h. on (ltb-false (length s) end h))
      ∙ sym (fields_judge at ws at end e x s inside)

  row-count : (Again : List ℕ → ℕ → ℕ → Type 0) (a g : ℕ) → refusal_of (after_row_count s a g (number_at 4 s (74 + a + g))) ≡ (row_count Again a g).judge s
  unfolding after_row_count row_count test ends good
  row-count Again a g = said refusal_of (eqb (number_at 4 s (74 + a + g)) 1) refl refl

  group-length : (Again : List ℕ → ℕ → ℕ → Type 0) (a : ℕ) → 74 + a ≤ length s
      → refusal_of (after_group_length s a (number_at 2 s (72 + a))) ≡ (group_length Again a).judge s
  unfolding after_group_length group_length given
  group-length Again a inside =
      let g = number_at 2 s (72 + a) in
      stage a g 15 17 (g ∷ 4 ∷ []) refl (74 + a) (78 + a + g) (omega arith) (group_end a g)
      (row_count _ a g) _ inside (λ h. row-count _ a g)

  admin-length : 40 ≤ length s → refusal_of (after_admin_length s (number_at 2 s 38)) ≡ admin_length.judge s
  unfolding after_admin_length admin_length given
  admin-length inside =
      let a = number_at 2 s 38 in
      stage a 0 11 15 (a ∷ 16 ∷ 16 ∷ 2 ∷ []) refl 40 (74 + a) refl (admin_end a)
      (group_length _ a) _ inside (group-length _ a)

  object-type : 14 ≤ length s → refusal_of (after_type s (number_at 1 s 13)) ≡ object_type.judge s
  unfolding after_type object_type test ends
  object-type inside =
      said refusal_of (eqb (number_at 1 s 13) 12)
      (stage 0 0 7 11 (4 ∷ 4 ∷ 16 ∷ 2 ∷ []) refl 14 40 refl refl admin_length _ inside admin-length) refl

  flag_byte : 13 ≤ length s → refusal_of (after_flags s (number_at 1 s 12)) ≡ flags.judge s
  unfolding after_flags flags test ends
  flag_byte inside =
      said refusal_of (flag 0x80 (number_at 1 s 12))
      (stage 0 0 6 7 (1 ∷ []) refl 13 14 refl refl object_type _ inside object-type) refl

  both_versions : 6 ≤ length s → refusal_of (after_versions s (number_at 1 s 4) (number_at 1 s 5)) ≡ versions.judge s
  unfolding after_versions versions is_seven test ends
  both_versions inside =
      said refusal_of (eqb (number_at 1 s 4) 1 && eqb (number_at 1 s 5) 7)
      (stage 0 0 3 6 (2 ∷ 4 ∷ 1 ∷ []) refl 6 13 refl refl flags _ inside flag_byte) refl

  magic_number : 4 ≤ length s → refusal_of (after_magic s (number_at 4 s 0)) ≡ magic.judge s
  unfolding after_magic magic test ends
  magic_number inside =
      said refusal_of (eqb (number_at 4 s 0) 0x4F424D50)
      (stage 0 0 1 3 (1 ∷ 1 ∷ []) refl 4 6 refl refl versions _ inside both_versions) refl

  reads : refusal_of (read_open_bmp_header s) ≡ pick (ltb Number.limit (length s)) (refusal Number.TooLong 0) (judged.judge s)
  unfolding judged
  reads =
      said refusal_of (ltb Number.limit (length s)) refl
      (stage 0 0 0 1 (4 ∷ []) refl 0 4 refl refl magic _ (omega arith) magic_number)

pub waits : Waits reader
waits = waits_by reader judged reads

pub missing_tells : MissingTells reader
missing_tells = tells_by reader judged reads
