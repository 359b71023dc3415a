-- What one who waits for the missing bytes gets. Assumes nothing.
use mathlib.Core.Path.{◌≡◌, refl}
use mathlib.Core.List.{List}
use Prim.Native.Nat.{ℕ, ◌-◌, ◌≤◌}
use native.Mathlib.Omega.{arith}
use borrow.Author.Tests.{leb-true}
use lib.Dec.{ltb, eqb}
use lib.ListN.{length}
use Rattle.std.specs.declared.result.Result.TheVariants.{Err}
use Rattle.wire.specs.Number as Number
use Rattle.wire.specs.Bytes.{pick, has, num_at}
use Rattle.wire.specs.Refusal.{refusal}
use Rattle.wire.specs.Waits.{Never, Waits, MissingTells}
use Rattle.wire.specs.declared.Refusal.{Refusal}
use Rattle.wire.proofs.Waits.{Judge, by_number, said, said_by, ends, good, test, need, ask, waits_by, tells_by}
use Rattle.common_header.specs.Fields as Fields
use Rattle.common_header.specs.Fields.{CommonFieldsAnswer, parts_of, read_fields, read_common_fields}
use Rattle.common_header.specs.Shown.{refusal_of}
use Rattle.common_header.specs.Read.{after_fields, read_common_header, reader}

-- its fields in order, and then what is judged behind them
unfoldable pub judge_then : Judge Never 6 6 → Judge Never 0 0
judge_then x =
    ask 1 (test (λ s. eqb (num_at 1 s 0) 3) (by_number 1 0 (omega arith) (λ k. eqb k 3)) (ask 4 (ask 1 x)) (ends Number.BadVersion 0 refl))

-- the refusal that g makes of the fields' answer, where it hands on their own refusals
pub judged_then : (g : CommonFieldsAnswer → Refusal) → ((r : Refusal) → g (Err r) ≡ r) → (x : Judge Never 6 6) (s : List ℕ)
    → (6 ≤ length s → g (Fields.shown (parts_of s)) ≡ x.judge s)
    → g (read_common_fields s) ≡ pick (ltb Number.limit (length s)) (refusal Number.TooLong 0) ((judge_then x).judge s)
unfolding judge_then read_fields ask need test ends
judged_then g refused x s behind =
    said g (ltb Number.limit (length s)) (refused _)
    (said g (has 1 s 0)
    (said g (eqb (num_at 1 s 0) 3) (said g (has 4 s 1) (said_by g (has 1 s 5) (λ six. let l = leb-true 1 (length s - 5) six in behind (omega arith)) (λ few. refused _)) (refused _)) (refused _)) (refused _))

-- ---- the fields alone
fields_read : (s : List ℕ) → Fields.refusal_of (read_common_fields s) ≡ pick (ltb Number.limit (length s)) (refusal Number.TooLong 0) ((judge_then good).judge s)
unfolding good ends
fields_read s = judged_then Fields.refusal_of (λ r. refl) good s (λ six. refl)

pub fields_waits : Waits Fields.reader
fields_waits = waits_by Fields.reader (judge_then good) fields_read

pub fields_missing_tells : MissingTells Fields.reader
fields_missing_tells = tells_by Fields.reader (judge_then good) fields_read

-- ---- the header, whose type is known
type_known : Judge Never 6 6
type_known = test (λ s. ltb 6 (num_at 1 s 5)) (by_number 1 5 (omega arith) (ltb 6)) (ends Number.UnknownKind 5 refl) good

reads : (s : List ℕ) → refusal_of (read_common_header s) ≡ pick (ltb Number.limit (length s)) (refusal Number.TooLong 0) ((judge_then type_known).judge s)
unfolding type_known test good ends
reads s =
    judged_then (λ a. refusal_of (after_fields a)) (λ r. refl) type_known s (λ six. said refusal_of (ltb 6 (num_at 1 s 5)) refl refl)

pub waits : Waits reader
waits = waits_by reader (judge_then type_known) reads

pub missing_tells : MissingTells reader
missing_tells = tells_by reader (judge_then type_known) reads
