-- What one who waits for the missing bytes gets. Assumes nothing.
use mathlib.Core.Path.{◌≡◌, refl, sym, ◌∙◌}
use mathlib.Core.Bool.{Bool, true, false}
use mathlib.Core.List.{List}
use Prim.Native.Nat.{ℕ, ◌-◌, ◌≤◌}
use native.Mathlib.Omega.{arith}
use borrow.Author.Tests.{ltb-true, ltb-false, le-leb, lt-leb}
use lib.Dec.{ltb}
use lib.ListN.{length}
use Rattle.std.specs.declared.result.Result.TheVariants.{Err}
use Rattle.wire.specs.Number as Number
use Rattle.wire.specs.Bytes.{pick, has, num_at}
use Rattle.wire.specs.Refusal.{refusal, no_refusal, lacking, cut_at}
use Rattle.wire.specs.View.{view}
use Rattle.wire.specs.Waits.{Never, Waits, MissingTells}
use Rattle.wire.proofs.Waits.{Judge, by_number, said, said_by, ends, good, test, given, need, ask, waits_by, tells_by}
use Rattle.common_header.specs.declared.CommonFields.{CommonFields}
use Rattle.common_header.specs.Fields.{parts_of, fields_of}
use Rattle.common_header.proofs.Waits.{judge_then, judged_then}
use Rattle.splitter.specs.Shown.{handed_out, refusal_of}
use Rattle.splitter.specs.Read.{after_fields, split_of, reader}
use Rattle.splitter.proofs.Laws.{missing_behind, hands_out}

-- behind the header: its length, and then as many bytes as that says
behind_header : Judge Never 6 6
behind_header =
    given (λ s. num_at 4 s 1) (by_number 4 1 (omega arith) (λ n. n)) (λ n.
    test (λ s. ltb n 6) (λ s t h. refl) (ends Number.BadMessageLength 1 refl)
    (test (λ s. ltb Number.limit n) (λ s t h. refl) (ends Number.TooLong 1 refl) (ask (n - 6) good)))

reads : (s : List ℕ) → refusal_of (split_of s) ≡ pick (ltb Number.limit (length s)) (refusal Number.TooLong 0) ((judge_then behind_header).judge s)
unfolding behind_header given test ends ask need good
reads s =
    judged_then (λ a. refusal_of (after_fields (length s) a)) (λ r. refl) behind_header s (λ six. said_by refusal_of (ltb n 6) (λ h. refl) (λ least.
    said refusal_of (ltb Number.limit n) refl (rest six (ltb-false n 6 least) (ltb (length s) n) refl)))
  where
    n : ℕ
    n = num_at 4 s 1

    f : CommonFields
    f = fields_of (parts_of s)

    rest : 6 ≤ length s → 6 ≤ n → (b : Bool) → ltb (length s) n ≡ b
        → refusal_of (pick b (Err (lacking 6 (n - length s))) (handed_out f (view 0 n)))
        ≡ pick (has (n - 6) s 6) no_refusal (cut_at (length s) 6 (n - 6))
    rest six least true e =
        let few = ltb-true (length s) n e in
        sym (rw (lt-leb (n - 6) (length s - 6) (omega arith)) (missing_behind (length s) n six least))
    rest six least false e =
        let all = ltb-false (length s) n e in
        (hands_out f (view 0 n)).is_good ∙ sym (rw (le-leb (n - 6) (length s - 6) (omega arith)))

pub waits : Waits reader
waits = waits_by reader (judge_then behind_header) reads

pub missing_tells : MissingTells reader
missing_tells = tells_by reader (judge_then behind_header) reads
