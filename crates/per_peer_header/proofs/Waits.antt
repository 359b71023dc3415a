-- What one who waits for the missing bytes gets. Assumes nothing.
use mathlib.Core.Path.{◌≡◌, refl, sym, ◌∙◌}
use mathlib.Core.Bool.{Bool, true, false}
use mathlib.Core.List.{List, [], ◌∷◌}
use Prim.Native.Nat.{ℕ, ◌-◌}
use native.Mathlib.Omega.{arith}
use borrow.Author.Tests.{leb-true, leb-false, lt-ltb}
use lib.Dec.{ltb}
use lib.ListN.{length}
use Rattle.wire.specs.Number as Number
use Rattle.wire.specs.Bytes.{pick, has, num_at}
use Rattle.wire.specs.Refusal.{refusal, cut_at}
use Rattle.wire.specs.Waits.{Never, Waits, MissingTells}
use Rattle.wire.proofs.Waits.{Judge, by_number, said, ends, good, test, need, ask, waits_by, tells_by}
use Rattle.layout.specs.Layout.{cut_in}
use Rattle.layout.proofs.Waits.{fields, fields_judge}
use Rattle.per_peer_header.specs.Shown.{shown, refused, refusal_of}
use Rattle.per_peer_header.specs.Read.{parts_of, read_per_peer_header, reader}

-- the type, which is known, and then the other fields
abbrev behind_type : List ℕ
behind_type = 1 ∷ 8 ∷ 16 ∷ 4 ∷ 4 ∷ 4 ∷ 4 ∷ []

judged : Judge Never 0 0
judged =
    ask 1 (test (λ s. ltb 3 (num_at 1 s 0)) (by_number 1 0 (omega arith) (ltb 3)) (ends Number.UnknownKind 0 refl) (fields behind_type 1 42 refl good))

reads : (s : List ℕ) → refusal_of (read_per_peer_header s) ≡ pick (ltb Number.limit (length s)) (refusal Number.TooLong 0) (judged.judge s)
unfolding judged ask need test good ends
reads s = said refusal_of (ltb Number.limit (length s)) refl (go (has 1 s 0) refl)
  where
    go : (b : Bool) → has 1 s 0 ≡ b
        → refusal_of (pick (ltb 3 (pick b (num_at 1 s 0) 0)) (refused (refusal Number.UnknownKind 0))
        (pick (ltb (length s) 42) (refused (pick b (cut_in behind_type 1 (length s)) (cut_at (length s) 0 1))) (shown (parts_of s))))
        ≡ pick b (pick (ltb 3 (num_at 1 s 0)) (refusal Number.UnknownKind 0) ((fields {Again = Never} {known = 1} behind_type 1 42 refl good).judge s)) (cut_at (length s) 0 1)
    go true h =
        let some = leb-true 1 (length s - 0) h in
        said refusal_of (ltb 3 (num_at 1 s 0)) refl
        (said refusal_of (ltb (length s) 42) refl refl ∙ sym (fields_judge 1 behind_type 1 42 refl good s (omega arith)))
    go false h = let none = leb-false 1 (length s - 0) h in rw (lt-ltb (length s) 42 (omega arith))

pub waits : Waits reader
waits = waits_by reader judged reads

pub missing_tells : MissingTells reader
missing_tells = tells_by reader judged reads
