-- The fields and the grammar: an input taken apart and joined again, both ways; and what follows from a known type. Assumes nothing.
use mathlib.Core.Path.{◌≡◌, refl}
use mathlib.Core.Bool.{Bool, true, false}
use mathlib.Core.List.{List}
use Prim.Native.Nat.{ℕ, suc, ◌+◌, ◌-◌, ◌≤◌}
use native.Mathlib.Omega.{arith}
use borrow.Author.Tests.{leb-true, ltb-false, eqb-true, le-ltb}
use lib.Dec.{ltb, eqb, lit<}
use lib.ListN.{length}
use Rattle.std.specs.declared.result.Result.TheVariants.{Ok, Err}
use Rattle.wire.specs.Number as Number
use Rattle.wire.specs.Bytes.{pick, has, be, num_at, Bytes}
use Rattle.wire.specs.Refusal.{refusal, cut_at}
use Rattle.wire.proofs.Bytes.{value_be, num_back}
use Rattle.common_header.specs.Grammar.{Reading, join, AnyType}
use Rattle.common_header.specs.Fields as Fields
use Rattle.common_header.specs.Fields.{CommonFieldsAnswer, parts_of, read_fields, read_common_fields}
use Rattle.common_header.specs.Shown.{good_answer, refusal_of}
use Rattle.common_header.specs.Read.{judged, after_fields}
use Rattle.common_header.specs.declared.CommonFields.{CommonFields}
use Rattle.common_header.proofs.Fields.{whole}

-- ---- joined, then taken apart
pub length_join : (r : Reading) → length (join r) ≡ 6 + length r.tail
unfolding be
length_join r = omega arith

pub parts_join : (r : Reading) → AnyType r → parts_of (join r) ≡ r
unfolding be
parts_join r g =
    let version_is : num_at 1 (join r) 0 ≡ r.version = value_be 1 r.version (rw g.version_is (lit< tt)) in
    let length_is : num_at 4 (join r) 1 ≡ r.length = value_be 4 r.length g.length_fits in
    let kind_is : num_at 1 (join r) 5 ≡ r.kind = value_be 1 r.kind g.kind_fits in
    λ i. record { version = version_is i; length = length_is i; kind = kind_is i; tail = r.tail }

-- ---- taken apart, then joined
pub join_parts : {s : List ℕ} → Bytes s → 6 ≤ length s → join (parts_of s) ≡ s
join_parts {s} p h = rw (num_back 1 5 p (omega arith), num_back 4 1 p (omega arith)) (num_back 1 0 p (omega arith))

-- ---- the fields that are accepted
pub record Accepted (s : List ℕ) : Type 0 where
  pub short : length s ≤ Number.limit
  pub long : 6 ≤ length s
  pub three : num_at 1 s 0 ≡ 3

pub accepted : (s : List ℕ) → (Fields.refusal_of (read_common_fields s)).number ≡ Number.Good → Accepted s
unfolding read_fields
accepted s e = go (ltb Number.limit (length s)) refl (has 1 s 0) refl (eqb (num_at 1 s 0) 3) refl (has 4 s 1) refl (has 1 s 5) refl e
  where
    no : {k : ℕ} → suc k ≡ 0 → Accepted s
    no q = absurd (omega arith)

    go : (a : Bool) → ltb Number.limit (length s) ≡ a → (b : Bool) → has 1 s 0 ≡ b → (c : Bool) → eqb (num_at 1 s 0) 3 ≡ c
        → (d : Bool) → has 4 s 1 ≡ d → (f : Bool) → has 1 s 5 ≡ f
        → (Fields.refusal_of (pick a (Err (refusal Number.TooLong 0))
        (pick b (pick c (pick d (pick f (Fields.shown (parts_of s)) (Err (cut_at (length s) 5 1))) (Err (cut_at (length s) 1 4)))
        (Err (refusal Number.BadVersion 0))) (Err (cut_at (length s) 0 1))))).number ≡ Number.Good
        → Accepted s
    go true ha b hb c hc d hd f hf q = no q
    go false ha false hb c hc d hd f hf q = no q
    go false ha true hb false hc d hd f hf q = no q
    go false ha true hb true hc false hd f hf q = no q
    go false ha true hb true hc true hd false hf q = no q
    go false ha true hb true hc true hd true hf q =
        let h = leb-true 1 (length s - 5) hf in
        record { short = ltb-false Number.limit (length s) ha; long = omega arith; three = eqb-true (num_at 1 s 0) 3 hc }

-- and how they are shown
pub shows_parts : (s : List ℕ) → Accepted s → read_common_fields s ≡ Fields.shown (parts_of s)
shows_parts s a =
    rw (le-ltb Number.limit (length s) a.short, whole s (omega (arith, a.long)) a.three (omega (arith, a.long)) (omega (arith, a.long)))

-- ---- the header of fields
pub known_judged : (f : CommonFields) → f.kind ≤ 6 → judged f ≡ good_answer f
known_judged f h = rw (le-ltb 6 f.kind h)

pub judged_known : (f : CommonFields) → (refusal_of (judged f)).number ≡ Number.Good → f.kind ≤ 6
judged_known f e = go (ltb 6 f.kind) refl e
  where
    go : (b : Bool) → ltb 6 f.kind ≡ b
        → (refusal_of (pick b (Err (refusal Number.UnknownKind 5)) (good_answer f))).number ≡ Number.Good
        → f.kind ≤ 6
    go true h q = absurd (omega arith)
    go false h q = ltb-false 6 f.kind h

-- a good header comes from good fields
pub fields_accepted : (a : CommonFieldsAnswer) → (refusal_of (after_fields a)).number ≡ Number.Good → (Fields.refusal_of a).number ≡ Number.Good
fields_accepted (Ok f) e = refl
fields_accepted (Err r) e = e
