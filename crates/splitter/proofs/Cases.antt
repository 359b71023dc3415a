-- What the splitter says of some bytes, case by case. Assumes nothing.
use mathlib.Core.Path.{◌≡◌, refl, sym, ap, ◌∙◌, subst}
use mathlib.Core.Bool.{Bool, true, false}
use mathlib.Core.List.{List, ◌++◌}
use Prim.Native.Nat.{ℕ, ◌+◌, ◌≤◌, ◌<◌}
use native.Mathlib.Omega.{arith}
use borrow.Author.Tests.{ltb-true, ltb-false, eqb-true, eqb-false, le-ltb}
use lib.Dec.{ltb, eqb}
use lib.ListN.{length, length-append}
use Rattle.std.specs.declared.result.Result.TheVariants.{Err}
use Rattle.wire.specs.Number as Number
use Rattle.wire.specs.Bytes.{num_at}
use Rattle.wire.specs.Refusal.{refusal}
use Rattle.wire.specs.declared.Refusal.{Refusal}
use Rattle.wire.proofs.Waits.{by_number}
use Rattle.common_header.specs.Fields.{CommonFieldsAnswer, parts_of, fields_of, read_fields}
use Rattle.common_header.specs.declared.CommonFields.{CommonFields}
use Rattle.common_header.proofs.Fields as Fields
use Rattle.splitter.specs.Shown.{SplitAnswer, refusal_of}
use Rattle.splitter.specs.Read.{judged, after_fields, split_of}
use Rattle.splitter.proofs.Laws.{Fitting, fitting_shown, Sized, bad_length, part, whole, sized}

-- the length field and all three fields, where they are there
abbrev pub length_in : List ℕ → ℕ
length_in s = num_at 4 s 1

abbrev pub fields_in : List ℕ → CommonFields
fields_in s = fields_of (parts_of s)

-- a header is there, and its version is right
pub record Headed (s : List ℕ) : Type 0 where
  pub six : 6 ≤ length s
  pub three : num_at 1 s 0 ≡ 3

-- not all of the header is there, and what is may be the start of one; then the version; then the length decides
pub data Case (s : List ℕ) : SplitAnswer → Type 0 where
  early : {r : Refusal} → length s < 6 → (0 < length s → num_at 1 s 0 ≡ 3) → r.number ≡ Number.Cut → length s + r.missing ≤ 6 → Case s (Err r)
  other_version : 0 < length s → (num_at 1 s 0 ≡ 3 → ⊥) → Case s (Err (refusal Number.BadVersion 0))
  headed : {a : SplitAnswer} → Headed s → Sized (length s) (fields_in s) a → Case s a

module _ (s : List ℕ) (short : length s ≤ Number.limit) where
  -- where the slice is not too long, the fields say
  by_fields : (a : CommonFieldsAnswer) → read_fields s ≡ a → split_of s ≡ after_fields (length s) a
  by_fields a e = rw (le-ltb Number.limit (length s) short) (ap (after_fields (length s)) e)

  pub split_version : 0 < length s → (num_at 1 s 0 ≡ 3 → ⊥) → split_of s ≡ Err (refusal Number.BadVersion 0)
  split_version one v = by_fields _ (Fields.other_version s (omega (arith, one)) v)

  -- a whole header: then the length decides
  pub split_headed : Headed s → split_of s ≡ judged (length s) (fields_in s)
  split_headed w =
      let six = w.six in
      by_fields _ (Fields.whole s (omega (arith, six)) w.three (omega (arith, six)) (omega (arith, six)))

  is : {a : SplitAnswer} → split_of s ≡ a → Case s a → Case s (split_of s)
  is e x = subst (Case s) (sym e) x

  pub split_case : Case s (split_of s)
  split_case = go (eqb (length s) 0) refl (eqb (num_at 1 s 0) 3) refl (ltb (length s) 6) refl (eqb (length s) 5) refl
    where
      go : (a : Bool) → eqb (length s) 0 ≡ a → (b : Bool) → eqb (num_at 1 s 0) 3 ≡ b → (c : Bool) → ltb (length s) 6 ≡ c → (d : Bool) → eqb (length s) 5 ≡ d
          → Case s (split_of s)
      go true ha b hb c hc d hd =
          let none = eqb-true (length s) 0 ha in
          is (by_fields _ (Fields.no_version s (omega (arith, none)))) (early (omega (arith, none)) (λ one. absurd (omega (arith, none, one))) refl (omega (arith, none)))
      go false ha false hb c hc d hd =
          let some = eqb-false (length s) 0 ha in
          let one : 0 < length s = omega (arith, some) in
          let v = eqb-false (num_at 1 s 0) 3 hb in
          is (split_version one v) (other_version one v)
      go false ha true hb true hc d hd =
          let some = eqb-false (length s) 0 ha in
          let few = ltb-true (length s) 6 hc in
          in_header (omega (arith, some)) (eqb-true (num_at 1 s 0) 3 hb) few d hd
        where
          in_header : 0 < length s → num_at 1 s 0 ≡ 3 → length s < 6 → (d : Bool) → eqb (length s) 5 ≡ d → Case s (split_of s)
          in_header one three few true e =
              let five = eqb-true (length s) 5 e in
              is (by_fields _ (Fields.no_kind s (omega (arith, one)) three (omega (arith, five)) (omega (arith, five)))) (early few (λ _. three) refl (omega (arith, five)))
          in_header one three few false e =
              let not_five = eqb-false (length s) 5 e in
              let less : length s < 5 = omega (arith, few, not_five) in
              is (by_fields _ (Fields.no_length s (omega (arith, one)) three (omega (arith, less, one)))) (early few (λ _. three) refl (omega (arith, less, one)))
      go false ha true hb false hc d hd =
          let w : Headed s = record { six = ltb-false (length s) 6 hc; three = eqb-true (num_at 1 s 0) 3 hb } in
          is (split_headed w) (headed w (sized (length s) (fields_in s)))

-- ---- bytes that come behind a header do not change it
module _ (s t : List ℕ) where
  pub number_more : (w at : ℕ) → at + w ≤ length s → num_at w (s ++ t) at ≡ num_at w s at
  number_more w at h = by_number w at h (λ n. n) s t (omega arith)

  pub fields_more : Headed s → fields_in (s ++ t) ≡ fields_in s
  fields_more w =
      let six = w.six in
      rw (number_more 1 0 (omega (arith, six)), number_more 4 1 (omega (arith, six)), number_more 1 5 (omega (arith, six)))

  pub headed_more : Headed s → Headed (s ++ t)
  headed_more w =
      let six = w.six in
      record { six = omega (arith, six, length-append s t); three = number_more 1 0 (omega (arith, six)) ∙ w.three }

  -- what is no Cut stays what it is, whatever comes behind it
  pub stays : length (s ++ t) ≤ Number.limit → ((refusal_of (split_of s)).number ≡ Number.Cut → ⊥) → split_of (s ++ t) ≡ split_of s
  stays short decided = go (split_of s) (split_case s (omega (arith, short, longer))) decided
    where
      longer : length (s ++ t) ≡ length s + length t
      longer = length-append s t

      go : (a : SplitAnswer) → Case s a → ((refusal_of a).number ≡ Number.Cut → ⊥) → split_of (s ++ t) ≡ a
      go _ (early l v e m) d = absurd (d e)
      go _ (other_version one v) d = split_version (s ++ t) short (omega (arith, one, longer)) (λ e. v (sym (number_more 1 0 (omega (arith, one))) ∙ e))
      go _ (headed w (bad_length r b e)) d = split_headed (s ++ t) short (headed_more w) ∙ ap (judged (length (s ++ t))) (fields_more w) ∙ e (length (s ++ t))
      go _ (headed w (part l m f)) d = absurd (d refl)
      go _ (headed w (whole f)) d =
          let there : Fitting (length (s ++ t)) (length_in s) = record { least = f.least; most = f.most; all_there = omega (arith, f.all_there, longer) } in
          split_headed (s ++ t) short (headed_more w) ∙ ap (judged (length (s ++ t))) (fields_more w) ∙ fitting_shown (length (s ++ t)) (fields_in s) there
