-- What the bytes since the last boundary are, case by case. Assumes nothing.
use mathlib.Core.Path.{◌≡◌, refl, sym, ap, ◌∙◌, subst}
use mathlib.Core.Bool.{Bool, true, false}
use mathlib.Core.List.{List}
use Prim.Native.Nat.{ℕ, ◌+◌, ◌-◌, ◌≤◌, ◌<◌}
use native.Mathlib.Omega.{arith}
use borrow.Author.Tests.{ltb-true, ltb-false, eqb-true, eqb-false, eq-eqb, lt-ltb, le-ltb}
use lib.Dec.{ltb, eqb}
use lib.ListN.{length}
use Rattle.std.specs.declared.result.Result.TheVariants.{Ok, Err}
use Rattle.wire.specs.Number as Number
use Rattle.wire.specs.Bytes.{pick, num_at}
use Rattle.wire.specs.Refusal.{refusal, lacking}
use Rattle.wire.specs.View.{view}
use Rattle.wire.specs.declared.Refusal.{Refusal}
use Rattle.wire.specs.declared.View.{View}
use Rattle.common_header.specs.declared.BmpCommonHeader.{BmpCommonHeader}
use Rattle.common_header.specs.declared.CommonFields.{CommonFields}
use Rattle.splitter.specs.Shown.{SplitAnswer, handed_out}
use Rattle.splitter.specs.Read as Read
use Rattle.splitter.specs.Read.{split_of}
use Rattle.splitter.proofs.Laws.{Fitting, fitting_shown, BadLength, below_6, above_limit, bad_length, part, whole, handed_either}
use Rattle.splitter.proofs.Cases.{length_in, fields_in, Headed, Case, early, other_version, headed, split_headed, split_case}
use Rattle.receiver.specs.Receive.{Judgement, room, too_big, stream_too_big, outcome_of, judge_of, waiting}
use Rattle.receiver.specs.Steps.{by_room}
use Rattle.receiver.specs.declared.Outcome.{Outcome}
use Rattle.splitter.specs.declared.Split.{Split}

-- ---- what an outcome says of the splitter's answer
pub data Said (h : List ℕ) : SplitAnswer → Judgement → Type 0 where
  said_message : (header : BmpCommonHeader) (v : View) → Said h (Ok (Split.Message header v)) (Ok (Outcome.Message header v))
  said_skipped : (fields : CommonFields) (v : View) → Said h (Ok (Split.Skipped fields v)) (Ok (Outcome.Skipped fields v))
  said_cut : (r : Refusal) → r.number ≡ Number.Cut → too_big h ≡ false → Said h (Err r) (Ok (Outcome.Waiting r.missing))
  said_big : (r : Refusal) → r.number ≡ Number.Cut → too_big h ≡ true → Said h (Err r) (Err stream_too_big)
  said_refused : (r : Refusal) → (r.number ≡ Number.Cut → ⊥) → Said h (Err r) (Err r)

pub said : (h : List ℕ) (a : SplitAnswer) → Said h a (outcome_of h a)
said h (Ok (Split.Message header v)) = said_message header v
said h (Ok (Split.Skipped fields v)) = said_skipped fields v
said h (Err r) = go (eqb r.number Number.Cut) refl (too_big h) refl
  where
    go : (a : Bool) → eqb r.number Number.Cut ≡ a → (b : Bool) → too_big h ≡ b
        → Said h (Err r) (pick a (pick b (Err stream_too_big) (Ok (Outcome.Waiting r.missing))) (Err r))
    go true ha true hb = said_big r (eqb-true r.number Number.Cut ha) hb
    go true ha false hb = said_cut r (eqb-true r.number Number.Cut ha) hb
    go false ha b hb = said_refused r (eqb-false r.number Number.Cut ha)

-- what brings a refusal of the splitter: the first byte, or the length of a whole header
pub data Brought (h : List ℕ) (r : Refusal) : Type 0 where
  by_version : 0 < length h → (num_at 1 h 0 ≡ 3 → ⊥) → r ≡ refusal Number.BadVersion 0 → Brought h r
  by-header : Headed h → BadLength r → ((there : ℕ) → Read.judged there (fields_in h) ≡ Err r) → Brought h r

-- ---- what the bytes are: the start of a header; the start of a message; refused by the splitter; too big; a message
pub data Judged (h : List ℕ) : Judgement → Type 0 where
  in_header : (m : ℕ) → length h < 6 → (0 < length h → num_at 1 h 0 ≡ 3) → length h + m ≤ 6 → Judged h (Ok (Outcome.Waiting m))
  in_body : Headed h → 6 ≤ length_in h → length_in h ≤ room → length h < length_in h → Judged h (Ok (Outcome.Waiting (length_in h - length h)))
  refused : (r : Refusal) → split_of h ≡ Err r → (r.number ≡ Number.Cut → ⊥) → 0 < r.number → Brought h r → Judged h (Err r)
  too-big : Headed h → room < length_in h → length_in h ≤ Number.limit → Judged h (Err stream_too_big)
  message : Headed h → Fitting (length h) (length_in h) → Judged h (outcome_of h (handed_out (fields_in h) (view 0 (length_in h))))

-- the header is not whole, and says nothing
pub not_yet : (h : List ℕ) → length h < 6 → too_big h ≡ false
not_yet h l = rw (lt-ltb (length h) 6 l)

-- it is whole, and its length says whether the message is too big
pub by_length : (h : List ℕ) → Headed h → too_big h ≡ ltb room (length_in h)
by_length h w = rw (le-ltb (length h) 6 w.six)

module _ (h : List ℕ) (most : length h ≤ room) where
  short : length h ≤ Number.limit
  short = omega (arith, most)

  cut_early : (r : Refusal) → r.number ≡ Number.Cut → length h < 6 → outcome_of h (Err r) ≡ Ok (Outcome.Waiting r.missing)
  cut_early r e l = rw (eq-eqb r.number Number.Cut e, not_yet h l)

  pub judged : Judged h (judge_of h)
  unfolding judge_of
  judged = go (split_of h) (split_case h short) refl
    where
      go : (a : SplitAnswer) → Case h a → split_of h ≡ a → Judged h (outcome_of h a)
      go _ (early {r} l v e m) q = subst (Judged h) (sym (cut_early r e l)) (in_header r.missing l v m)
      go _ (other_version one v) q = refused (refusal Number.BadVersion 0) q (λ e. absurd (omega (arith, e))) (omega arith) (by_version one v refl)
      go _ (headed w (bad_length r below_6 e)) q = refused r q (λ z. absurd (omega (arith, z))) (omega arith) (by-header w below_6 e)
      go _ (headed w (bad_length r above_limit e)) q = refused r q (λ z. absurd (omega (arith, z))) (omega arith) (by-header w above_limit e)
      go _ (headed w (part l m f)) q = by-room (ltb room (length_in h)) refl
        where
          by-room : (b : Bool) → ltb room (length_in h) ≡ b → Judged h (outcome_of h (Err (lacking 6 (length_in h - length h))))
          by-room true b =
              let o : outcome_of h (Err (lacking 6 (length_in h - length h))) ≡ Err stream_too_big = rw (by_length h w ∙ b) in
              subst (Judged h) (sym o) (too-big w (ltb-true room (length_in h) b) m)
          by-room false b =
              let o : outcome_of h (Err (lacking 6 (length_in h - length h))) ≡ Ok (Outcome.Waiting (length_in h - length h)) = rw (by_length h w ∙ b) in
              subst (Judged h) (sym o) (in_body w l (ltb-false room (length_in h) b) f)
      go _ (headed w (whole f)) q = message w f

  -- ---- what is judged so, by what stands in the bytes
  pub waits_early : length h < 6 → (0 < length h → num_at 1 h 0 ≡ 3) → waiting (judge_of h) ≡ true
  unfolding judge_of
  waits_early few three = go (split_of h) (split_case h short)
    where
      go : (a : SplitAnswer) → Case h a → waiting (outcome_of h a) ≡ true
      go _ (early {r} l v e m) = ap waiting (cut_early r e l)
      go _ (other_version one v) = absurd (v (three one))
      go _ (headed w (bad_length r b e)) = let six = w.six in absurd (omega (arith, six, few))
      go _ (headed w (part l m f)) = let six = w.six in absurd (omega (arith, six, few))
      go _ (headed w (whole f)) = let six = w.six in absurd (omega (arith, six, few))

  pub waits_in_body : Headed h → 6 ≤ length_in h → length_in h ≤ room → length h < length_in h → waiting (judge_of h) ≡ true
  unfolding judge_of
  waits_in_body w l m f =
      let cut : split_of h ≡ Err (lacking 6 (length_in h - length h)) =
      split_headed h short w ∙ rw (le-ltb (length_in h) 6 l, le-ltb Number.limit (length_in h) (omega (arith, m)), lt-ltb (length h) (length_in h) f) in
      ap (λ (a : SplitAnswer). waiting (outcome_of h a)) cut ∙ rw (by_length h w, le-ltb room (length_in h) m)

  pub says_too_big : Headed h → room < length_in h → length_in h ≤ Number.limit → judge_of h ≡ Err stream_too_big
  unfolding judge_of
  says_too_big w big limited =
      let cut : split_of h ≡ Err (lacking 6 (length_in h - length h)) =
      split_headed h short w ∙ rw (le-ltb (length_in h) 6 (omega (arith, big)), le-ltb Number.limit (length_in h) limited, lt-ltb (length h) (length_in h) (omega (arith, big, most))) in
      ap (outcome_of h) cut ∙ rw (by_length h w, lt-ltb room (length_in h) big)

  pub whole_message : Headed h → Fitting (length h) (length_in h) → waiting (judge_of h) ≡ false
  unfolding judge_of
  whole_message w f =
      ap (λ (a : SplitAnswer). waiting (outcome_of h a)) (split_headed h short w ∙ fitting_shown (length h) (fields_in h) f)
      ∙ handed_either (λ a. waiting (outcome_of h a) ≡ false) (fields_in h) (view 0 (length_in h)) refl refl

  -- ---- as the code finds it: more is missing than there is room for exactly where the header says too much
  abbrev RoomSays : SplitAnswer → Type 0
  RoomSays (Ok (Split.Message header v)) = Unit {0}
  RoomSays (Ok (Split.Skipped fields v)) = Unit {0}
  RoomSays (Err r) = by_room r (room - length h) ≡ outcome_of h (Err r)

  room_says : (a : SplitAnswer) → Case h a → RoomSays a
  room_says _ (early {r} l v e m) =
      rw (eq-eqb r.number Number.Cut e, not_yet h l, le-ltb (room - length h) r.missing (omega (arith, m, l)))
  room_says _ (other_version one v) = refl
  room_says _ (headed w (bad_length r below_6 e)) = refl
  room_says _ (headed w (bad_length r above_limit e)) = refl
  room_says _ (headed w (part l m f)) = go (ltb room (length_in h)) refl
    where
      n : ℕ
      n = length_in h

      go : (b : Bool) → ltb room n ≡ b → RoomSays (Err (lacking 6 (n - length h)))
      go true b = let z = ltb-true room n b in rw (by_length h w ∙ b, lt-ltb (room - length h) (n - length h) (omega (arith, z, most)))
      go false b = let z = ltb-false room n b in rw (by_length h w ∙ b, le-ltb (room - length h) (n - length h) (omega (arith, z)))
  room_says _ (headed w (whole f)) = handed_either RoomSays (fields_in h) (view 0 (length_in h)) tt tt

  pub by-room : (r : Refusal) → split_of h ≡ Err r → by_room r (room - length h) ≡ judge_of h
  unfolding judge_of
  by-room r e = subst RoomSays e (room_says (split_of h) (split_case h short)) ∙ ap (outcome_of h) (sym e)
