-- The splitter at a boundary of a stream, by the bytes that a receiver has judged there. Assumes nothing.
use mathlib.Core.Path.{◌≡◌, refl, sym, ap, ◌∙◌, subst}
use mathlib.Core.Bool.{Bool, true, false, true≢false}
use mathlib.Core.List.{List, ◌++◌}
use Prim.Native.Nat.{ℕ, ◌+◌, ◌-◌, ◌≤◌, ◌<◌}
use native.Mathlib.Omega.{arith}
use native.Mathlib.Nat.{min-le_left}
use borrow.Author.Tests.{ltb-true, ltb-false, eq-eqb, ne_eqb, lt-ltb, le-ltb}
use lib.Dec.{ltb}
use lib.ListN.{length, take, drop, length-append, length-take, take-append-drop}
use lib.Seq.{take_all, take-append-le, take-append-add, take-length, length-take-le}
use Rattle.std.specs.declared.result.Result.TheVariants.{Ok, Err}
use Rattle.wire.specs.Number as Number
use Rattle.wire.specs.Refusal.{lacking}
use Rattle.wire.specs.View.{view, viewed}
use Rattle.wire.specs.Walk.{stop, bad, item}
use Rattle.wire.specs.declared.Refusal.{Refusal}
use Rattle.wire.proofs.Views.{viewed_inside}
use Rattle.common_header.specs.declared.CommonFields.{CommonFields}
use Rattle.splitter.specs.Shown as Shown
use Rattle.splitter.specs.Read.{judged, split_of}
use Rattle.splitter.specs.Stream.{Message, known, skipped, length_of, bytes_of, as_step}
use Rattle.splitter.proofs.Laws.{below_6, above_limit, bad_length, part, whole, hands_out}
use Rattle.splitter.proofs.Cases.{length_in, fields_in, Headed, Case, early, other_version, headed, split_case, split_headed, number_more, fields_more, headed_more}
use Rattle.splitter.proofs.Promises.{stays}
use Rattle.splitter.proofs.Stream.{split_as, Stands}
use Rattle.receiver.specs.Receive.{Judgement, room, too_big, outcome_of, judge_of, waiting}
use Rattle.receiver.specs.declared.Outcome.{Outcome}
use Rattle.receiver.proofs.Judging.{Said, said_message, said_skipped, said_cut, said_big, said_refused, said}
use Rattle.receiver.proofs.Runs.{in_body_of}
use Rattle.session.specs.Session.{or_waits, step}
use Rattle.splitter.specs.Shown.{SplitAnswer}

-- ---- what is judged of the first bytes of a stream, the splitter says of the next 65,536
module _ (h t : List ℕ) (most : length h ≤ room) where
  abbrev near : List ℕ
  near = take (room - length h) t

  window : take room (h ++ t) ≡ h ++ near
  window =
      let sum : length h + (room - length h) ≡ room = omega (arith, most) in
      ap (λ (n : ℕ). take n (h ++ t)) (sym sum) ∙ take-append-add h t (room - length h)

  window_most : length (h ++ near) ≤ room
  window_most =
      let a = length-append h near in
      let b = length-take (room - length h) t in
      let m = min-le_left (room - length h) (length t) in
      omega (arith, a, b, m, most)

  step_by : (a : SplitAnswer) → split_of (h ++ near) ≡ a → step (h ++ t) ≡ or_waits (as_step (h ++ near) a)
  step_by a e = ap (λ (w : List ℕ). or_waits (as_step w (split_of w))) window ∙ ap (λ (x : SplitAnswer). or_waits (as_step (h ++ near) x)) e

  stays_near : (a : SplitAnswer) → split_of h ≡ a → ((Shown.refusal_of a).number ≡ Number.Cut → ⊥) → split_of (h ++ near) ≡ a
  stays_near a e uncut =
      stays h near (omega (arith, window_most)) (subst (λ (x : SplitAnswer). (Shown.refusal_of x).number ≡ Number.Cut → ⊥) (sym e) uncut) ∙ e

  pub step_refused : (r : Refusal) → split_of h ≡ Err r → (r.number ≡ Number.Cut → ⊥) → step (h ++ t) ≡ bad r
  step_refused r e uncut = step_by _ (stays_near _ e uncut) ∙ rw (ne_eqb r.number Number.Cut uncut)

  -- of a message that h is the whole of
  pub step_message : (m : Message) → split_of h ≡ split_as m → length_of m ≡ length h → bytes_of m ≡ h → step (h ++ t) ≡ item m
  step_message m e n b = go m e n b
    where
      shown : (k : ℕ) → k ≡ length h → viewed (h ++ near) (view 0 k) ≡ h
      shown k q =
          let there = length-append h near in
          viewed_inside (h ++ near) (view 0 k) (omega (arith, there, q)) ∙ ap (λ (j : ℕ). take j (h ++ near)) q ∙ take-append-le (length h) h near (omega arith) ∙ take-length h

      go : (m : Message) → split_of h ≡ split_as m → length_of m ≡ length h → bytes_of m ≡ h → step (h ++ t) ≡ item m
      go (known header bytes) e n b =
          step_by _ (stays_near _ e (λ q. absurd (omega (arith, q)))) ∙ ap (λ (x : List ℕ). item (known header x)) (shown header.msg_len n ∙ sym b)
      go (skipped fields bytes) e n b =
          step_by _ (stays_near _ e (λ q. absurd (omega (arith, q)))) ∙ ap (λ (x : List ℕ). item (skipped fields x)) (shown fields.msg_len n ∙ sym b)

  -- of a header that says too much: the splitter would wait for more than it is ever asked about
  module _ (w : Headed h) (big : room < length_in h) (limited : length_in h ≤ Number.limit) where
    pub step_too_big : step (h ++ t) ≡ stop
    step_too_big =
        let cut : split_of (h ++ near) ≡ Err (lacking 6 (length_in h - length (h ++ near))) =
        split_headed (h ++ near) (omega (arith, window_most)) (headed_more h near w) ∙ ap (judged (length (h ++ near))) (fields_more h near w)
        ∙ rw (le-ltb (length_in h) 6 (omega (arith, big)), le-ltb Number.limit (length_in h) limited, lt-ltb (length (h ++ near)) (length_in h) (omega (arith, big, window_most))) in
        step_by _ cut

    pub says_too_big : too_big (h ++ t) ≡ true
    says_too_big =
        let six = w.six in
        let long = length-append h t in
        rw (le-ltb (length (h ++ t)) 6 (omega (arith, six, long)), number_more h t 4 1 (omega (arith, six)), lt-ltb room (length_in h) big)

-- what waits is Cut, and its header does not say too much
pub step_waits : (h : List ℕ) → length h ≤ room → waiting (judge_of h) ≡ true → (step h ≡ stop) × (too_big h ≡ false)
unfolding judge_of
step_waits h most w = go (split_of h) (outcome_of h (split_of h)) (said h (split_of h)) refl w
  where
    at : (a : SplitAnswer) → split_of h ≡ a → step h ≡ or_waits (as_step h a)
    at a e = ap (λ (x : List ℕ). or_waits (as_step x (split_of x))) (take_all room h most) ∙ ap (λ (x : SplitAnswer). or_waits (as_step h x)) e

    go : (a : SplitAnswer) (o : Judgement) → Said h a o → split_of h ≡ a → waiting o ≡ true → (step h ≡ stop) × (too_big h ≡ false)
    go _ _ (said_message header v) e w = absurd (true≢false (sym w))
    go _ _ (said_skipped fields v) e w = absurd (true≢false (sym w))
    go _ _ (said_cut r c b) e w = (at _ e ∙ rw (eq-eqb r.number Number.Cut c), b)
    go _ _ (said_big r c b) e w = absurd (true≢false (sym w))
    go _ _ (said_refused r c) e w = absurd (true≢false (sym w))

-- ---- the byte that ends a message is its last
good_as : (m : Message) → (Shown.refusal_of (split_as m)).number ≡ Number.Good
good_as (known header bytes) = refl
good_as (skipped fields bytes) = refl

length_as : (m : Message) → (Shown.fields_in (split_as m)).msg_len ≡ length_of m
length_as (known header bytes) = refl
length_as (skipped fields bytes) = refl

-- a message that was split off has the length that stands in its header
length_split : (h : List ℕ) → length h ≤ room → (m : Message) → split_of h ≡ split_as m → length_of m ≡ length_in h
length_split h most m e = go (split_of h) (split_case h (omega (arith, most))) e
  where
    no : {A : Type 0} (r : Refusal) → 0 < r.number → Err r ≡ split_as m → A
    no r p q = let z = ap (λ (x : SplitAnswer). (Shown.refusal_of x).number) q ∙ good_as m in absurd (omega (arith, z, p))

    go : (a : SplitAnswer) → Case h a → a ≡ split_as m → length_of m ≡ length_in h
    go _ (early {r} l v c k) q = no r (omega (arith, c)) q
    go _ (other_version one v) q = no _ (omega arith) q
    go _ (headed w (bad_length r below_6 k)) q = no r (omega arith) q
    go _ (headed w (bad_length r above_limit k)) q = no r (omega arith) q
    go _ (headed w (part l u f)) q = no _ (omega arith) q
    go _ (headed w (whole f)) q =
        sym (length_as m) ∙ ap (λ (x : SplitAnswer). (Shown.fields_in x).msg_len) (sym q)
        ∙ ap (λ (x : CommonFields). x.msg_len) (hands_out (fields_in h) (view 0 (length_in h))).fields_are

pub waiting_lacks : (o : Judgement) → waiting o ≡ true → (missing : ℕ) × (o ≡ Ok (Outcome.Waiting missing))
waiting_lacks (Ok (Outcome.Waiting missing)) w = (missing, refl)
waiting_lacks (Ok (Outcome.Message header v)) w = absurd (true≢false (sym w))
waiting_lacks (Ok (Outcome.Skipped fields v)) w = absurd (true≢false (sym w))
waiting_lacks (Err r) w = absurd (true≢false (sym w))

pub message_whole : (h : List ℕ) → length h ≤ room → ((j : ℕ) → j < length h → waiting (judge_of (take j h)) ≡ true) → (m : Message) → Stands h m → length_of m ≡ length h
message_whole h most before m x = go (ltb (length_of m) (length h)) refl
  where
    n : ℕ
    n = length_of m

    go : (b : Bool) → ltb n (length h) ≡ b → n ≡ length h
    go false b = let z = ltb-false n (length h) b in let f = x.fits.all_there in omega (arith, z, f)
    go true b =
        let z = ltb-true n (length h) b in
        let low = x.fits.least in
        let p = take n h in
        let many = length-take-le n h (omega (arith, z)) in
        let lacks = waiting_lacks (judge_of p) (before n z) in
        let in-it = in_body_of p lacks.0 (omega (arith, many, z, most)) lacks.1 (omega (arith, many, low)) in
        let same = number_more p (drop n h) 4 1 (omega (arith, many, low)) in
        let there : length_in h ≡ length_in p = ap length_in (sym (take-append-drop n h)) ∙ same in
        let is = length_split h most m x.split_so in
        let some = in-it.some in
        let sum = in-it.lacks in
        absurd (omega (arith, there, is, some, sum, many))
