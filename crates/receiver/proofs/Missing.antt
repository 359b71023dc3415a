-- What the number of missing bytes means to who waits. Assumes nothing.
use mathlib.Core.Path.{◌≡◌, refl, sym, ap, ◌∙◌, subst}
use mathlib.Core.Bool.{false, true≢false}
use mathlib.Core.List.{List, ◌++◌}
use Prim.Native.Nat.{ℕ, ◌+◌, ◌-◌, ◌≤◌, ◌<◌}
use native.Mathlib.Omega.{arith}
use borrow.Author.Tests.{le-ltb}
use lib.ListN.{length, length-append}
use Rattle.std.specs.declared.result.Result.TheVariants.{Ok, Err}
use Rattle.wire.specs.Number as Number
use Rattle.wire.specs.Refusal.{lacking}
use Rattle.wire.specs.declared.Refusal.{Refusal}
use Rattle.wire.specs.Waits.{TellsMissing}
use Rattle.splitter.specs.Shown.{SplitAnswer, refusal_of}
use Rattle.splitter.specs.Read.{split_of}
use Rattle.splitter.proofs.Cases.{number_more, headed_more}
use Rattle.splitter.proofs.Promises as Splitter
use Rattle.receiver.specs.Receive.{Judgement, room, too_big, outcome_of, judge_of, waiting}
use Rattle.receiver.specs.declared.Outcome.{Outcome}
use Rattle.receiver.proofs.Judging.{Said, said_message, said_skipped, said_cut, said_big, said_refused, said, Judged, in_header, in_body, refused, too-big, message, not_yet, by_length, judged, whole_message}

-- what waits is Cut, and says what the splitter says is missing
record Cut (h : List ℕ) (m : ℕ) : Type 0 where
  refusal : Refusal
  split_so : split_of h ≡ Err refusal
  is_cut : refusal.number ≡ Number.Cut
  missing_is : refusal.missing ≡ m

was_cut : (h : List ℕ) (m : ℕ) → judge_of h ≡ Ok (Outcome.Waiting m) → Cut h m
unfolding judge_of
was_cut h m e = go (split_of h) (outcome_of h (split_of h)) (said h (split_of h)) refl e
  where
    apart : ◌≡◌ {A = ℕ} 0 1 → Cut h m
    apart z = absurd (omega (arith, z))

    go : (a : SplitAnswer) (o : Judgement) → Said h a o → split_of h ≡ a → o ≡ Ok (Outcome.Waiting m) → Cut h m
    go _ _ (said_message header v) s q = apart cc
    go _ _ (said_skipped fields v) s q = apart cc
    go _ _ (said_cut r c b) s q = record { refusal = r; split_so = s; is_cut = c; missing_is = cc }
    go _ _ (said_big r c b) s q = apart cc
    go _ _ (said_refused r c) s q = apart cc

pub missing_some : (h : List ℕ) (m : ℕ) → judge_of h ≡ Ok (Outcome.Waiting m) → 0 < m
missing_some h m e =
    let c = was_cut h m e in
    let tells = subst (λ (a : SplitAnswer). TellsMissing (refusal_of a)) c.split_so (Splitter.missing_tells h) in
    let some = tells.cut_lacks c.is_cut in
    let is = c.missing_is in
    omega (arith, some, is)

-- a few bytes more do not make a message too big that was not
still_fits : (h t : List ℕ) (m : ℕ) → length (h ++ t) ≤ room → judge_of h ≡ Ok (Outcome.Waiting m) → length t < m → too_big (h ++ t) ≡ false
still_fits h t m most e few = go (judge_of h) (judged h (omega (arith, most, long))) e
  where
    long : length (h ++ t) ≡ length h + length t
    long = length-append h t

    apart : ◌≡◌ {A = ℕ} 0 1 → too_big (h ++ t) ≡ false
    apart z = absurd (omega (arith, z))

    go : (o : Judgement) → Judged h o → o ≡ Ok (Outcome.Waiting m) → too_big (h ++ t) ≡ false
    go _ (in_header k l v u) q = let z : k ≡ m = cc in not_yet (h ++ t) (omega (arith, long, u, few, z))
    go _ (in_body w l u f) q =
        let six = w.six in
        by_length (h ++ t) (headed_more h t w) ∙ rw (number_more h t 4 1 (omega (arith, six))) (le-ltb room _ u)
    go _ (refused r s c p b) q = apart cc
    go _ (too-big w l u) q = apart cc
    go _ (message w f) q = absurd (true≢false (sym (ap waiting e) ∙ whole_message h (omega (arith, most, long)) w f))

pub fewer_wait : (h t : List ℕ) (m : ℕ) → length (h ++ t) ≤ room → judge_of h ≡ Ok (Outcome.Waiting m) → length t < m → judge_of (h ++ t) ≡ Ok (Outcome.Waiting (m - length t))
unfolding judge_of
fewer_wait h t m most e few =
    let c = was_cut h m e in
    let waited = Splitter.waits h t (omega (arith, most)) in
    let r = refusal_of (split_of h) in
    let is : r ≡ c.refusal = ap refusal_of c.split_so in
    let missing : r.missing ≡ m = ap (λ (x : Refusal). x.missing) is ∙ c.missing_is in
    let cut = waited.too_few (ap (λ (x : Refusal). x.number) is ∙ c.is_cut) (omega (arith, missing, few)) in
    let number : (refusal_of (split_of (h ++ t))).number ≡ Number.Cut = ap (λ (x : Refusal). x.number) cut in
    let again : split_of (h ++ t) ≡ Err (lacking r.place (r.missing - length t)) =
    (Splitter.refuses).shows_nothing (h ++ t) (omega (arith, number)) ∙ ap {B = SplitAnswer} Err cut in
    ap (outcome_of (h ++ t)) again ∙ rw (still_fits h t m most e few, missing)
