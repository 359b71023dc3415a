-- Bytes taken in runs: as many as are taken one by one. Assumes nothing.
use mathlib.Core.Path.{◌≡◌, refl, sym, ap, ◌∙◌}
use mathlib.Core.Bool.{Bool, true, false, true≢false}
use mathlib.Core.List.{List, [], ◌∷◌, ◌++◌, append_assoc}
use Prim.Native.Nat.{ℕ, zero, suc, ◌+◌, ◌-◌, ◌≤◌, ◌<◌, min}
use native.Mathlib.Omega.{arith}
use native.Mathlib.Nat.{add-zero}
use borrow.Author.Tests.{leb-true, leb-false}
use lib.Dec.{leb}
use lib.ListN.{length, take, drop, length-append, length-drop}
use lib.Seq.{length-take-le, drop-length}
use Rattle.std.specs.declared.result.Result.TheVariants.{Ok}
use Rattle.wire.specs.Bytes.{pick, num_at}
use Rattle.wire.proofs.Refuses.{pick_in}
use Rattle.splitter.proofs.Cases.{length_in, Headed, number_more, headed_more}
use Rattle.receiver.specs.Receive.{Judgement, room, judge_of, waiting, took_of}
use Rattle.receiver.specs.declared.Outcome.{Outcome}
use Rattle.receiver.proofs.Judging.{Judged, in_header, in_body, refused, too-big, message, judged, waits_early, waits_in_body, whole_message}

-- ---- what is held, and the first bytes of a piece behind it
pub grown : (h xs : List ℕ) (j : ℕ) → j ≤ length xs → length (h ++ take j xs) ≡ length h + j
grown h xs j l = length-append h (take j xs) ∙ ap (λ (k : ℕ). length h + k) (length-take-le j xs l)

pub took_within : (h xs : List ℕ) → took_of h xs ≤ length xs
unfolding took_of
took_within h [] = omega arith
took_within h (x ∷ xs) = go (waiting (judge_of (h ++ (x ∷ [])))) (took_within (h ++ (x ∷ [])) xs)
  where
    go : (b : Bool) → took_of (h ++ (x ∷ [])) xs ≤ length xs → suc (pick b (took_of (h ++ (x ∷ [])) xs) 0) ≤ length (x ∷ xs)
    go true l = omega (arith, l)
    go false l = omega arith

-- ---- a run of k bytes, of which none but the last can end the taking
took_run : (k : ℕ) (h xs : List ℕ) → 0 < k → k ≤ length xs → ((j : ℕ) → 0 < j → j < k → waiting (judge_of (h ++ take j xs)) ≡ true)
    → took_of h xs ≡ k + pick (waiting (judge_of (h ++ take k xs))) (took_of (h ++ take k xs) (drop k xs)) 0
unfolding took_of
took_run zero h xs p l q = absurd (omega (arith, p))
took_run (suc k) h [] p l q = absurd (omega (arith, l))
took_run (suc zero) h (x ∷ xs) p l q = omega arith
took_run (suc (suc k)) h (x ∷ xs) p l q =
    let first : waiting (judge_of (h ++ (x ∷ []))) ≡ true = q (suc zero) (omega arith) (omega arith) in
    let onward = took_run (suc k) (h ++ (x ∷ [])) xs (omega arith) (omega (arith, l)) (λ j a b.
    ap (λ (z : List ℕ). waiting (judge_of z)) (append_assoc h (x ∷ []) (take j xs)) ∙ q (suc j) (omega arith) (omega (arith, b))) in
    let e = onward ∙ ap (λ (z : List ℕ). suc k + pick (waiting (judge_of z)) (took_of z (drop (suc k) xs)) 0) (append_assoc h (x ∷ []) (take (suc k) xs)) in
    rw first (omega (arith, e))

-- all of them are taken, or the last ends it
pub took_all : (h xs : List ℕ) → ((j : ℕ) → 0 < j → j ≤ length xs → waiting (judge_of (h ++ take j xs)) ≡ true) → took_of h xs ≡ length xs
unfolding took_of
took_all h [] q = refl
took_all h (x ∷ xs) q =
    took_run (suc (length xs)) h (x ∷ xs) (omega arith) (omega arith) (λ j a b. q j a (omega (arith, b)))
    ∙ rw (q (suc (length xs)) (omega arith) (omega arith), drop-length xs) (add-zero (suc (length xs)))

pub took_ended : (k : ℕ) (h xs : List ℕ) → 0 < k → k ≤ length xs → ((j : ℕ) → 0 < j → j < k → waiting (judge_of (h ++ take j xs)) ≡ true)
    → waiting (judge_of (h ++ take k xs)) ≡ false → took_of h xs ≡ k
took_ended k h xs p l q e = took_run k h xs p l q ∙ rw e (add-zero k)

-- ---- the body: a message that lacks some bytes takes as many, or all that there are
pub record InBody (h : List ℕ) (missing : ℕ) : Type 0 where
  pub headed : Headed h
  pub low : 6 ≤ length_in h
  pub high : length_in h ≤ room
  pub lacks : length h + missing ≡ length_in h
  pub some : 0 < missing

pub in_body_of : (h : List ℕ) (m : ℕ) → length h ≤ room → judge_of h ≡ Ok (Outcome.Waiting m) → 6 ≤ length h → InBody h m
in_body_of h m most e six = go (judge_of h) (judged h most) e
  where
    go : (o : Judgement) → Judged h o → o ≡ Ok (Outcome.Waiting m) → InBody h m
    go _ (in_header k l v u) q = absurd (omega (arith, six, l))
    go _ (in_body w l u f) q =
        let z : length_in h - length h ≡ m = cc in
        record { headed = w; low = l; high = u; lacks = omega (arith, z, f); some = omega (arith, z, f) }
    go _ (refused r s c p b) q = let z : ◌≡◌ {A = ℕ} 0 1 = cc in absurd (omega (arith, z))
    go _ (too-big w l u) q = let z : ◌≡◌ {A = ℕ} 0 1 = cc in absurd (omega (arith, z))
    go _ (message w f) q = absurd (true≢false (sym (ap waiting e) ∙ whole_message h most w f))

module _ (h xs : List ℕ) (m : ℕ) (in-it : InBody h m) where
  same : (j : ℕ) → length_in (h ++ take j xs) ≡ length_in h
  same j = let six = in-it.headed.six in number_more h (take j xs) 4 1 (omega (arith, six))

  inside : (j : ℕ) → j ≤ length xs → j < m → waiting (judge_of (h ++ take j xs)) ≡ true
  inside j l f =
      let g = grown h xs j l in
      let s = same j in
      let n = in-it.lacks in
      let u = in-it.high in
      waits_in_body (h ++ take j xs) (omega (arith, g, f, n, u)) (headed_more h (take j xs) in-it.headed) (omega (arith, s, in-it.low)) (omega (arith, s, u)) (omega (arith, s, g, f, n))

  ends : m ≤ length xs → waiting (judge_of (h ++ take m xs)) ≡ false
  ends l =
      let g = grown h xs m l in
      let s = same m in
      let n = in-it.lacks in
      let u = in-it.high in
      whole_message (h ++ take m xs) (omega (arith, g, n, u)) (headed_more h (take m xs) in-it.headed)
      (record { least = omega (arith, s, in-it.low); most = omega (arith, s, u); all_there = omega (arith, s, g, n) })

  ended : m ≤ length xs → took_of h xs ≡ m
  ended l = took_ended m h xs in-it.some l (λ j p f. inside j (omega (arith, f, l)) f) (ends l)

  body : took_of h xs ≡ min m (length xs)
  body = go (leb m (length xs)) refl
    where
      go : (b : Bool) → leb m (length xs) ≡ b → took_of h xs ≡ min m (length xs)
      go true b = let z = leb-true m (length xs) b in ended z ∙ omega (arith, z)
      go false b = let z = leb-false m (length xs) b in took_all h xs (λ j p l. inside j l (omega (arith, l, z))) ∙ omega (arith, z)

-- where no byte comes none is taken, also into a header
pub body_run : (h xs : List ℕ) (m : ℕ) → length h ≤ room → judge_of h ≡ Ok (Outcome.Waiting m) → (0 < length xs → 6 ≤ length h)
    → (took_of h xs ≡ min m (length xs)) × (length h + min m (length xs) ≤ room)
unfolding took_of
body_run h [] m most e six = (omega arith, omega (arith, most))
body_run h (x ∷ xs) m most e six =
    let b = in_body_of h m most e (six (omega arith)) in
    let u = b.high in
    let l = b.lacks in
    (body h (x ∷ xs) m b, omega (arith, u, l))

-- ---- the header: its rest
pub record HeaderRun (h xs : List ℕ) (k : ℕ) : Type 0 where
  pub within : k ≤ length xs
  pub fits : length h + k ≤ 6
  pub took : took_of h xs ≡ k + pick (waiting (judge_of (h ++ take k xs))) (took_of (h ++ take k xs) (drop k xs)) 0
  pub behind : waiting (judge_of (h ++ take k xs)) ≡ true → 0 < length (drop k xs) → 6 ≤ length h + k

-- where the header goes on as it should, and ends before the piece does only with its sixth byte
goes_on : (h xs : List ℕ) (k : ℕ) → k ≤ length xs → length h + k ≤ 6 → length h < 6 → (k < length xs → length h + k ≡ 6)
    → ((j : ℕ) → 0 < j → j ≤ length xs → num_at 1 (h ++ take j xs) 0 ≡ 3) → HeaderRun h xs k
unfolding took_of
goes_on h [] zero within fits few end three =
    record {
      within = within;
      fits = fits;
      took = pick_in (λ n. 0 ≡ 0 + n) (waiting (judge_of (h ++ []))) refl refl;
      behind = λ w p. absurd (omega (arith, p));
    }
goes_on h [] (suc k) within fits few end three = absurd (omega (arith, within))
goes_on h (x ∷ xs) zero within fits few end three = let e = end (omega arith) in absurd (omega (arith, e, few))
goes_on h (x ∷ xs) (suc k) within fits few end three =
    record {
      within = within;
      fits = fits;
      took = took_run (suc k) h (x ∷ xs) (omega arith) within early;
      behind = λ w p. let d = length-drop (suc k) (x ∷ xs) in let e = end (omega (arith, p, d)) in omega (arith, e);
    }
  where
    early : (j : ℕ) → 0 < j → j < suc k → waiting (judge_of (h ++ take j (x ∷ xs))) ≡ true
    early j p l =
        let g = grown h (x ∷ xs) j (omega (arith, l, within)) in
        waits_early (h ++ take j (x ∷ xs)) (omega (arith, g, l, fits)) (omega (arith, g, l, fits)) (λ _. three j p (omega (arith, l, within)))

-- up to the sixth byte, or all that there are
pub header_run : (h xs : List ℕ) → 0 < length h → length h < 6 → num_at 1 h 0 ≡ 3 → HeaderRun h xs (min (6 - length h) (length xs))
header_run h xs one few three =
    goes_on h xs (min (6 - length h) (length xs)) (omega arith) (omega (arith, few)) few (λ l. omega (arith, l, few))
    (λ j p l. number_more h (take j xs) 1 0 (omega (arith, one)) ∙ three)
