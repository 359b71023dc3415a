-- At a boundary: what is judged of a whole piece is judged of the bytes that are taken of it. Assumes nothing.
use mathlib.Core.Path.{◌≡◌, refl, sym, ap, ◌∙◌, subst}
use mathlib.Core.Bool.{Bool, true, false}
use mathlib.Core.List.{List, []}
use Prim.Native.Nat.{ℕ, ◌+◌, ◌≤◌, ◌<◌}
use native.Mathlib.Omega.{arith}
use borrow.Author.Tests.{ltb-true, ltb-false}
use lib.Dec.{ltb}
use lib.ListN.{length, take, drop, take-append-drop}
use lib.Seq.{length-take-le, take-length}
use Rattle.std.specs.declared.result.Result.TheVariants.{Err}
use Rattle.wire.specs.Number as Number
use Rattle.wire.specs.Bytes.{num_at}
use Rattle.wire.specs.Refusal.{refusal}
use Rattle.wire.specs.View.{view}
use Rattle.wire.specs.declared.Refusal.{Refusal}
use Rattle.splitter.specs.Shown.{handed_out}
use Rattle.splitter.specs.Read as Read
use Rattle.splitter.specs.Read.{split_of}
use Rattle.splitter.proofs.Laws.{Fitting, fitting_shown, BadLength, below_6, above_limit, handed_either}
use Rattle.splitter.proofs.Cases.{length_in, fields_in, Headed, split_version, split_headed, number_more}
use Rattle.receiver.specs.Receive.{Judgement, room, stream_too_big, outcome_of, judge_of, waiting, took_of}
use Rattle.receiver.specs.Steps.{first_run, refused_run}
use Rattle.receiver.proofs.Judging.{by_version, by-header, Judged, in_header, in_body, refused, too-big, message, judged, waits_early, waits_in_body, says_too_big}
use Rattle.receiver.proofs.Runs.{took_all, took_ended}

pub record First (xs : List ℕ) (k : ℕ) (o : Judgement) : Type 0 where
  pub within : k ≤ length xs
  pub took : took_of [] xs ≡ k
  pub judged_so : judge_of (take k xs) ≡ o

-- ---- a beginning of the piece, and its header
module _ (xs : List ℕ) (most : length xs ≤ room) (j : ℕ) (there : j ≤ length xs) where
  abbrev p : List ℕ
  p = take j xs

  pub many : length p ≡ j
  many = length-take-le j xs there

  few : length p ≤ room
  few = omega (arith, many, there, most)

  same_number : (w at : ℕ) → at + w ≤ j → num_at w p at ≡ num_at w xs at
  same_number w at h = sym (number_more p (drop j xs) w at (omega (arith, many, h))) ∙ ap (λ (z : List ℕ). num_at w z at) (take-append-drop j xs)

  early : 0 < j → j < 6 → num_at 1 xs 0 ≡ 3 → waiting (judge_of p) ≡ true
  early one l three = waits_early p few (omega (arith, many, l)) (λ _. same_number 1 0 (omega (arith, one)) ∙ three)

  module _ (w : Headed xs) (six : 6 ≤ j) where
    headed : Headed p
    headed = record { six = omega (arith, many, six); three = same_number 1 0 (omega (arith, six)) ∙ w.three }

    same_length : length_in p ≡ length_in xs
    same_length = same_number 4 1 (omega (arith, six))

    same_fields : fields_in p ≡ fields_in xs
    same_fields = rw (same_number 1 0 (omega (arith, six)), same_number 4 1 (omega (arith, six)), same_number 1 5 (omega (arith, six)))

    splits : split_of p ≡ Read.judged (length p) (fields_in xs)
    splits = split_headed p (omega (arith, few)) headed ∙ ap (Read.judged (length p)) same_fields

-- ---- what is taken
module _ (xs : List ℕ) (most : length xs ≤ room) where
  in_message : Headed xs → 6 ≤ length_in xs → length_in xs ≤ room → (j : ℕ) → 0 < j → j ≤ length xs → j < length_in xs → waiting (judge_of (take j xs)) ≡ true
  in_message w low high j one there l = go (ltb j 6) refl
    where
      go : (b : Bool) → ltb j 6 ≡ b → waiting (judge_of (take j xs)) ≡ true
      go true b = early xs most j there one (ltb-true j 6 b) w.three
      go false b =
          let six = ltb-false j 6 b in
          let same = same_length xs most j there w six in
          let long = many xs most j there in
          waits_in_body (take j xs) (omega (arith, long, there, most)) (headed xs most j there w six) (omega (arith, same, low)) (omega (arith, same, high)) (omega (arith, same, long, l))

  all_of_it : (o : Judgement) → judge_of xs ≡ o → ((j : ℕ) → 0 < j → j ≤ length xs → waiting (judge_of (take j xs)) ≡ true) → First xs (length xs) o
  all_of_it o e q = record { within = omega arith; took = took_all [] xs q; judged_so = ap judge_of (take-length xs) ∙ e }

  sixth_brings : Headed xs → (r : Refusal) → judge_of (take 6 xs) ≡ Err r → First xs 6 (Err r)
  sixth_brings w r e =
      record {
        within = w.six;
        took = took_ended 6 [] xs (omega arith) w.six (λ j p l. let six = w.six in early xs most j (omega (arith, l, six)) p l w.three) (ap waiting e);
        judged_so = e;
      }

  first_brings : 0 < length xs → (num_at 1 xs 0 ≡ 3 → ⊥) → First xs 1 (Err (refusal Number.BadVersion 0))
  unfolding judge_of
  first_brings one v =
      let long = many xs most 1 one in
      let e : judge_of (take 1 xs) ≡ Err (refusal Number.BadVersion 0) =
      ap (outcome_of (take 1 xs)) (split_version (take 1 xs) (omega (arith, long)) (omega (arith, long)) (λ z. v (sym (same_number xs most 1 one 1 0 (omega arith)) ∙ z))) in
      record { within = one; took = took_ended 1 [] xs (omega arith) one (λ j p l. absurd (omega (arith, p, l))) (ap waiting e); judged_so = e }

  header_brings : (w : Headed xs) (r : Refusal) → BadLength r → ((there : ℕ) → Read.judged there (fields_in xs) ≡ Err r) → First xs (refused_run r.number) (Err r)
  unfolding judge_of
  header_brings w r b e = go r b (ap (outcome_of (take 6 xs)) (splits xs most 6 w.six w (omega arith) ∙ e (length (take 6 xs))))
    where
      go : (r : Refusal) → BadLength r → judge_of (take 6 xs) ≡ outcome_of (take 6 xs) (Err r) → First xs (refused_run r.number) (Err r)
      go r below_6 j = sixth_brings w r j
      go r above_limit j = sixth_brings w r j

  size_brings : (w : Headed xs) → room < length_in xs → length_in xs ≤ Number.limit → judge_of (take 6 xs) ≡ Err stream_too_big
  size_brings w big limited =
      let long = many xs most 6 w.six in
      let same = same_length xs most 6 w.six w (omega arith) in
      says_too_big (take 6 xs) (omega (arith, long)) (headed xs most 6 w.six w (omega arith)) (omega (arith, same, big)) (omega (arith, same, limited))

  whole_message : (w : Headed xs) → Fitting (length xs) (length_in xs) → First xs (length_in xs) (outcome_of xs (handed_out (fields_in xs) (view 0 (length_in xs))))
  unfolding judge_of
  whole_message w f =
      let n = length_in xs in
      let low = f.least in
      let there = f.all_there in
      let long = many xs most n there in
      let out : split_of (take n xs) ≡ handed_out (fields_in xs) (view 0 n) =
      splits xs most n there w low ∙ fitting_shown (length (take n xs)) (fields_in xs) (record { least = low; most = f.most; all_there = omega (arith, long) }) in
      let e : judge_of (take n xs) ≡ outcome_of xs (handed_out (fields_in xs) (view 0 n)) =
      ap (outcome_of (take n xs)) out ∙ handed_either (λ a. outcome_of (take n xs) a ≡ outcome_of xs a) (fields_in xs) (view 0 n) refl refl in
      let ended : waiting (judge_of (take n xs)) ≡ false = ap waiting e ∙ handed_either (λ a. waiting (outcome_of xs a) ≡ false) (fields_in xs) (view 0 n) refl refl in
      record {
        within = there;
        took = took_ended n [] xs (omega (arith, low)) there (λ j p l. in_message w low (omega (arith, there, most)) j p (omega (arith, l, there)) l) ended;
        judged_so = e;
      }

  first_of : (o : Judgement) → Judged xs o → judge_of xs ≡ o → First xs (first_run o (length xs)) o
  first_of _ (in_header m l v u) e = all_of_it _ e (λ j p q. early xs most j q p (omega (arith, q, l)) (v (omega (arith, p, q))))
  first_of _ (in_body w l u f) e = all_of_it _ e (λ j p q. in_message w l u j p q (omega (arith, q, f)))
  first_of _ (refused r s c p (by_version one v q)) e = subst (λ (x : Refusal). First xs (first_run (Err x) (length xs)) (Err x)) (sym q) (first_brings one v)
  first_of _ (refused r s c p (by-header w b k)) e = header_brings w r b k
  first_of _ (too-big w l u) e = sixth_brings w stream_too_big (size_brings w l u)
  first_of _ (message w f) e =
      subst (λ (k : ℕ). First xs k (outcome_of xs (handed_out (fields_in xs) (view 0 (length_in xs)))))
      (sym (handed_either (λ a. first_run (outcome_of xs a) (length xs) ≡ length_in xs) (fields_in xs) (view 0 (length_in xs)) refl refl)) (whole_message w f)

  pub first : First xs (first_run (judge_of xs) (length xs)) (judge_of xs)
  first = first_of (judge_of xs) (judged xs most) refl
