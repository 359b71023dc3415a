-- A reader that is sound and complete, tells its readings, and is unique in them reads exactly its grammar. Assumes nothing.
use Prim.Native.Nat.{ℕ, ◌≤◌}
use mathlib.Core.Path.{◌≡◌, refl, sym, ◌∙◌, ap, subst}
use mathlib.Core.Bool.{Bool, true, false}
use mathlib.Core.List.{List}
use native.Mathlib.Omega.{arith}
use borrow.Author.Tests.{ltb-false}
use lib.Dec.{ltb}
use lib.ListN.{length}
use Rattle.wire.specs.Number as Number
use Rattle.wire.specs.Bytes.{pick, Bytes}
use Rattle.wire.specs.View.{viewed}
use Rattle.wire.specs.Exactly.{ReadingOf, Reader, Tells, retold, Accepts, Shows, Sound, Complete, Told, Unique, Exactly}

-- A good reading that fits is shown of the bytes that it joins to.
pub shows_good : (R : Reader) → Complete R → (r : R.grammar.Reading) → R.grammar.Good r → R.grammar.Fits r → (s : List ℕ) → R.grammar.join r ≡ s
    → length s ≤ Number.limit → Shows R s r
shows_good R complete r good fits s joined limit =
    record {
      reading = record { is_good = good; fits = fits; joined = joined };
      shown_so =
          ap R.read (sym joined) ∙ complete r good fits (subst (λ (z : List ℕ). length z ≤ Number.limit) (sym joined) limit);
    }

module _ (R : Reader) (sound : Sound R) (complete : Complete R) (told : Told R) where
  shows : (s : List ℕ) → length s ≤ Number.limit → (r : R.grammar.Reading) → ReadingOf R.grammar s r → R.read s ≡ R.shown r
  shows s h r x = (shows_good R complete r x.is_good x.fits s x.joined h).shown_so

  tells : (s : List ℕ) → length s ≤ Number.limit → (r : R.grammar.Reading) → ReadingOf R.grammar s r → Tells R s (R.read s) r
  tells s h r x =
      subst (λ (a : R.Answer). Tells R s a r) (sym (shows s h r x))
      (subst (λ (z : List ℕ). Tells R z (R.shown r) r) x.joined (told r x.is_good x.fits))

  joins_again : (s : List ℕ) → Bytes s → length s ≤ Number.limit → Accepts R s → (x : R.grammar.Skipped) × (R.grammar.join (retold R s x) ≡ s)
  joins_again s p h a =
      let r = sound s p a in
      let t = tells s h r.0 r.1.reading in
      let x = R.grammar.skipped r.0 in (
        x,
        ap (λ (z : List ℕ). R.grammar.join (R.told (viewed s) (R.read s) x z)) t.tail_so ∙ ap R.grammar.join t.told_so ∙ r.1.reading.joined,
      )

  -- the answer that shows a reading has the number 0
  pub exactly_from : Unique R.grammar → ((r : R.grammar.Reading) → (R.refusal_of (R.shown r)).number ≡ Number.Good) → Exactly R
  exactly_from unique shown_good =
      record {
        only_readings = λ s p h e. let x = sound s p e in (x.0, x.1.reading);
        all_readings = λ s h x. ap (λ (a : R.Answer). (R.refusal_of a).number) (shows s h x.0 x.1) ∙ shown_good x.0;
        no_two = unique;
        shows_it = shows;
        tells_it = tells;
        joins_again = joins_again;
      }

-- A reader that judges the length first, and gives 0, was not given too much.
pub not_too_long : {A : Type 0} (number : A → ℕ) (too_long other : A) (n : ℕ) → number too_long ≡ Number.TooLong
    → number (pick (ltb Number.limit n) too_long other) ≡ Number.Good → (n ≤ Number.limit) × (number other ≡ Number.Good)
not_too_long number too_long other n one e = go (ltb Number.limit n) refl e
  where
    go : (b : Bool) → ltb Number.limit n ≡ b → number (pick b too_long other) ≡ Number.Good → (n ≤ Number.limit) × (number other ≡ Number.Good)
    go true h q = let z : ◌≡◌ {A = ℕ} 1 0 = sym one ∙ q in absurd (omega arith)
    go false h q = (ltb-false Number.limit n h, q)
