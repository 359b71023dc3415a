-- What a writer's answer tells, the same for every writer. Assumes nothing.
use mathlib.Core.Path.{◌≡◌, refl, sym, ap, ◌∙◌, subst}
use mathlib.Core.Bool.{Bool, true, false}
use mathlib.Core.List.{List, ◌++◌}
use Prim.Native.Nat.{ℕ, ◌≤◌}
use native.Mathlib.Omega.{arith}
use native.Mathlib.Nat.{zero-add}
use borrow.Author.Tests.{ltb-false, le-ltb}
use lib.Dec.{ltb}
use lib.ListN.{length, take, drop}
use lib.Seq.{sets, sets-eq, take_at}
use Rattle.wire.specs.Number as Number
use Rattle.wire.specs.Bytes.{pick}
use Rattle.wire.specs.Refusal.{refusal}
use Rattle.wire.proofs.Determined.{determined}
use Rattle.writing.specs.Write.{WriteAnswer, length_of, write_answer, after, Wrote}
use Rattle.wire.specs.declared.Refusal.{Refusal}
use Rattle.std.specs.declared.result.Result.TheVariants.{Ok, Err}

-- ---- when a writer writes
pub record Writes (ok : Bool) (n room k : ℕ) : Type 0 where
  pub is_ok : ok ≡ true
  pub short : n ≤ Number.limit
  pub fits : n ≤ room
  pub length_is : k ≡ n

pub writes : (ok : Bool) (n room k : ℕ) → Ok k ≡ write_answer ok n room → Writes ok n room k
writes ok n room k e = go ok refl (ltb Number.limit n) refl (ltb room n) refl e
  where
    no : {r : Refusal} → Ok k ≡ Err r → Writes ok n room k
    no q = let z : ◌≡◌ {A = ℕ} 0 1 = cc in absurd (omega arith)

    go : (a : Bool) → ok ≡ a → (b : Bool) → ltb Number.limit n ≡ b → (d : Bool) → ltb room n ≡ d
        → Ok k ≡ pick a (pick b (Err (refusal Number.TooLong 0)) (pick d (Err (refusal Number.NoRoom 0)) (Ok n))) (Err (refusal Number.BadField 0))
        → Writes ok n room k
    go false ha b hb d hd q = no q
    go true ha true hb d hd q = no q
    go true ha false hb true hd q = no q
    go true ha false hb false hd q = record { is_ok = ha; short = ltb-false _ _ hb; fits = ltb-false _ _ hd; length_is = cc }

pub does_write : (ok : Bool) (n room : ℕ) → ok ≡ true → n ≤ Number.limit → n ≤ room → write_answer ok n room ≡ Ok n
does_write ok n room e short fits = rw (e, le-ltb Number.limit n short, le-ltb room n fits)

-- ---- a writer that asked for the answer a by the length n, which is that of the bytes s where the record is ok
module _ (ok : Bool) (s out : List ℕ) (n : ℕ) (long : ok ≡ true → length s ≡ n) (a : WriteAnswer) (asked : a ≡ write_answer ok n (length out)) where
  answered : a ≡ write_answer ok (length s) (length out)
  answered = asked ∙ go ok refl
    where
      go : (b : Bool) → ok ≡ b → write_answer ok n (length out) ≡ write_answer ok (length s) (length out)
      go true e = rw (long e)
      go false e = rw e

  pub left_alone : (r : Refusal) → a ≡ Err r → Wrote ok s out a out
  left_alone r e = record { answered = answered; left = ap (λ (x : WriteAnswer). after x s out) (sym e ∙ answered) }

  module _ (k : ℕ) (e : a ≡ Ok k) where
    pub wrote : Writes ok (length s) (length out) k
    wrote = writes ok (length s) (length out) k (sym e ∙ answered)

    pub put_there : (out' : List ℕ) → out' ≡ sets out 0 s → Wrote ok s out a out'
    put_there out' p =
        record {
          answered = answered;
          left = p ∙ sets-eq s out 0 (rw zero-add wrote.fits) ∙ rw zero-add (ap (λ (x : WriteAnswer). after x s out) (sym e ∙ answered));
        }

-- ---- a writer that had room put its bytes in front of the output, so what holds of them holds of what stands there
pub front : (P : List ℕ → Type 0) {ok : Bool} {s out out' : List ℕ} {r : WriteAnswer} → Wrote ok s out r out'
    → ok ≡ true → length s ≤ Number.limit → length s ≤ length out → P s → (r ≡ Ok (length s)) × P (take (length_of r) out')
front P {ok} {s} {out} {out'} {r} wrote w short fits holds =
    let a : write_answer ok (length s) (length out) ≡ Ok (length s) = does_write ok (length s) (length out) w short fits in
    let e : r ≡ Ok (length s) = wrote.answered ∙ a in
    let o : out' ≡ s ++ drop (length s) out = wrote.left ∙ ap (λ (x : WriteAnswer). after x s out) a in
    let there : take (length_of r) out' ≡ s = rw (e, o) (take_at s (drop (length s) out) (length s) refl) in
    (e, subst P (sym there) holds)

-- ---- any two answers, and any two outputs, of one writer for the same record and output
pub wrote_determined : {ok : Bool} {s out : List ℕ} {r q : WriteAnswer} {o p : List ℕ} → Wrote ok s out r o → Wrote ok s out q p → (r ≡ q) × (o ≡ p)
wrote_determined x y = (determined x.answered y.answered, determined x.left y.left)
