-- The heading and what follows it. Assumes nothing.
use mathlib.Core.Path.{◌≡◌, refl, sym, ap, ◌∙◌, subst}
use mathlib.Core.Bool.{true}
use mathlib.Core.List.{List, ◌++◌}
use Prim.Native.Nat.{ℕ, ◌+◌, ◌≤◌, ◌<◌}
use native.Mathlib.Omega.{arith}
use native.Mathlib.Nat.{zero-add}
use borrow.Author.Tests.{lt-ltb, le-ltb}
use lib.ListN.{length}
use Rattle.wire.specs.Number as Number
use Rattle.wire.specs.Bytes.{Bytes}
use Rattle.writing.specs.Write.{put_at, write_answer, Wrote}
use Rattle.std.specs.declared.result.Result.TheVariants.{Ok}
use Rattle.writing.proofs.Answers.{does_write, put_there}
use Rattle.listing.specs.Text.{heading, refused_line, end_line}
use Rattle.listing.specs.Listing.{longest, text, enough}
use Rattle.listing.specs.Steps.{lines_from, Puts}
use Rattle.listing.proofs.Puts.{Ends, put_ends, then}
use Rattle.listing.proofs.Lengths.{text_short}

pub text_too_long : (s : List ℕ) → longest < length s → text s ≡ heading ++ (refused_line 0 Number.TooLong ++ end_line 0)
unfolding text
text_too_long s h = rw (lt-ltb longest (length s) h)

pub text_listed : (s : List ℕ) → length s ≤ longest → text s ≡ heading ++ lines_from (length s) 0 s
unfolding text
text_listed s h = rw (le-ltb longest (length s) h)

module _ (s b : List ℕ) (e : text s ≡ heading ++ b) where
  pub asks_behind : Bytes s → 25 + length b ≤ enough
  asks_behind p = omega (arith, text_short s p, ap length e)

  pub put_behind : (l p q : List ℕ) (k : ℕ) → length p ≡ length l → p ≡ put_at l 0 heading → Ends p 25 b q k → (k ≡ length (text s)) × Puts l 0 (text s) q
  put_behind l p q k long f x =
      let y = subst (λ (t : List ℕ). Ends l 0 t q k) (sym e) (then l p q heading b 0 25 k long (put_ends l p heading 0 25 refl f) x) in
      (y.0 ∙ zero-add (length (text s)), y.1)

-- an output that has room for any text takes it at once
pub written_at_once : (s out out' : List ℕ) (k : ℕ) → Bytes s → enough ≤ length out → k ≡ length (text s) → Puts out 0 (text s) out'
    → Wrote true (text s) out (Ok k) out'
written_at_once s out out' k b h e p =
    let n = text_short s b in
    let asked : Ok k ≡ write_answer true k (length out) =
    sym (does_write true k (length out) refl (omega (arith, n, e)) (omega (arith, n, e, h))) in
    put_there true (text s) out k (λ _. sym e) (Ok k) asked k refl out' (p (omega (arith, n, h)))
