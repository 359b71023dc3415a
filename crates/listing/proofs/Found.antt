-- What is found at a place of a stream, as the code finds it. Assumes nothing.
use mathlib.Core.Path.{◌≡◌, sym, ap, ◌∙◌}
use mathlib.Core.List.{List}
use Prim.Native.Nat.{ℕ, ◌-◌, ◌≤◌}
use native.Mathlib.Omega.{arith}
use lib.ListN.{length, take, drop, length-drop}
use lib.Seq.{take-length}
use Rattle.std.specs.declared.option.Option.TheVariants.{Some, None}
use Rattle.std.specs.declared.result.Result.TheVariants.{Ok, Err}
use Rattle.wire.specs.View.{viewed}
use Rattle.wire.specs.declared.Refusal.{Refusal}
use Rattle.wire.specs.declared.View.{View}
use Rattle.common_header.specs.Shown.{kind_of}
use Rattle.common_header.specs.declared.BmpCommonHeader.{BmpCommonHeader}
use Rattle.common_header.specs.declared.CommonFields.{CommonFields}
use Rattle.splitter.specs.Read.{split_of}
use Rattle.splitter.specs.Shown.{SplitAnswer}
use Rattle.splitter.specs.declared.Split.{Split}
use Rattle.message_answer.specs.Answer.{number, answer_of}
use Rattle.listing.specs.Steps.{RowAnswer, row_in, row_at}
use Rattle.splitter.proofs.Stream.{known_stands}

-- all from a place on
abbrev pub from : ℕ → List ℕ → List ℕ
from at s = take (length s - at) (drop at s)

from_is : (at : ℕ) (s : List ℕ) → from at s ≡ drop at s
from_is at s = rw (← length-drop at s) (take-length (drop at s))

module _ (s : List ℕ) (at : ℕ) where
  row_from : (x : SplitAnswer) → x ≡ split_of (from at s) → row_in (from at s) x ≡ row_at (drop at s)
  row_from x e = ap (row_in (from at s)) e ∙ ap row_at (from_is at s)

  pub row_refused : (r : Refusal) → ◌≡◌ {A = SplitAnswer} (Err r) (split_of (from at s)) → ◌≡◌ {A = RowAnswer} (Err r) (row_at (drop at s))
  row_refused r e = row_from (Err r) e

  pub row_skipped : (f : CommonFields) (v : View) → ◌≡◌ {A = SplitAnswer} (Ok (Split.Skipped f v)) (split_of (from at s))
      → ◌≡◌ {A = RowAnswer} (Ok (record { kind = f.kind; msg_len = f.msg_len; answer = None })) (row_at (drop at s))
  row_skipped f v e = row_from (Ok (Split.Skipped f v)) e

  module _ (h : BmpCommonHeader) (v : View) (e : ◌≡◌ {A = SplitAnswer} (Ok (Split.Message h v)) (split_of (from at s))) (whole : List ℕ) (w : whole ≡ viewed (from at s) v) where
    pub whole_header : 6 ≤ length whole
    whole_header = let x = known_stands (from at s) v h (sym e) in omega (arith, ap length w, x.length_is, x.fits.least)

    pub row_message : (k a : ℕ) → k ≡ kind_of h.msg_type → a ≡ number (answer_of h.msg_type (from 6 whole))
        → ◌≡◌ {A = RowAnswer} (Ok (record { kind = k; msg_len = h.msg_len; answer = Some a })) (row_at (drop at s))
    row_message k a f g =
        let rest : from 6 whole ≡ drop 6 (viewed (from at s) v) = from_is 6 whole ∙ ap (drop 6) w in
        let said : a ≡ number (answer_of h.msg_type (drop 6 (viewed (from at s) v))) = g ∙ ap (λ (b : List ℕ). number (answer_of h.msg_type b)) rest in
        (λ i. Ok (record { kind = f i; msg_len = h.msg_len; answer = Some (said i) })) ∙ row_from (Ok (Split.Message h v)) e
