-- What it means that a message stands at the front of some bytes. Assumes nothing.
use mathlib.Core.Path.{◌≡◌, refl, sym, ap, ◌∙◌, subst}
use mathlib.Core.List.{List}
use Prim.Native.Nat.{ℕ}
use native.Mathlib.Omega.{arith}
use lib.ListN.{length, take}
use lib.Seq.{length-take-le}
use Rattle.std.specs.declared.result.Result.TheVariants.{Ok, Err}
use Rattle.wire.specs.Number as Number
use Rattle.wire.specs.View.{view, viewed}
use Rattle.wire.specs.declared.View.{View}
use Rattle.wire.proofs.Views.{viewed_inside}
use Rattle.common_header.specs.Fields as Fields
use Rattle.common_header.specs.Fields.{CommonFieldsAnswer}
use Rattle.common_header.specs.declared.BmpCommonHeader.{BmpCommonHeader}
use Rattle.common_header.specs.declared.CommonFields.{CommonFields}
use Rattle.splitter.specs.Shown.{SplitAnswer, handed_out, refusal_of, message_of, fields_in}
use Rattle.splitter.specs.Read.{after_fields, split_of}
use Rattle.splitter.specs.Stream.{Message, known, skipped, length_of, bytes_of}
use Rattle.splitter.specs.declared.Split.{Split}
use Rattle.splitter.proofs.Laws.{Fitting, fitting_shown, judged_good, hands_out}

-- ---- a message that stands at the front of some bytes: the splitter hands it out or skips it, and its bytes are the first, as many as its length says
abbrev pub split_as : Message → SplitAnswer
split_as (known h b) = Ok (Split.Message h (view 0 h.msg_len))
split_as (skipped f b) = Ok (Split.Skipped f (view 0 f.msg_len))

pub record Stands (s : List ℕ) (m : Message) : Type 0 where
  pub split_so : split_of s ≡ split_as m
  pub fits : Fitting (length s) (length_of m)
  pub bytes_are : bytes_of m ≡ take (length_of m) s
  pub length_is : length (bytes_of m) ≡ length_of m

-- an answer that is no refusal
abbrev Handed : SplitAnswer → Type 0
Handed (Ok (Split.Message h v)) = Unit {0}
Handed (Ok (Split.Skipped f v)) = Unit {0}
Handed (Err r) = ⊥

handed_good : (a : SplitAnswer) → Handed a → (refusal_of a).number ≡ Number.Good
handed_good (Ok (Split.Message h v)) x = refl
handed_good (Ok (Split.Skipped f v)) x = refl
handed_good (Err r) x = absurd x

-- its length fits, and its view is of the first bytes, as many as that says
record SplitOff (there : ℕ) (a : SplitAnswer) : Type 0 where
  fits : Fitting there (fields_in a).msg_len
  view_is : message_of a ≡ view 0 (fields_in a).msg_len

split_off : (there : ℕ) (x : CommonFieldsAnswer) (a : SplitAnswer) → after_fields there x ≡ a → Handed a → SplitOff there a
split_off there (Ok f) a e h =
    let x = judged_good there f (ap (λ (y : SplitAnswer). (refusal_of y).number) e ∙ handed_good a h) in
    let out = hands_out f (view 0 f.msg_len) in
    let is-a : handed_out f (view 0 f.msg_len) ≡ a = sym (fitting_shown there f x) ∙ e in
    let fields_are : f ≡ fields_in a = sym out.fields_are ∙ ap fields_in is-a in
    record {
      fits = subst (λ (y : CommonFields). Fitting there y.msg_len) fields_are x;
      view_is = ap message_of (sym is-a) ∙ out.view_is ∙ ap (λ (y : CommonFields). view 0 y.msg_len) fields_are;
    }
split_off there (Err r) a e h = absurd (subst Handed (sym e) h)

first : (s : List ℕ) (v : View) (n : ℕ) → Fitting (length s) n → v ≡ view 0 n → (viewed s v ≡ take n s) × (length (viewed s v) ≡ n)
first s v n f e =
    let bytes_are : viewed s v ≡ take n s = rw e (viewed_inside s (view 0 n) (omega (arith, f.all_there))) in
    (bytes_are, ap length bytes_are ∙ length-take-le n s f.all_there)

module _ (s : List ℕ) (v : View) where
  pub known_stands : (h : BmpCommonHeader) → split_of s ≡ Ok (Split.Message h v) → Stands s (known h (viewed s v))
  known_stands h e =
      let o = split_off (length s) (Fields.read_common_fields s) (Ok (Split.Message h v)) e tt in
      let x = first s v h.msg_len o.fits o.view_is in
      record { split_so = e ∙ ap {B = SplitAnswer} (λ (x : View). Ok (Split.Message h x)) o.view_is; fits = o.fits; bytes_are = x.0; length_is = x.1 }

  pub skipped_stands : (f : CommonFields) → split_of s ≡ Ok (Split.Skipped f v) → Stands s (skipped f (viewed s v))
  skipped_stands f e =
      let o = split_off (length s) (Fields.read_common_fields s) (Ok (Split.Skipped f v)) e tt in
      let x = first s v f.msg_len o.fits o.view_is in
      record { split_so = e ∙ ap {B = SplitAnswer} (λ (x : View). Ok (Split.Skipped f x)) o.view_is; fits = o.fits; bytes_are = x.0; length_is = x.1 }
