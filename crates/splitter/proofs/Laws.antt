-- What the splitter accepts, and how the stream is cut at the header's length. Assumes nothing.
use mathlib.Core.Path.{◌≡◌, refl, ap}
use mathlib.Core.Bool.{Bool, true, false}
use Prim.Native.Nat.{ℕ, suc, ◌+◌, ◌-◌, ◌≤◌, ◌<◌}
use native.Mathlib.Omega.{arith}
use borrow.Author.Tests.{ltb-true, ltb-false, le-ltb}
use lib.Dec.{ltb}
use lib.ListN.{length, take, drop, take-append-drop}
use lib.Seq.{take_at, drop_at}
use Rattle.std.specs.declared.result.Result.TheVariants.{Ok, Err}
use Rattle.wire.specs.Number as Number
use Rattle.wire.specs.Bytes.{pick}
use Rattle.wire.specs.Refusal.{refusal, no_refusal, lacking, cut_at}
use Rattle.wire.specs.View.{view}
use Rattle.wire.specs.declared.Refusal.{Refusal}
use Rattle.wire.specs.declared.View.{View}
use Rattle.wire.proofs.Refuses.{pick_in}
use Rattle.common_header.specs.Grammar as Header
use Rattle.common_header.specs.Fields as Fields
use Rattle.common_header.specs.Fields.{CommonFieldsAnswer}
use Rattle.common_header.specs.Shown.{header_from}
use Rattle.common_header.specs.declared.CommonFields.{CommonFields}
use Rattle.common_header.proofs.Promises.{kind_told}
use Rattle.splitter.specs.Grammar.{Reading, header_of}
use Rattle.splitter.specs.Shown.{SplitAnswer, handed_out, shown, refusal_of, message_of, fields_in, ByItsType}
use Rattle.splitter.specs.Read.{judged, after_fields}
use Rattle.splitter.specs.declared.Split.{Split}

-- What is missing of the message is what is missing behind its header.
pub missing_behind : (there n : ℕ) → 6 ≤ there → 6 ≤ n → cut_at there 6 (n - 6) ≡ lacking 6 (n - there)
missing_behind there n six least =
    let missing_is : n - 6 - (there - 6) ≡ n - there = omega arith in
    λ i. lacking 6 (missing_is i)

-- a length that is accepted in an input of this length
pub record Fitting (there n : ℕ) : Type 0 where
  pub least : 6 ≤ n
  pub most : n ≤ Number.limit
  pub all_there : n ≤ there

pub fitting_shown : (there : ℕ) (f : CommonFields) → Fitting there f.msg_len → judged there f ≡ handed_out f (view 0 f.msg_len)
fitting_shown there f x =
    rw (le-ltb f.msg_len 6 x.least, le-ltb Number.limit f.msg_len x.most, le-ltb there f.msg_len x.all_there)

-- the two refusals that a length brings, however many bytes are there
pub data BadLength : Refusal → Type 0 where
  below_6 : BadLength (refusal Number.BadMessageLength 1)
  above_limit : BadLength (refusal Number.TooLong 1)

-- what the length of a whole header comes to: it is none that a message has; or not all bytes are there; or they are
pub data Sized (there : ℕ) (f : CommonFields) : SplitAnswer → Type 0 where
  bad_length : (r : Refusal) → BadLength r → ((any : ℕ) → judged any f ≡ Err r) → Sized there f (Err r)
  part : 6 ≤ f.msg_len → f.msg_len ≤ Number.limit → there < f.msg_len → Sized there f (Err (lacking 6 (f.msg_len - there)))
  whole : Fitting there f.msg_len → Sized there f (handed_out f (view 0 f.msg_len))

pub sized : (there : ℕ) (f : CommonFields) → Sized there f (judged there f)
sized there f = go (ltb n 6) refl (ltb Number.limit n) refl (ltb there n) refl
  where
    n : ℕ
    n = f.msg_len

    go : (a : Bool) → ltb n 6 ≡ a → (b : Bool) → ltb Number.limit n ≡ b → (c : Bool) → ltb there n ≡ c
        → Sized there f (pick a (Err (refusal Number.BadMessageLength 1)) (pick b (Err (refusal Number.TooLong 1))
        (pick c (Err (lacking 6 (n - there))) (handed_out f (view 0 n)))))
    go true ha b hb c hc = bad_length _ below_6 (λ any. rw ha)
    go false ha true hb c hc = bad_length _ above_limit (λ any. rw (ha, hb))
    go false ha false hb true hc = part (ltb-false n 6 ha) (ltb-false Number.limit n hb) (ltb-true there n hc)
    go false ha false hb false hc = whole (record { least = ltb-false n 6 ha; most = ltb-false Number.limit n hb; all_there = ltb-false there n hc })

pub judged_good : (there : ℕ) (f : CommonFields) → (refusal_of (judged there f)).number ≡ Number.Good → Fitting there f.msg_len
judged_good there f e = go (judged there f) (sized there f) e
  where
    no : {k : ℕ} → suc k ≡ 0 → Fitting there f.msg_len
    no q = absurd (omega arith)

    go : (a : SplitAnswer) → Sized there f a → (refusal_of a).number ≡ Number.Good → Fitting there f.msg_len
    go _ (bad_length r below_6 k) q = no q
    go _ (bad_length r above_limit k) q = no q
    go _ (part l m few) q = no q
    go _ (whole x) q = x

-- a good answer comes from good fields
pub fields_accepted : (there : ℕ) (a : CommonFieldsAnswer) → (refusal_of (after_fields there a)).number ≡ Number.Good → (Fields.refusal_of a).number ≡ Number.Good
fields_accepted there (Ok f) e = refl
fields_accepted there (Err r) e = e

-- ---- what a message that is handed out says of itself, of a known type or skipped
pub record HandsOut (f : CommonFields) (v : View) (a : SplitAnswer) : Type 0 where
  pub by_its_type : ByItsType f.kind a
  pub is_good : refusal_of a ≡ no_refusal
  pub view_is : message_of a ≡ v
  pub fields_are : fields_in a ≡ f

pub hands_out : (f : CommonFields) (v : View) → HandsOut f v (handed_out f v)
hands_out f v =
    by_test (ltb 6 f.kind) (λ h. record { by_its_type = (ltb-true 6 f.kind h, refl); is_good = refl; view_is = refl; fields_are = refl }) (λ h.
    let known = ltb-false 6 f.kind h in
    let kind_is = kind_told f.kind known in
    record {
      by_its_type = (known, refl);
      is_good = refl;
      view_is = refl;
      fields_are = λ i. record { version = f.version; msg_len = f.msg_len; kind = kind_is i };
    })
  where
    by_test : (b : Bool) {x y : SplitAnswer} → (b ≡ true → HandsOut f v x) → (b ≡ false → HandsOut f v y) → HandsOut f v (pick b x y)
    by_test true p q = p refl
    by_test false p q = q refl

-- what holds of a message that is handed out and of one that is skipped holds of both
pub handed_either : (P : SplitAnswer → Type 0) (f : CommonFields) (v : View) → P (Ok (Split.Skipped f v)) → P (Ok (Split.Message (header_from f) v)) → P (handed_out f v)
handed_either P f v s m = pick_in P (ltb 6 f.kind) s m

pub shown_good : (r : Reading) → (refusal_of (shown r)).number ≡ Number.Good
shown_good r = ap (λ (x : Refusal). x.number) (hands_out (Fields.fields_of (header_of r)) (view 0 r.length)).is_good

-- ---- what follows the header, cut into body and rest
abbrev pub cut-at : Header.Reading → Reading
cut-at h =
    record {
      version = h.version;
      length = h.length;
      kind = h.kind;
      body = take (h.length - 6) h.tail;
      rest = drop (h.length - 6) h.tail;
    }

pub header_cut : (h : Header.Reading) → header_of (cut-at h) ≡ h
header_cut h = λ i. record { version = h.version; length = h.length; kind = h.kind; tail = take-append-drop (h.length - 6) h.tail i }

pub cut_header : (r : Reading) → r.length ≡ 6 + length r.body → cut-at (header_of r) ≡ r
cut_header r e =
    let n : length r.body ≡ r.length - 6 = omega arith in
    λ i. record {
      version = r.version;
      length = r.length;
      kind = r.kind;
      body = take_at r.body r.rest (r.length - 6) n i;
      rest = drop_at r.body r.rest (r.length - 6) n i;
    }
