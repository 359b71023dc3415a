-- Which refusals stand, and where StreamTooBig does. Assumes nothing.
use mathlib.Core.Path.{◌≡◌, refl, sym, ap, ◌∙◌, subst}
use mathlib.Core.Bool.{Bool, true, false, true≢false}
use mathlib.Core.List.{List, []}
use Prim.Native.Nat.{ℕ, ◌+◌, ◌≤◌, ◌<◌}
use native.Mathlib.Omega.{arith}
use native.Mathlib.Nat.{min-le_left, le-min}
use borrow.Author.Tests.{ltb-true, ltb-false, lt-ltb, le-ltb}
use lib.Dec.{ltb, eqb}
use lib.ListN.{length, take, drop, length-take, take-append-drop}
use lib.Seq.{take-length}
use Rattle.std.specs.declared.result.Result.TheVariants.{Ok, Err}
use Rattle.std.specs.declared.option.Option.TheVariants.{Some, None}
use Rattle.wire.specs.Number as Number
use Rattle.wire.specs.Bytes.{pick, num_at}
use Rattle.wire.specs.Refusal.{refusal}
use Rattle.wire.specs.View.{view}
use Rattle.wire.specs.Walk.{stop, bad, End, tail, fault}
use Rattle.wire.specs.declared.Refusal.{Refusal}
use Rattle.wire.proofs.Refuses.{numbers_below}
use Rattle.wire.proofs.Walk.{BadIn, FaultsIn, faults_in, walk_fault}
use Rattle.splitter.specs.Shown.{SplitAnswer, refusal_of}
use Rattle.splitter.specs.Read.{split_of, reader}
use Rattle.splitter.specs.Stream.{Message, as_step}
use Rattle.splitter.proofs.Laws.{below_6, above_limit, bad_length, part, whole, handed_either}
use Rattle.splitter.proofs.Cases.{length_in, fields_in, Case, early, other_version, headed, split_case, number_more}
use Rattle.splitter.proofs.Promises as Splitter
use Rattle.receiver.specs.Receive.{Judgement, room, too_big, stream_too_big, SaysTooBig, outcome_of, judge_of, waiting, took_of}
use Rattle.receiver.specs.Steps.{refused_run, first_run}
use Rattle.receiver.proofs.Judging.{Judged, in_header, in_body, refused, too-big, message, by_version, by-header, judged}
use Rattle.receiver.proofs.First.{first}
use Rattle.receiver.proofs.Runs.{took_ended}
use Rattle.session.proofs.Since.{not_both}
use Rattle.session.proofs.Walked.{some_held}
use Rattle.session.specs.Session.{or_waits, step, kit, split, standing_at, Brings, wrong_version, length_below_6, length_above_limit, length_above_buffer}
use Rattle.splitter.specs.declared.Split.{Split}

-- ---- the first bytes that bring a refusal: one of them, or the six of a header
module _ (h : List ℕ) (most : length h ≤ room) (r : Refusal) (j : judge_of h ≡ Err r) (before : (i : ℕ) → i < length h → waiting (judge_of (take i h)) ≡ true) where
  many : length h ≡ refused_run r.number
  many =
      let all : took_of [] h ≡ length h =
      took_ended (length h) [] h (some_held h r j) (omega arith) (λ i p l. before i l) (ap (λ (z : List ℕ). waiting (judge_of z)) (take-length h) ∙ ap waiting j) in
      sym all ∙ (first h most).took ∙ ap (λ (o : Judgement). first_run o (length h)) j

  is : (d : Refusal) → d ≡ r → Brings d (refused_run d.number) → Brings r (length h)
  is d e b = subst (Brings r) (sym many) (subst (λ (x : Refusal). Brings x (refused_run x.number)) e b)

  pub brings : Brings r (length h)
  brings = go (judge_of h) (judged h most) j
    where
      apart : ◌≡◌ {A = ℕ} 0 1 → Brings r (length h)
      apart z = absurd (omega (arith, z))

      go : (o : Judgement) → Judged h o → o ≡ Err r → Brings r (length h)
      go _ (in_header m l v u) q = apart cc
      go _ (in_body w l u f) q = apart cc
      go _ (refused d s c p (by_version one v e)) q = let z : d ≡ r = cc in is (refusal Number.BadVersion 0) (sym e ∙ z) wrong_version
      go _ (refused d s c p (by-header w below_6 k)) q = let z : refusal Number.BadMessageLength 1 ≡ r = cc in is _ z length_below_6
      go _ (refused d s c p (by-header w above_limit k)) q = let z : refusal Number.TooLong 1 ≡ r = cc in is _ z length_above_limit
      go _ (too-big w l u) q = let z : stream_too_big ≡ r = cc in is _ z length_above_buffer
      go _ (message w f) q = handed_either (λ a. outcome_of h a ≡ Err r → Brings r (length h)) (fields_in h) (view 0 (length_in h)) (λ x. apart cc) (λ x. apart cc) q

-- ---- the splitter's numbers are below 11
faults : FaultsIn kit (λ n. n < 11)
faults = faults_in kit (λ n. n < 11) (λ s. at (take room s) (split_of (take room s)) refl)
  where
    at : (s : List ℕ) (a : SplitAnswer) → split_of s ≡ a → BadIn (λ n. n < 11) (or_waits (as_step s a))
    at s (Ok (Split.Message header v)) e = tt
    at s (Ok (Split.Skipped fields v)) e = tt
    at s (Err r) e = go (eqb r.number Number.Cut)
      where
        go : (b : Bool) → BadIn {A = Message} (λ n. n < 11) (pick b stop (bad r))
        go true = tt
        go false = subst (λ (x : SplitAnswer). (refusal_of x).number < 11) e (numbers_below reader Splitter.refuses 11 refl s)

-- so StreamTooBig stands where a header that waits says so, and nowhere else
pub too_big_waits : (s : List ℕ) (e : End) → (split s).end ≡ e → standing_at e ≡ Some stream_too_big → (z : List ℕ) × ((split s).end ≡ tail z) × (too_big z ≡ true)
too_big_waits s (tail z) q h = go (too_big z) refl h
  where
    go : (b : Bool) → too_big z ≡ b → standing_at (tail z) ≡ Some stream_too_big → (y : List ℕ) × ((split s).end ≡ tail y) × (too_big y ≡ true)
    go true b h = (z, q, b)
    go false b h =
        let none : standing_at (tail z) ≡ None = rw b in not_both none h
too_big_waits s (fault r) q h =
    let below = walk_fault kit (λ n. n < 11) faults (length s) s r q in
    let is : r ≡ stream_too_big = cc in
    let n = ap (λ (x : Refusal). x.number) is in
    absurd (omega (arith, below, n))

-- ---- what the bytes say there
too_long_said : (z : List ℕ) → too_big z ≡ true → (6 ≤ length z) × (room < num_at 4 z 1)
too_long_said z t = go (ltb (length z) 6) refl t
  where
    go : (b : Bool) → ltb (length z) 6 ≡ b → pick b false (ltb room (num_at 4 z 1)) ≡ true → (6 ≤ length z) × (room < num_at 4 z 1)
    go true b t = absurd (true≢false (sym t))
    go false b t = (ltb-false (length z) 6 b, ltb-true room (num_at 4 z 1) t)

-- the splitter is Cut, so the version is right and it lets the length stand
pub says_so : (z : List ℕ) → step z ≡ stop → too_big z ≡ true → SaysTooBig z
says_so z e t = go (split_of w) (split_case w (omega (arith, most))) e
  where
    w : List ℕ
    w = take room z

    said : (6 ≤ length z) × (room < num_at 4 z 1)
    said = too_long_said z t

    most : length w ≤ room
    most = let n = length-take room z in let m = min-le_left room (length z) in omega (arith, n, m)

    long : 6 ≤ length w
    long = let n = length-take room z in let m = le-min {k = 6} {a = room} {b = length z} (omega arith) said.0 in omega (arith, n, m)

    same : (k at : ℕ) → at + k ≤ 6 → num_at k w at ≡ num_at k z at
    same k at h = sym (number_more w (drop room z) k at (omega (arith, long, h))) ∙ ap (λ (y : List ℕ). num_at k y at) (take-append-drop room z)

    apart : ◌≡◌ {A = ℕ} 0 1 → SaysTooBig z
    apart q = absurd (omega (arith, q))

    go : (a : SplitAnswer) → Case w a → or_waits (as_step w a) ≡ stop → SaysTooBig z
    go _ (early l v c m) q = absurd (omega (arith, l, long))
    go _ (other_version one v) q = apart cc
    go _ (headed h (bad_length r below_6 k)) q = apart cc
    go _ (headed h (bad_length r above_limit k)) q = apart cc
    go _ (headed h (part l m f)) q =
        record {
          six = said.0;
          version_3 = sym (same 1 0 (omega arith)) ∙ h.three;
          above_buffer = said.1;
          within_limit = let n = same 4 1 (omega arith) in omega (arith, m, n);
        }
    go _ (headed h (whole f)) q = handed_either (λ a. or_waits (as_step w a) ≡ stop → SaysTooBig z) (fields_in w) (view 0 (length_in w)) (λ x. apart cc) (λ x. apart cc) q

pub said_big : (z : List ℕ) → SaysTooBig z → too_big z ≡ true
said_big z x = rw (le-ltb (length z) 6 x.six, lt-ltb room (num_at 4 z 1) x.above_buffer)
