-- The walk of the splitter over a stream finds what a session has handed out. Assumes nothing.
use mathlib.Core.Path.{◌≡◌, refl, sym, ap, ◌∙◌, subst}
use mathlib.Core.Bool.{true, true≢false}
use mathlib.Core.List.{List, [], ◌∷◌, ◌++◌, append-nil}
use Prim.Native.Nat.{ℕ, zero, suc, ◌≤◌, ◌<◌}
use native.Mathlib.Omega.{arith}
use lib.ListN.{length, length-append}
use lib.Seq.{drop_at}
use Rattle.std.specs.declared.result.Result.TheVariants.{Err}
use Rattle.std.specs.declared.option.Option.{Option}
use Rattle.std.specs.declared.option.Option.TheVariants.{Some, None}
use Rattle.wire.specs.Rfc.{Each}
use Rattle.wire.specs.View.{view}
use Rattle.wire.specs.Walk.{stop, bad, End, tail, fault, Walked, walk}
use Rattle.wire.specs.declared.Refusal.{Refusal}
use Rattle.wire.proofs.Walk.{walk_stop}
use Rattle.splitter.specs.Stream.{Message, length_of, bytes_of, joined}
use Rattle.splitter.proofs.Laws.{handed_either}
use Rattle.splitter.proofs.Cases.{length_in, fields_in}
use Rattle.receiver.specs.Receive.{Judgement, room, stream_too_big, outcome_of, judge_of, waiting}
use Rattle.receiver.proofs.Judging as Judging
use Rattle.session.specs.Session.{Session, held_bytes, step, kit, split, standing_at, Follows}
use Rattle.session.proofs.Boundary.{step_refused, step_message, step_too_big, says_too_big, step_waits}
use Rattle.session.proofs.Since.{Whole, joined_more, Now, waits, refuses, Since}

-- ---- a walk that finds no message
abbrev Finds : List Message → End → List ℕ → Type 0
Finds l e s = (f : ℕ) → length s ≤ f → walk kit f s ≡ record { items = l; end = e }

stops_at : (s : List ℕ) → step s ≡ stop → Finds [] (tail s) s
stops_at s e f l = walk_stop kit f s e

faults_at : (s : List ℕ) (r : Refusal) → step s ≡ bad r → 0 < length s → Finds [] (fault r) s
unfolding walk
faults_at s r e p zero l = absurd (omega (arith, p, l))
faults_at s r e p (suc f) l = rw e

-- ---- messages that stand for themselves are found again
finds_messages : (l : List Message) (z : List ℕ) (e : End) → Each Whole l → Finds [] e z → Finds l e (joined l z)
unfolding walk
finds_messages [] z e w k f n = k f n
finds_messages (m ∷ l) z e w k zero n =
    let long = length-append (bytes_of m) (joined l z) in
    let some = w.0.some in
    let many = w.0.length_is in
    absurd (omega (arith, n, long, some, many))
finds_messages (m ∷ l) z e w k (suc f) n =
    let x = w.0 in
    let rest = joined l z in
    let some = x.some in
    let many = x.length_is in
    let long = length-append (bytes_of m) rest in
    rw (step_message (bytes_of m) rest x.most m x.split_so many refl, drop_at (bytes_of m) rest (length_of m) (sym many), finds_messages l z e w.1 k f (omega (arith, n, long, some, many)))

-- ---- how it ends, where the bytes h are held, and the rest of the stream has not been taken
pub record Ends (z : List ℕ) (standing : Option Refusal) : Type 0 where
  pub end : End
  pub finds : Finds [] end z
  pub stands : standing_at end ≡ standing

ends_waiting : (h : List ℕ) → length h ≤ room → waiting (judge_of h) ≡ true → Ends h None
ends_waiting h most w =
    let s = step_waits h most w in
    record { end = tail h; finds = stops_at h s.0; stands = rw s.1 }

-- what holds nothing waits
pub some_held : (h : List ℕ) (r : Refusal) → judge_of h ≡ Err r → 0 < length h
some_held [] r j = absurd (true≢false (sym (Judging.waits_early [] (omega arith) (omega arith) (λ one. absurd (omega (arith, one)))) ∙ ap waiting j))
some_held (b ∷ h) r j = omega arith

module _ (h rest : List ℕ) (most : length h ≤ room) (r : Refusal) where
  ends_refused : judge_of h ≡ Err r → Ends (h ++ rest) (Some r)
  ends_refused j = go (judge_of h) (Judging.judged h most) j
    where
      apart : ◌≡◌ {A = ℕ} 0 1 → Ends (h ++ rest) (Some r)
      apart z = absurd (omega (arith, z))

      go : (o : Judgement) → Judging.Judged h o → o ≡ Err r → Ends (h ++ rest) (Some r)
      go _ (Judging.in_header m l v u) q = apart cc
      go _ (Judging.in_body w l u f) q = apart cc
      go _ (Judging.refused d s c p b) q =
          let same : d ≡ r = cc in
          let long = length-append h rest in
          record { end = fault d; finds = faults_at (h ++ rest) d (step_refused h rest most d s c) (omega (arith, some_held h r j, long)); stands = ap {B = Option Refusal} Some same }
      go _ (Judging.too-big w l u) q =
          let same : stream_too_big ≡ r = cc in
          record { end = tail (h ++ rest); finds = stops_at (h ++ rest) (step_too_big h rest most w l u); stands = rw (says_too_big h rest most w l u) (ap {B = Option Refusal} Some same) }
      go _ (Judging.message w f) q = handed_either (λ a. outcome_of h a ≡ Err r → Ends (h ++ rest) (Some r)) (fields_in h) (view 0 (length_in h)) (λ x. apart cc) (λ x. apart cc) q

-- ---- a session that has taken s shows what the splitter finds in s, and in all of the stream where a refusal stands
module _ (c : Session) (s : List ℕ) (x : Since c s) (rest : List ℕ) (left : c.state.standing ≡ None → rest ≡ []) where
  most : length (held_bytes c) ≤ room
  most = omega (arith, x.many, x.fits)

  ends : Now (held_bytes c) c.state.standing → Ends (held_bytes c ++ rest) c.state.standing
  ends (waits z w) =
      let none : held_bytes c ++ rest ≡ held_bytes c = ap (λ (t : List ℕ). held_bytes c ++ t) (left z) ∙ append-nil (held_bytes c) in
      subst (λ (t : List ℕ). Ends t c.state.standing) (sym none) (subst (Ends (held_bytes c)) (sym z) (ends_waiting (held_bytes c) most w))
  ends (refuses r z j) = subst (Ends (held_bytes c ++ rest)) (sym z) (ends_refused (held_bytes c) rest most r j)

  pub follows : Follows c (s ++ rest)
  follows =
      let e = ends x.now in
      let whole : s ++ rest ≡ joined c.messages (held_bytes c ++ rest) = ap (λ (t : List ℕ). t ++ rest) x.parts ∙ joined_more c.messages (held_bytes c) rest in
      let found : split (s ++ rest) ≡ record { items = c.messages; end = e.end } =
      ap split whole ∙ finds_messages c.messages (held_bytes c ++ rest) e.end x.each e.finds (length (joined c.messages (held_bytes c ++ rest))) (omega arith) in
      record { messages_are = sym (ap (λ (w : Walked Message). w.items) found); standing_is = sym (ap (λ (w : Walked Message). standing_at w.end) found ∙ e.stands) }
