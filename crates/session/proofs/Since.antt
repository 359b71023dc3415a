-- Where any calls have led: messages that stand for themselves, and then the bytes since the last boundary. Assumes nothing.
use mathlib.Core.Path.{◌≡◌, refl, sym, ap, ap₂, ◌∙◌, subst}
use mathlib.Core.Bool.{Bool, true, false}
use mathlib.Core.List.{List, [], ◌∷◌, ◌++◌, append_assoc, append-nil}
use Prim.Native.Nat.{ℕ, ◌+◌, ◌≤◌, ◌<◌}
use native.Mathlib.Omega.{arith}
use borrow.Author.Tests.{ltb-true, ltb-false}
use lib.Dec.{ltb}
use lib.ListN.{length, take}
use lib.Seq.{paste, paste-zero, take-length, take-take}
use Rattle.std.specs.declared.result.Result.TheVariants.{Err}
use Rattle.std.specs.declared.option.Option.{Option}
use Rattle.std.specs.declared.option.Option.TheVariants.{Some, None}
use Rattle.wire.specs.Rfc.{Each}
use Rattle.wire.specs.View.{view, viewed}
use Rattle.wire.specs.declared.Refusal.{Refusal}
use Rattle.wire.specs.declared.View.{View}
use Rattle.wire.proofs.Rfc.{join_parts}
use Rattle.wire.proofs.Views.{viewed_inside}
use Rattle.splitter.specs.Shown.{SplitAnswer, message_of}
use Rattle.splitter.specs.Read.{split_of}
use Rattle.splitter.specs.Stream.{Message, known, skipped, length_of, bytes_of, joined}
use Rattle.splitter.proofs.Stream.{split_as, Stands, known_stands, skipped_stands}
use Rattle.receiver.specs.Receive.{Judgement, room, longest_piece, outcome_of, judge_of, waiting, took_of, state_of, taken, refused, receive_of}
use Rattle.receiver.specs.declared.Received.{Received}
use Rattle.receiver.proofs.Judging as Judging
use Rattle.receiver.proofs.Judging.{Said, said_message, said_skipped, said_cut, said_big, said_refused, said}
use Rattle.receiver.proofs.Runs.{took_within}
use Rattle.receiver.proofs.Taking.{then_many, size_then, front_then}
use Rattle.receiver.proofs.Calls.{too_long, stands, goes_on}
use Rattle.session.specs.Session.{Session, begun, handed, call, took, held_bytes, Called, not_yet, once_more}
use Rattle.session.proofs.Boundary.{message_whole}
use Rattle.session.proofs.Taken.{took_fits, begins_waiting}

-- ---- messages one after the other
each_with : (P : Message → Type 0) (l : List Message) (m : Message) → Each P l → P m → Each P (l ++ (m ∷ []))
each_with P [] m e p = (p, tt)
each_with P (k ∷ l) m e p = (e.0, each_with P l m e.1 p)

pub joined_more : (l : List Message) (h t : List ℕ) → joined l h ++ t ≡ joined l (h ++ t)
joined_more [] h t = refl
joined_more (m ∷ l) h t = append_assoc (bytes_of m) (joined l h) t ∙ ap (λ (r : List ℕ). bytes_of m ++ r) (joined_more l h t)

-- a message of whose bytes the splitter says that they are this message, whole
pub record Whole (m : Message) : Type 0 where
  pub most : length (bytes_of m) ≤ room
  pub split_so : split_of (bytes_of m) ≡ split_as m
  pub length_is : length_of m ≡ length (bytes_of m)
  pub some : 0 < length_of m

-- ---- the bytes since the last boundary wait, or have brought the refusal that stands
pub data Now (h : List ℕ) (standing : Option Refusal) : Type 0 where
  waits : standing ≡ None → waiting (judge_of h) ≡ true → Now h standing
  refuses : (r : Refusal) → standing ≡ Some r → judge_of h ≡ Err r → Now h standing

pub not_both : {A : Type 0} {standing : Option Refusal} {r : Refusal} → standing ≡ None → standing ≡ Some r → A
not_both {A} {standing} {r} n s = let z : ◌≡◌ {A = ℕ} 0 1 = cc in absurd (omega (arith, z))

pub record Since (c : Session) (s : List ℕ) : Type 0 where
  pub size : length c.buffer ≡ room
  pub fits : c.state.held ≤ room
  pub many : length (held_bytes c) ≡ c.state.held
  pub parts : s ≡ joined c.messages (held_bytes c)
  pub each : Each Whole c.messages
  pub before : (j : ℕ) → j < length (held_bytes c) → waiting (judge_of (take j (held_bytes c))) ≡ true
  pub now : Now (held_bytes c) c.state.standing

pub began : (b : List ℕ) → length b ≡ room → Since (begun b) []
began b size =
    record {
      size = size;
      fits = omega arith;
      many = refl;
      parts = refl;
      each = tt;
      before = λ j l. absurd (omega (arith, l));
      now = waits refl (Judging.waits_early [] (omega arith) (omega arith) (λ one. absurd (omega (arith, one))));
    }

-- ---- one call
abbrev answered : Session → List ℕ → Received → Session
answered c xs a =
    record {
      buffer = paste c.buffer c.state.held xs a.took;
      state = a.state;
      messages = c.messages ++ handed (paste c.buffer c.state.held xs a.took) a.outcome;
    }

-- one that is refused and takes nothing leaves all as it was
pub leaves : (c : Session) (xs : List ℕ) (r : Refusal) → receive_of c.buffer c.state xs ≡ refused c.state r → (call c xs ≡ c) × (took c xs ≡ 0)
leaves c xs r e = (
  ap (answered c xs) e ∙ (λ i. record { buffer = sym (paste-zero c.buffer c.state.held xs) i; state = c.state; messages = append-nil c.messages i }),
  ap (λ (a : Received). a.took) e,
)

leaves_since : (c : Session) (s xs : List ℕ) → Since c s → (r : Refusal) → receive_of c.buffer c.state xs ≡ refused c.state r
    → Since (call c xs) (s ++ take (took c xs) xs)
leaves_since c s xs x r e =
    let l = leaves c xs r e in
    let same : s ++ take (took c xs) xs ≡ s = ap (λ (n : ℕ). s ++ take n xs) l.1 ∙ append-nil s in
    subst (Since (call c xs)) (sym same) (subst (λ (d : Session). Since d s) (sym l.0) x)

-- one that takes bytes: those since the last boundary are then h', and stand at the front of the buffer
module _ (c : Session) (s xs : List ℕ) (x : Since c s) (w : waiting (judge_of (held_bytes c)) ≡ true) where
  abbrev h : List ℕ
  h = held_bytes c

  abbrev n : ℕ
  n = took_of h xs

  abbrev h' : List ℕ
  h' = h ++ take n xs

  abbrev b' : List ℕ
  b' = paste c.buffer c.state.held xs n

  most : length h ≤ room
  most = omega (arith, x.many, x.fits)

  all_fit : c.state.held + n ≤ room
  all_fit = let f = took_fits h xs most w in omega (arith, f, x.many)

  many' : length h' ≡ c.state.held + n
  many' = then_many c.buffer c.state.held x.size xs n (took_within h xs) all_fit

  most' : length h' ≤ room
  most' = omega (arith, many', all_fit)

  size' : length b' ≡ room
  size' = size_then c.buffer c.state.held x.size xs n (took_within h xs) all_fit

  front' : take (length h') b' ≡ h'
  front' = ap (λ (k : ℕ). take k b') many' ∙ front_then c.buffer c.state.held x.size xs n (took_within h xs) all_fit

  before' : (j : ℕ) → j < length h' → waiting (judge_of (take j h')) ≡ true
  before' = begins_waiting h xs most w x.before

  parts' : s ++ take n xs ≡ joined c.messages h'
  parts' = ap (λ (z : List ℕ). z ++ take n xs) x.parts ∙ joined_more c.messages h (take n xs)

  abbrev Lands : Judgement → Type 0
  Lands o = Since (answered c xs (record { took = n; outcome = o; state = state_of (length h') o })) (s ++ take n xs)

  -- all of it is held
  held_on : (l : List Message) → l ≡ c.messages → (r : Option Refusal) → Now h' r
      → Since (record { buffer = b'; state = record { held = length h'; standing = r }; messages = l }) (s ++ take n xs)
  held_on l e r now =
      record {
        size = size';
        fits = most';
        many = ap length front';
        parts = parts' ∙ ap₂ joined (sym e) (sym front');
        each = subst (Each Whole) (sym e) x.each;
        before = subst (λ (z : List ℕ). (j : ℕ) → j < length z → waiting (judge_of (take j z)) ≡ true) (sym front') before';
        now = subst (λ (z : List ℕ). Now z r) (sym front') now;
      }

  -- it is a message, and nothing is held
  handed_on : (m : Message) → Stands h' m → (l : List Message) → l ≡ c.messages ++ (m ∷ [])
      → Since (record { buffer = b'; state = (begun b').state; messages = l }) (s ++ take n xs)
  handed_on m z l e =
      let whole : length_of m ≡ length h' = message_whole h' most' before' m z in
      let bytes : bytes_of m ≡ h' = z.bytes_are ∙ ap (λ (k : ℕ). take k h') whole ∙ take-length h' in
      let least = z.fits.least in
      let is : Whole m =
      record {
        most = omega (arith, ap length bytes, most');
        split_so = ap split_of bytes ∙ z.split_so;
        length_is = sym z.length_is;
        some = omega (arith, least);
      } in
      let fresh = began b' size' in
      record {
        size = size';
        fits = omega arith;
        many = refl;
        parts = parts' ∙ ap (joined c.messages) (sym bytes ∙ sym (append-nil (bytes_of m))) ∙ sym (join_parts (λ (k : Message) (t : List ℕ). bytes_of k ++ t) c.messages (m ∷ []) []) ∙ ap (λ (k : List Message). joined k []) (sym e);
        each = subst (Each Whole) (sym e) (each_with Whole c.messages m x.each is);
        before = fresh.before;
        now = fresh.now;
      }

  -- its view shows the same of the buffer as of the bytes
  shown : (v : View) (k : ℕ) → v ≡ view 0 k → k ≤ length h' → viewed b' v ≡ viewed h' v
  shown v k e l =
      let a : viewed b' (view 0 k) ≡ take k b' = viewed_inside b' (view 0 k) (omega (arith, size', most', l)) in
      let b : viewed h' (view 0 k) ≡ take k h' = viewed_inside h' (view 0 k) (omega (arith, l)) in
      let f : take k b' ≡ take k h' = sym (take-take k (length h') b' l) ∙ ap (take k) front' in
      ap (viewed b') e ∙ a ∙ f ∙ sym b ∙ ap (viewed h') (sym e)

  lands : (a : SplitAnswer) (o : Judgement) → Said h' a o → split_of h' ≡ a → judge_of h' ≡ o → Lands o
  lands _ _ (said_message header v) e j =
      let z = known_stands h' v header e in
      let same = shown v header.msg_len (ap message_of (sym e ∙ z.split_so)) z.fits.all_there in
      handed_on (known header (viewed h' v)) z _ (ap (λ (k : List ℕ). c.messages ++ (known header k ∷ [])) same)
  lands _ _ (said_skipped fields v) e j =
      let z = skipped_stands h' v fields e in
      let same = shown v fields.msg_len (ap message_of (sym e ∙ z.split_so)) z.fits.all_there in
      handed_on (skipped fields (viewed h' v)) z _ (ap (λ (k : List ℕ). c.messages ++ (skipped fields k ∷ [])) same)
  lands _ _ (said_cut r d b) e j = held_on _ (append-nil c.messages) None (waits refl (ap waiting j))
  lands _ _ (said_big r d b) e j = held_on _ (append-nil c.messages) (Some _) (refuses _ refl j)
  lands _ _ (said_refused r d) e j = held_on _ (append-nil c.messages) (Some r) (refuses r refl j)

  takes_since : receive_of c.buffer c.state xs ≡ taken h xs → Since (call c xs) (s ++ take (took c xs) xs)
  unfolding judge_of
  takes_since e =
      subst (λ (a : Received). Since (answered c xs a) (s ++ take a.took xs)) (sym e) (lands (split_of h') (outcome_of h' (split_of h')) (said h' (split_of h')) refl refl)

-- ---- any call
pub call_since : (c : Session) (s : List ℕ) → Since c s → (xs : List ℕ) → Since (call c xs) (s ++ take (took c xs) xs)
call_since c s x xs = go (ltb longest_piece (length xs)) refl x.now
  where
    go : (b : Bool) → ltb longest_piece (length xs) ≡ b → Now (held_bytes c) c.state.standing → Since (call c xs) (s ++ take (took c xs) xs)
    go true b n = leaves_since c s xs x _ (too_long c.buffer c.state xs x.size (ltb-true longest_piece (length xs) b))
    go false b (waits z w) =
        takes_since c s xs x w
        (goes_on c.buffer c.state xs x.size (ltb-false longest_piece (length xs) b) z (omega (arith, x.size, x.fits)) w)
    go false b (refuses r z j) =
        leaves_since c s xs x _ (stands c.buffer c.state xs x.size (ltb-false longest_piece (length xs) b) r z)

pub called_since : {b : List ℕ} {c : Session} {s : List ℕ} → length b ≡ room → Called b c s → Since c s
called_since size not_yet = began _ size
called_since size (once_more {c} {s} k xs) = call_since c s (called_since size k) xs

-- where no refusal stands, the bytes held wait
pub held_waits : (c : Session) (s : List ℕ) → Since c s → c.state.standing ≡ None → waiting (judge_of (held_bytes c)) ≡ true
held_waits c s x free = go x.now
  where
    go : Now (held_bytes c) c.state.standing → waiting (judge_of (held_bytes c)) ≡ true
    go (waits z w) = w
    go (refuses r z j) = not_both free z
