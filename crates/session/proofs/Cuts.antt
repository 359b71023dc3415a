-- A stream put in pieces, and two ways of cutting it. Assumes nothing.
use mathlib.Core.Path.{◌≡◌, refl, sym, ap, ◌∙◌, subst}
use mathlib.Core.Bool.{Bool, true, false, true≢false}
use mathlib.Core.List.{List, [], ◌∷◌, ◌++◌, append_assoc, append-nil, flatten}
use Prim.Native.Nat.{ℕ, zero, suc, ◌≤◌, ◌<◌}
use native.Mathlib.Omega.{arith}
use borrow.Author.Tests.{ltb-true, ltb-false}
use lib.Dec.{ltb}
use lib.ListN.{length, take, drop, length-drop, take-append-drop}
use lib.Seq.{take-append-le, take-length, drop_at}
use Rattle.std.specs.declared.result.Result.TheVariants.{Err}
use Rattle.std.specs.declared.option.Option.TheVariants.{Some, None}
use Rattle.wire.specs.declared.Refusal.{Refusal}
use Rattle.splitter.specs.Stream.{Message, bytes_of, joined}
use Rattle.receiver.specs.Receive.{longest_piece, judge_of, waiting, took_of}
use Rattle.receiver.specs.declared.Received.{Received}
use Rattle.receiver.proofs.Calls.{too_long, stands, goes_on}
use Rattle.session.specs.Session.{Session, call, took, held_bytes, Pieces, Puts, all_put, used_up, put_again, passes_over, Follows}
use Rattle.session.proofs.Taken.{took_some}
use Rattle.session.proofs.Since.{joined_more, Now, waits, refuses, not_both, Since, leaves, call_since}
use Rattle.session.proofs.Walked.{follows}

-- ---- where the pieces of a stream lead: a part of it was taken, and all of it unless a refusal stands
pub record Leads (c : Session) (s : List ℕ) : Type 0 where
  pub taken : List ℕ
  pub rest : List ℕ
  pub all : taken ++ rest ≡ s
  pub since : Since c taken
  pub left : c.state.standing ≡ None → rest ≡ []

-- where a refusal stands, no call changes anything
call_leaves : (c : Session) (s : List ℕ) → Since c s → {r : Refusal} → c.state.standing ≡ Some r → (p : List ℕ) → call c p ≡ c
call_leaves c s x {r} n p = go (ltb longest_piece (length p)) refl
  where
    go : (b : Bool) → ltb longest_piece (length p) ≡ b → call c p ≡ c
    go true b = (leaves c p _ (too_long c.buffer c.state p x.size (ltb-true longest_piece (length p) b))).0
    go false b = (leaves c p _ (stands c.buffer c.state p x.size (ltb-false longest_piece (length p) b) r n)).0

stands_still : {c d : Session} {ps : List (List ℕ)} (s : List ℕ) → Since c s → {r : Refusal} → c.state.standing ≡ Some r → Puts c ps d → d ≡ c
stands_still s x n all_put = refl
stands_still s x n (used_up k) = stands_still s x n k
stands_still s x {r} n (put_again {c} {d} {p} {ps} k) =
    let same = call_leaves c s x n p in
    let y = call_since c s x p in
    stands_still (s ++ take (took c p) p) y (subst (λ (e : Session). e.state.standing ≡ Some r) (sym same) n) k ∙ same
stands_still s x n (passes_over m k) = stands_still s x n k

pub puts_lead : {c d : Session} {ps : List (List ℕ)} (s : List ℕ) → Since c s → Puts c ps d → Leads d (s ++ flatten ps)
unfolding flatten
puts_lead s x all_put = record { taken = s; rest = []; all = refl; since = x; left = λ z. refl }
puts_lead s x (used_up p) = puts_lead s x p
puts_lead s x (put_again {c} {d} {p} {ps} k) =
    let n = took c p in
    let e : (s ++ take n p) ++ (drop n p ++ flatten ps) ≡ s ++ (p ++ flatten ps) =
    append_assoc s (take n p) (drop n p ++ flatten ps)
    ∙ ap (λ (z : List ℕ). s ++ z) (sym (append_assoc (take n p) (drop n p) (flatten ps)) ∙ ap (λ (z : List ℕ). z ++ flatten ps) (take-append-drop n p)) in
    subst (Leads d) e (puts_lead (s ++ take n p) (call_since c s x p) k)
puts_lead s x (passes_over {c} {d} {p} {ps} n k) =
    subst (λ (e : Session). Leads e (s ++ flatten (p ∷ ps))) (sym (stands_still s x n k)) (record { taken = s; rest = flatten (p ∷ ps); all = refl; since = x; left = λ z. not_both z n })

pub leads_follows : (c : Session) (s : List ℕ) → Leads c s → Follows c s
leads_follows c s x = subst (Follows c) x.all (follows c x.taken x.since x.rest x.left)

-- ---- that there is such a way: a call takes a byte at least, unless none is left or a refusal stands
pub took_is : (c : Session) (s p : List ℕ) → Since c s → length p ≤ longest_piece → c.state.standing ≡ None → waiting (judge_of (held_bytes c)) ≡ true
    → took c p ≡ took_of (held_bytes c) p
took_is c s p x short free w =
    ap (λ (a : Received). a.took) (goes_on c.buffer c.state p x.size short free (omega (arith, x.size, x.fits)) w)

-- some session to which the pieces lead
abbrev Ended : Session → List (List ℕ) → Type 0
Ended c ps = (d : Session) × Puts c ps d

once_called : (c : Session) (p : List ℕ) (ps : List (List ℕ)) → Ended (call c p) (drop (took c p) p ∷ ps) → Ended c (p ∷ ps)
once_called c p ps e = (e.0, put_again e.1)

-- a piece of at most f bytes in front of pieces that can be put
abbrev PieceEnds : ℕ → Type 0
PieceEnds f = (c : Session) (s : List ℕ) → Since c s → (p : List ℕ) → length p ≤ f → length p ≤ longest_piece → (ps : List (List ℕ))
    → ((d : Session) (t : List ℕ) → Since d t → Ended d ps) → Ended c (p ∷ ps)

none_left : (c : Session) (s : List ℕ) → Since c s → (ps : List (List ℕ)) → ((d : Session) (t : List ℕ) → Since d t → Ended d ps) → Ended c ([] ∷ ps)
none_left c s x ps k = let e = k c s x in (e.0, used_up e.1)

one_call : (f : ℕ) → PieceEnds f → PieceEnds (suc f)
one_call f i c s x [] l short ps k = none_left c s x ps k
one_call f i c s x (b ∷ p) l short ps k = go x.now
  where
    go : Now (held_bytes c) c.state.standing → Ended c ((b ∷ p) ∷ ps)
    go (refuses r z j) = let e = k c s x in (e.0, passes_over {c = c} z e.1)
    go (waits z w) =
        let n = took c (b ∷ p) in
        let is = took_is c s (b ∷ p) x short z w in
        let some = took_some (held_bytes c) (b ∷ p) (omega arith) in
        let fewer = length-drop n (b ∷ p) in
        once_called c (b ∷ p) ps
        (i (call c (b ∷ p)) (s ++ take n (b ∷ p)) (call_since c s x (b ∷ p)) (drop n (b ∷ p)) (omega (arith, fewer, is, some, l)) (omega (arith, fewer, short)) ps k)

no_call : PieceEnds zero
no_call c s x [] l short ps k = none_left c s x ps k
no_call c s x (b ∷ p) l short ps k = absurd (omega (arith, l))

piece_ends : (f : ℕ) → PieceEnds f
piece_ends zero = no_call
piece_ends (suc f) = one_call f (piece_ends f)

pub pieces_end : (ps : List (List ℕ)) → Pieces ps → (c : Session) (s : List ℕ) → Since c s → Ended c ps
pieces_end [] g c s x = (c, all_put)
pieces_end (p ∷ ps) g c s x = piece_ends (length p) c s x p (omega arith) g.0 ps (pieces_end ps g.1)

-- ---- two sessions of one stream
append_cancel : (a x y : List ℕ) → a ++ x ≡ a ++ y → x ≡ y
append_cancel a x y e = sym (drop_at a x (length a) refl) ∙ ap (drop (length a)) e ∙ drop_at a y (length a) refl

joined_cancel : (l : List Message) (x y : List ℕ) → joined l x ≡ joined l y → x ≡ y
joined_cancel [] x y e = e
joined_cancel (m ∷ l) x y e = joined_cancel l x y (append_cancel (bytes_of m) (joined l x) (joined l y) e)

-- the shorter of two beginnings of one list is a beginning of the longer
front_of : (h t k u : List ℕ) → h ++ t ≡ k ++ u → length h ≤ length k → take (length h) k ≡ h
front_of h t k u e l =
    sym (take-append-le (length h) k u l) ∙ ap (take (length h)) (sym e) ∙ take-append-le (length h) h t (omega arith) ∙ take-length h

-- a refusal stands with the first bytes that bring it, so none of two is shorter
not_shorter : (h t k u : List ℕ) (r : Refusal) → h ++ t ≡ k ++ u → judge_of h ≡ Err r
    → ((j : ℕ) → j < length k → waiting (judge_of (take j k)) ≡ true) → length k ≤ length h
not_shorter h t k u r e j before = go (ltb (length h) (length k)) refl
  where
    go : (b : Bool) → ltb (length h) (length k) ≡ b → length k ≤ length h
    go false b = ltb-false (length h) (length k) b
    go true b =
        let l = ltb-true (length h) (length k) b in
        let front = front_of h t k u e (omega (arith, l)) in
        absurd (true≢false (sym (before (length h) l) ∙ ap (λ (z : List ℕ). waiting (judge_of z)) front ∙ ap waiting j))

module _ (c d : Session) (s : List ℕ) (x : Leads c s) (y : Leads d s) where
  f : Follows c s
  f = leads_follows c s x

  g : Follows d s
  g = leads_follows d s y

  pub same_messages : c.messages ≡ d.messages
  same_messages = f.messages_are ∙ sym g.messages_are

  same_standing : c.state.standing ≡ d.state.standing
  same_standing = f.standing_is ∙ sym g.standing_is

  -- the bytes held and those not taken are the same in both: all that is behind the messages
  behind : held_bytes c ++ x.rest ≡ held_bytes d ++ y.rest
  behind =
      joined_cancel c.messages (held_bytes c ++ x.rest) (held_bytes d ++ y.rest)
      (sym (joined_more c.messages (held_bytes c) x.rest) ∙ ap (λ (z : List ℕ). z ++ x.rest) (sym x.since.parts) ∙ x.all ∙ sym y.all
      ∙ ap (λ (z : List ℕ). z ++ y.rest) y.since.parts ∙ joined_more d.messages (held_bytes d) y.rest
      ∙ ap (λ (l : List Message). joined l (held_bytes d ++ y.rest)) (sym same_messages))

  both_refuse : (r q : Refusal) → judge_of (held_bytes c) ≡ Err r → judge_of (held_bytes d) ≡ Err q → held_bytes c ≡ held_bytes d
  both_refuse r q j k =
      let a = not_shorter (held_bytes c) x.rest (held_bytes d) y.rest _ behind j y.since.before in
      let b = not_shorter (held_bytes d) y.rest (held_bytes c) x.rest _ (sym behind) k x.since.before in
      let same : length (held_bytes c) ≡ length (held_bytes d) = omega (arith, a, b) in
      sym (front_of (held_bytes c) x.rest (held_bytes d) y.rest behind b) ∙ ap (λ (n : ℕ). take n (held_bytes d)) same ∙ take-length (held_bytes d)

  both_wait : c.state.standing ≡ None → held_bytes c ≡ held_bytes d
  both_wait z =
      let v = y.left (sym same_standing ∙ z) in
      sym (append-nil (held_bytes c)) ∙ ap (λ (t : List ℕ). held_bytes c ++ t) (sym (x.left z)) ∙ behind ∙ ap (λ (t : List ℕ). held_bytes d ++ t) v ∙ append-nil (held_bytes d)

  pub same_held : held_bytes c ≡ held_bytes d
  same_held = go x.since.now y.since.now
    where
      go : Now (held_bytes c) c.state.standing → Now (held_bytes d) d.state.standing → held_bytes c ≡ held_bytes d
      go (waits z w) n = both_wait z
      go (refuses r p j) (waits z w) = both_wait (same_standing ∙ z)
      go (refuses r p j) (refuses q o k) = both_refuse r q j k

  pub same_state : c.state ≡ d.state
  same_state =
      let many : c.state.held ≡ d.state.held =
      sym x.since.many ∙ ap length same_held ∙ y.since.many in
      λ i. record { held = many i; standing = same_standing i }
