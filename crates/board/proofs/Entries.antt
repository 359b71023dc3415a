-- The two lists of a board, side by side: what a key shows before and after an entry is set. Assumes nothing.
use mathlib.Core.Path.{◌≡◌, refl, sym, ap, ◌∙◌}
use Prim.Native.Nat.{ℕ, zero, suc, ◌+◌, ◌≤◌, ◌<◌}
use mathlib.Core.Bool.{Bool, true, false}
use mathlib.Core.List.{List, [], ◌∷◌}
use Rattle.std.specs.declared.option.Option.{Option}
use Rattle.std.specs.declared.option.Option.TheVariants.{Some, None}
use native.Mathlib.Omega.{arith}
use lib.ListN.{length, get_or, set, length-set}
use Rattle.wire.specs.Bytes.{pick}
use Rattle.peer_key.specs.Key.{same_key}
use Rattle.peer_key.specs.declared.PeerKey.{PeerKey}
use Rattle.peer_key.proofs.Equality.{keys_equal, key_self}
use Rattle.board.specs.First.{first}
use Rattle.board.specs.Board.{Place, Peer, hits, free, free_place, used_by, used, Absent}
use Rattle.board.proofs.Firsts.{by_test, found_passes}

pub never : {P : Type 0} → ◌≡◌ {A = Bool} true false → P
never e = let z : ◌≡◌ {A = ℕ} 0 1 = cc in absurd (let w : ⊥ = omega arith in w)

-- what stands for a key
unfoldable pub peer_of : PeerKey → List Place → List Peer → Option Peer
peer_of k [] qs = None
peer_of k (p ∷ ps) [] = None
peer_of k (p ∷ ps) (q ∷ qs) = pick (hits k p) (Some q) (peer_of k ps qs)

-- no two places are used by one key
unfoldable pub Once : List Place → Type 0
Once [] = Unit {0}
Once (p ∷ ps) = ((k : PeerKey) → hits k p ≡ true → Absent k ps) × Once ps

-- ---- one place
-- a place that k uses is used by another key exactly where the two are the same
hits_same : (k other : PeerKey) (p : Place) → hits k p ≡ true → hits other p ≡ same_key k other
hits_same k other None e = never (sym e)
hits_same k other (Some own) e = rw (keys_equal own k e)

hits_is : (k : PeerKey) (p : Place) → hits k p ≡ true → p ≡ used_by k
hits_is k None e = never (sym e)
hits_is k (Some own) e = ap Some (keys_equal own k e)

pub hits_taken : (k : PeerKey) (p : Place) → hits k p ≡ true → free p ≡ false
hits_taken k None e = sym e
hits_taken k (Some own) e = refl

free_misses : (k : PeerKey) (p : Place) → free p ≡ true → hits k p ≡ false
free_misses k None e = refl
free_misses k (Some own) e = never (sym e)

-- ---- another key than the one whose entry is set shows what it showed
pub peer_aside : (k : PeerKey) (ps : List Place) (qs : List Peer) (i : ℕ) (v : Peer) (d : Place) → hits k (get_or ps i d) ≡ false
    → peer_of k ps (set qs i v) ≡ peer_of k ps qs
unfolding peer_of
peer_aside k [] qs i v d e = refl
peer_aside k (p ∷ ps) [] i v d e = refl
peer_aside k (p ∷ ps) (q ∷ qs) zero v d e = rw e
peer_aside k (p ∷ ps) (q ∷ qs) (suc i) v d e = ap (pick (hits k p) (Some q)) (peer_aside k ps qs i v d e)

place_aside : (k : PeerKey) (ps : List Place) (qs : List Peer) (i : ℕ) (p d : Place) → hits k (get_or ps i d) ≡ false → hits k p ≡ false
    → peer_of k (set ps i p) qs ≡ peer_of k ps qs
unfolding peer_of
place_aside k [] qs i p d e n = refl
place_aside k (x ∷ ps) [] zero p d e n = refl
place_aside k (x ∷ ps) [] (suc i) p d e n = refl
place_aside k (x ∷ ps) (q ∷ qs) zero p d e n = rw (e, n)
place_aside k (x ∷ ps) (q ∷ qs) (suc i) p d e n = ap (pick (hits k x) (Some q)) (place_aside k ps qs i p d e n)

pub entry_aside : (k : PeerKey) (ps : List Place) (qs : List Peer) (i : ℕ) (p d : Place) (v : Peer) → hits k (get_or ps i d) ≡ false → hits k p ≡ false
    → peer_of k (set ps i p) (set qs i v) ≡ peer_of k ps qs
entry_aside k ps qs i p d v e n = place_aside k ps (set qs i v) i p d e n ∙ peer_aside k ps qs i v d e

-- where another key stands, and where no one does, k does not
pub other_misses : (k other : PeerKey) (ps : List Place) (d : Place) → same_key k other ≡ false → first (hits k) ps < length ps
    → hits other (get_or ps (first (hits k) ps) d) ≡ false
other_misses k other ps d n h = hits_same k other (get_or ps (first (hits k) ps) d) (found_passes (hits k) ps d h) ∙ n

pub free_misses_at : (k : PeerKey) (ps : List Place) (d : Place) → first free ps < length ps → hits k (get_or ps (first free ps) d) ≡ false
free_misses_at k ps d h = free_misses k (get_or ps (first free ps) d) (found_passes free ps d h)

-- ---- the key itself
pub absent : (k : PeerKey) (ps : List Place) → length ps ≤ first (hits k) ps → Absent k ps
unfolding first Absent
absent k [] h = tt
absent k (p ∷ ps) h =
    by_test (hits k p) (λ e. absurd (let w : ⊥ = let z = rw e at h in omega arith in w))
    (λ e. (e, absent k ps (let z = rw e at h in omega arith)))

pub absent_first : (k : PeerKey) (ps : List Place) → Absent k ps → first (hits k) ps ≡ length ps
unfolding first Absent
absent_first k [] a = refl
absent_first k (p ∷ ps) a = rw a.0 (ap suc (absent_first k ps a.1))

pub absent_shows : (k : PeerKey) (ps : List Place) (qs : List Peer) → Absent k ps → peer_of k ps qs ≡ None
unfolding Absent peer_of
absent_shows k [] qs a = refl
absent_shows k (p ∷ ps) [] a = refl
absent_shows k (p ∷ ps) (q ∷ qs) a = rw a.0 (absent_shows k ps qs a.1)

pub present_shows : (k : PeerKey) (ps : List Place) (qs : List Peer) (d : Peer) → length ps ≡ length qs → first (hits k) ps < length ps
    → peer_of k ps qs ≡ Some (get_or qs (first (hits k) ps) d)
unfolding first peer_of
present_shows k [] qs d l h = absurd (let w : ⊥ = omega arith in w)
present_shows k (p ∷ ps) [] d l h = absurd (let w : ⊥ = omega arith in w)
present_shows k (p ∷ ps) (q ∷ qs) d l h =
    by_test (hits k p) (λ e. rw e) (λ e. rw e (present_shows k ps qs d (omega arith) (let z = rw e at h in omega arith)))

set_there : {A : Type 0} (l : List A) (i : ℕ) (v d : A) → i < length l → get_or (set l i v) i d ≡ v
set_there [] i v d h = absurd (let w : ⊥ = omega arith in w)
set_there (x ∷ l) zero v d h = refl
set_there (x ∷ l) (suc i) v d h = set_there l i v d (omega arith)

-- its peer is set where it stands
pub set_shows : (k : PeerKey) (ps : List Place) (qs : List Peer) (v : Peer) → length ps ≡ length qs → first (hits k) ps < length ps
    → peer_of k ps (set qs (first (hits k) ps) v) ≡ Some v
set_shows k ps qs v l h =
    present_shows k ps (set qs (first (hits k) ps) v) v (l ∙ sym (length-set qs (first (hits k) ps) v)) h
    ∙ ap Some (set_there qs (first (hits k) ps) v v (omega arith))

-- it comes up again where it stands: the place is the same
pub same_place : (k : PeerKey) (ps : List Place) → set ps (first (hits k) ps) (used_by k) ≡ ps
unfolding first
same_place k [] = refl
same_place k (p ∷ ps) =
    by_test (hits k p) (λ e. rw e (ap (λ (x : Place). x ∷ ps) (sym (hits_is k p e))))
    (λ e. rw e (ap (λ (l : List Place). p ∷ l) (same_place k ps)))

-- it enters at a place where no place was its own
pub new_shows : (k : PeerKey) (ps : List Place) (qs : List Peer) (i : ℕ) (v : Peer) → length ps ≡ length qs → i < length ps → Absent k ps
    → peer_of k (set ps i (used_by k)) (set qs i v) ≡ Some v
unfolding peer_of Absent
new_shows k [] qs i v l h a = absurd (let w : ⊥ = omega arith in w)
new_shows k (p ∷ ps) [] i v l h a = absurd (let w : ⊥ = omega arith in w)
new_shows k (p ∷ ps) (q ∷ qs) zero v l h a = rw (key_self k)
new_shows k (p ∷ ps) (q ∷ qs) (suc i) v l h a = rw a.0 (new_shows k ps qs i v (omega arith) (omega arith) a.1)

-- it goes from the one place that it used
pub gone_absent : (k : PeerKey) (ps : List Place) → Once ps → Absent k (set ps (first (hits k) ps) free_place)
unfolding first Absent Once
gone_absent k [] o = tt
gone_absent k (p ∷ ps) o = by_test (hits k p) (λ e. rw e (refl, o.0 k e)) (λ e. rw e (e, gone_absent k ps o.1))

-- ---- no key twice
absent_set : (k : PeerKey) (ps : List Place) (i : ℕ) (p : Place) → hits k p ≡ false → Absent k ps → Absent k (set ps i p)
unfolding Absent
absent_set k [] i p e a = tt
absent_set k (x ∷ ps) zero p e a = (e, a.1)
absent_set k (x ∷ ps) (suc i) p e a = (a.0, absent_set k ps i p e a.1)

pub new_once : (k : PeerKey) (ps : List Place) (i : ℕ) → Absent k ps → Once ps → Once (set ps i (used_by k))
unfolding Absent Once
new_once k [] i a o = tt
new_once k (p ∷ ps) zero a o = ((λ other s. rw (← keys_equal k other s) a.1), o.1)
new_once k (p ∷ ps) (suc i) a o = (
  (λ other s.
      absent_set other ps i (used_by k)
      (by_test (same_key k other) (λ t. never (sym s ∙ rw (← keys_equal k other t) a.0)) (λ t. t))
      (o.0 other s)),
  new_once k ps i a.1 o.1,
)

pub gone_once : (ps : List Place) (i : ℕ) → Once ps → Once (set ps i free_place)
unfolding Once
gone_once [] i o = tt
gone_once (p ∷ ps) zero o = ((λ k s. never (sym s)), o.1)
gone_once (p ∷ ps) (suc i) o = ((λ k s. absent_set k ps i free_place refl (o.0 k s)), gone_once ps i o.1)

-- ---- how many places are used
pub used_le : (ps : List Place) → used ps ≤ length ps
unfolding used
used_le [] = omega arith
used_le (p ∷ ps) = let rest = used_le ps in by_test (free p) (λ e. rw e (omega arith)) (λ e. rw e (omega arith))

pub room : (ps : List Place) → first free ps < length ps → used ps < length ps
unfolding first used
room [] h = h
room (p ∷ ps) h =
    by_test (free p) (λ e. let rest = used_le ps in rw e (omega arith))
    (λ e. let rest = room ps (let z = rw e at h in omega arith) in rw e (omega arith))

pub full : (ps : List Place) → length ps ≤ first free ps → used ps ≡ length ps
unfolding first used
full [] h = refl
full (p ∷ ps) h =
    by_test (free p) (λ e. absurd (let w : ⊥ = let z = rw e at h in omega arith in w))
    (λ e. let rest = full ps (let z = rw e at h in omega arith) in rw e (omega arith))

pub new_used : (k : PeerKey) (ps : List Place) → first free ps < length ps → used (set ps (first free ps) (used_by k)) ≡ used ps + 1
unfolding first used
new_used k [] h = absurd (let w : ⊥ = omega arith in w)
new_used k (p ∷ ps) h =
    by_test (free p) (λ e. rw e (omega arith)) (λ e. let rest = new_used k ps (let z = rw e at h in omega arith) in rw (e, e) (omega arith))

pub gone_used : (k : PeerKey) (ps : List Place) → first (hits k) ps < length ps → used (set ps (first (hits k) ps) free_place) + 1 ≡ used ps
unfolding first used
gone_used k [] h = absurd (let w : ⊥ = omega arith in w)
gone_used k (p ∷ ps) h =
    by_test (hits k p) (λ e. rw (e, hits_taken k p e) (omega arith))
    (λ e.
    let rest = gone_used k ps (let z = rw e at h in omega arith) in
    by_test (free p) (λ u. rw (e, u) rest) (λ u. rw (e, u) (omega arith)))
