-- Laws of the plain map: what a key finds after another was put or taken away, and how many keys there are. Assumes nothing.
use mathlib.Core.Path.{◌≡◌, refl, sym, ap, ◌∙◌}
use Prim.Native.Nat.{◌+◌}
use mathlib.Core.Bool.{true, false}
use mathlib.Core.List.{[], ◌∷◌}
use Rattle.std.specs.declared.option.Option.{Option}
use Rattle.std.specs.declared.option.Option.TheVariants.{Some, None}
use native.Mathlib.Omega.{arith}
use lib.ListN.{length}
use Rattle.wire.specs.Bytes.{pick}
use Rattle.peer_key.specs.Key.{same_key}
use Rattle.peer_key.specs.declared.PeerKey.{PeerKey}
use Rattle.peer_key.proofs.Equality.{keys_equal, key_self}
use Rattle.board.specs.Board.{Peer}
use Rattle.board.specs.Map.{Map, find, without, put, Apart, has}
use Rattle.board.proofs.Firsts.{by_test}
use Rattle.board.proofs.Entries.{never}

pub find_without : (k other : PeerKey) (m : Map) → find other (without k m) ≡ pick (same_key k other) None (find other m)
unfolding find without
find_without k other [] = by_test (same_key k other) (λ e. rw e) (λ e. rw e)
find_without k other (e ∷ m) =
    let rest = find_without k other m in
    by_test (same_key e.0 k)
    (λ s.
    by_test (same_key k other) (λ t. rw (s, t) (rw t at rest))
    (λ t. let n : same_key e.0 other ≡ false = rw (keys_equal e.0 k s) t in rw (s, t, n) (rw t at rest)))
    (λ s.
    by_test (same_key k other)
    (λ t. let n : same_key e.0 other ≡ false = rw (← keys_equal k other t) s in rw (s, t, n) (rw t at rest))
    (λ t. rw (s, t) (ap (pick (same_key e.0 other) (Some e.1)) (rw t at rest))))

pub find_put : (k other : PeerKey) (v : Peer) (m : Map) → find other (put k v m) ≡ pick (same_key k other) (Some v) (find other m)
unfolding find
find_put k other v m = by_test (same_key k other) (λ t. rw t) (λ t. rw t (find_without k other m ∙ rw t))

none_without : (k : PeerKey) (m : Map) → find k m ≡ None → without k m ≡ m
unfolding find without
none_without k [] n = refl
none_without k (e ∷ m) n =
    by_test (same_key e.0 k) (λ s. let z : has (Some e.1) ≡ has None = ap has (rw s at n) in never z)
    (λ s. rw s (ap (λ (r : Map). e ∷ r) (none_without k m (rw s at n))))

-- one key fewer, or as many
pub length_without : (k : PeerKey) (m : Map) → Apart m → has (find k m) ≡ true → length (without k m) + 1 ≡ length m
unfolding Apart find without
length_without k [] a h = never (sym h)
length_without k (e ∷ m) a h =
    by_test (same_key e.0 k)
    (λ s. let z : length (without k m) ≡ length m = ap length (none_without k m (rw (← keys_equal e.0 k s) a.0)) in rw s (omega arith))
    (λ s. let rest = length_without k m a.1 (rw s at h) in rw s (omega arith))

pub length_new : (k : PeerKey) (m : Map) → find k m ≡ None → length (without k m) ≡ length m
length_new k m n = ap length (none_without k m n)

pub apart_without : (k : PeerKey) (m : Map) → Apart m → Apart (without k m)
unfolding Apart find without
apart_without k [] a = tt
apart_without k (e ∷ m) a =
    by_test (same_key e.0 k) (λ s. rw s (apart_without k m a.1))
    (λ s. rw s ((find_without k e.0 m ∙ by_test (same_key k e.0) (λ t. rw t) (λ t. rw t a.0)), apart_without k m a.1))

pub apart_put : (k : PeerKey) (v : Peer) (m : Map) → Apart m → Apart (put k v m)
unfolding Apart
apart_put k v m a = (find_without k k m ∙ rw (key_self k), apart_without k m a)

pub not_there : (o : Option Peer) → has o ≡ false → o ≡ None
not_there None e = refl
not_there (Some q) e = never e
