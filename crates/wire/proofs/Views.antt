-- What a view shows. Assumes nothing.
use mathlib.Core.Path.{◌≡◌, refl}
use mathlib.Core.Bool.{Bool, true, false}
use mathlib.Core.List.{List, []}
use Prim.Native.Nat.{ℕ, zero, suc, ◌+◌, ◌≤◌, ◌<◌}
use native.Mathlib.Omega.{arith}
use borrow.Author.Tests.{le-leb, lt-leb, leb-false}
use lib.Dec.{lit<}
use lib.ListN.{length, take, drop, replicate, length-take, length-drop, length-replicate}
use lib.Seq.{length-take-le}
use Rattle.wire.specs.Bytes.{pick, Bytes, none, more, Octets}
use Rattle.wire.specs.View.{inside, viewed}
use Rattle.wire.specs.declared.View.{View}
use Rattle.wire.proofs.Bytes.{bytes_take, bytes_drop}

pub inside_is : (room : ℕ) (v : View) → v.place + v.length ≤ room → inside room v ≡ true
inside_is room v h = le-leb (v.place + v.length) room h

pub outside_is : (room : ℕ) (v : View) → room < v.place + v.length → inside room v ≡ false
outside_is room v h = lt-leb (v.place + v.length) room h

pub length_part : (b : List ℕ) (p n : ℕ) → p + n ≤ length b → length (take n (drop p b)) ≡ n
length_part b p n h = length-take-le n (drop p b) (simp length-drop (omega arith))

pub viewed_inside : (b : List ℕ) (v : View) → v.place + v.length ≤ length b → viewed b v ≡ take v.length (drop v.place b)
viewed_inside b v h = rw (inside_is (length b) v h)

pub viewed_none : (b : List ℕ) (v : View) → length b < v.place + v.length → viewed b v ≡ []
viewed_none b v h = rw (outside_is (length b) v h)

-- a view shows its part, where that part is as long as the view says
pub viewed_part : (b : List ℕ) (v : View) → length (take v.length (drop v.place b)) ≡ v.length
    → viewed b v ≡ take v.length (drop v.place b)
viewed_part b v e = go (inside (length b) v) refl
  where
    go : (c : Bool) → inside (length b) v ≡ c → pick c (take v.length (drop v.place b)) [] ≡ take v.length (drop v.place b)
    go true h = refl
    go false h =
        let d = length-drop v.place b in
        let m = length-take v.length (drop v.place b) in
        let x = leb-false (v.place + v.length) (length b) h in
        let z : v.length ≡ 0 = omega arith in
        rw z

pub bytes_viewed : (b : List ℕ) (v : View) → Bytes b → Bytes (viewed b v)
bytes_viewed b v p = go (inside (length b) v)
  where
    go : (c : Bool) → Bytes (pick c (take v.length (drop v.place b)) [])
    go true = bytes_take v.length (bytes_drop v.place p)
    go false = none

-- ---- n bytes: a part of some bytes, zeros
pub octets_part : {s : List ℕ} → Bytes s → (at n : ℕ) → at + n ≤ length s → Octets n (take n (drop at s))
octets_part {s} p at n h = record { many = length_part s at n h; are_bytes = bytes_take n (bytes_drop at p) }

pub octets_zeros : (n : ℕ) → Octets n (replicate n 0)
octets_zeros n = record { many = length-replicate n 0; are_bytes = go n }
  where
    go : (n : ℕ) → Bytes (replicate n 0)
    go zero = none
    go (suc n) = more (lit< tt) (go n)
