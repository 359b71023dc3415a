-- Bytes put one after the other. Assumes nothing.
use mathlib.Core.Path.{◌≡◌, refl, sym, ap, ap₂, ◌∙◌}
use mathlib.Core.Bool.{Bool, true, false}
use mathlib.Core.List.{List, [], ◌∷◌, ◌++◌}
use Prim.Native.Nat.{ℕ, suc, ◌+◌, ◌-◌, ◌/◌, ◌%◌, ◌^◌, ◌≤◌, ◌<◌}
use native.Mathlib.Omega.{arith}
use native.Mathlib.Nat.{add-zero}
use borrow.Author.Tests.{le-leb, lt-leb}
use lib.ListN.{length, set, length-append}
use lib.Seq.{sets, length-sets}
use Rattle.wire.specs.Bytes.{pick, has, be}
use Rattle.writing.specs.Write.{put_at, tlv_bytes}
use Rattle.wire.proofs.Bytes.{length_be, be_split}

pub sets_append : (a b l : List ℕ) (i : ℕ) → sets l i (a ++ b) ≡ sets (sets l i a) (i + length a) b
sets_append [] b l i = rw (add-zero i)
sets_append (x ∷ a) b l i =
    let e : suc i + length a ≡ i + suc (length a) = omega arith in
    sets_append a b (set l i x) (suc i) ∙ ap (λ (k : ℕ). sets (sets (set l i x) (suc i) a) k b) e

-- ---- a put that fits, and one that does not
pub put_fits : (l : List ℕ) (at : ℕ) (b : List ℕ) → length b ≤ length l - at → put_at l at b ≡ sets l at b
put_fits l at b h = rw (le-leb (length b) (length l - at) h)

pub put_nothing : (l : List ℕ) (at : ℕ) (b : List ℕ) → length l - at < length b → put_at l at b ≡ l
put_nothing l at b h = rw (lt-leb (length b) (length l - at) h)

pub length_put : (l : List ℕ) (at : ℕ) (b : List ℕ) → length (put_at l at b) ≡ length l
length_put l at b = go (has (length b) l at)
  where
    go : (c : Bool) → length (pick c (sets l at b) l) ≡ length l
    go true = length-sets l at b
    go false = refl

-- two puts that fit, one after the other, put both
pub put_then : (l p q : List ℕ) (at k : ℕ) (a b : List ℕ) → length a + length b ≤ length l - at
    → p ≡ put_at l at a → k ≡ at + length a → q ≡ put_at p k b → q ≡ put_at l at (a ++ b)
put_then l p q at k a b h e f g =
    let x : p ≡ sets l at a = e ∙ put_fits l at a (omega arith) in
    let long : length p ≡ length l = ap length x ∙ length-sets l at a in
    let y : put_at p k b ≡ sets p k b = put_fits p k b (omega arith) in
    let z : length (a ++ b) ≤ length l - at = rw (length-append a b) h in
    g ∙ y ∙ ap₂ (λ (o : List ℕ) (j : ℕ). sets o j b) x f ∙ sym (sets_append a b l at) ∙ sym (put_fits l at (a ++ b) z)

-- ---- the bytes of a number, put in two halves
pub put_halves : (w v n : ℕ) → n < 256 ^ (w + v) → (l p q : List ℕ) (at : ℕ) → w + v ≤ length l - at
    → p ≡ put_at l at (be w (n / 256 ^ v)) → q ≡ put_at p (at + w) (be v (n % 256 ^ v)) → q ≡ put_at l at (be (w + v) n)
put_halves w v n fits l p q at h e f =
    let a = be w (n / 256 ^ v) in
    let b = be v (n % 256 ^ v) in
    let ha : length a ≡ w = length_be w (n / 256 ^ v) in
    let hb : length b ≡ v = length_be v (n % 256 ^ v) in
    put_then l p q at (at + w) a b (omega arith) e (omega arith) f ∙ ap (put_at l at) (sym (be_split w v n fits))

-- ---- a TLV, put in three parts
pub length_tlv : (kind size : ℕ) (v : List ℕ) → length (tlv_bytes kind size v) ≡ 4 + length v
length_tlv kind size v = simp (length-append, length_be) (omega arith)

pub put_three : (kind size : ℕ) (v l p q r : List ℕ) (at : ℕ) → 4 + length v ≤ length l - at
    → p ≡ put_at l at (be 2 kind) → q ≡ put_at p (at + 2) (be 2 size) → r ≡ put_at q (at + 4) v → r ≡ put_at l at (tlv_bytes kind size v)
put_three kind size v l p q r at h e f g =
    let a = length_be 2 kind in
    let b = length_be 2 size in
    let long : length p ≡ length l = ap length (e ∙ put_fits l at (be 2 kind) (omega arith)) ∙ length-sets l at (be 2 kind) in
    let n : length (be 2 size ++ v) ≡ 2 + length v = length-append (be 2 size) v ∙ omega arith in
    put_then l p r at (at + 2) (be 2 kind) (be 2 size ++ v) (omega arith) e (omega arith)
    (put_then p q r (at + 2) (at + 4) (be 2 size) v (omega arith) f (omega arith) g)
