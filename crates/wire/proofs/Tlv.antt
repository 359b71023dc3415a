-- TLVs and tails, joined and taken apart, both ways. Assumes nothing.
use mathlib.Core.Path.{◌≡◌, refl, sym, ap, ◌∙◌}
use mathlib.Core.List.{List}
use mathlib.Core.Logic.{◌⊎◌, inl, inr}
use Prim.Native.Nat.{ℕ, ◌+◌, ◌-◌, ◌^◌, ◌≤◌, ◌<◌}
use native.Mathlib.Omega.{arith}
use borrow.Author.Tests.{le-leb, lt-leb}
use lib.ListN.{length, take, drop, length-append, length-drop}
use lib.Seq.{take_at, drop_at, drop-drop, length-take-le}
use Rattle.wire.specs.Bytes.{be, num_at, Bytes}
use Rattle.wire.specs.View.{view, viewed}
use Rattle.wire.specs.Tlv.{Tlv, put_tlv, size_of, GoodTlv, Tail, short, oversized, put_tail, GoodTail}
use Rattle.wire.specs.TlvAt.{tlv_of, tail_of, stop_at, unread}
use Rattle.wire.proofs.Bytes.{value_be, num_lt, num_back, part_back, bytes_take, bytes_drop}
use Rattle.wire.proofs.Views.{viewed_part}

pub put_tlv_long : (t : Tlv) (r : List ℕ) → length (put_tlv t r) ≡ 4 + length t.value + length r
unfolding be
put_tlv_long t r = omega (arith, length-append t.value r)

-- ---- a good TLV in front of the bytes r
module _ (t : Tlv) (r : List ℕ) (g : GoodTlv t) where
  pub tlv_length : length (put_tlv t r) ≡ size_of t + length r
  tlv_length = omega (arith, put_tlv_long t r, g.size_is)

  tlv_size : num_at 2 (put_tlv t r) 2 ≡ t.size
  unfolding be
  tlv_size = value_be 2 t.size g.size_fits

  pub tlv_there : num_at 2 (put_tlv t r) 2 ≤ length (put_tlv t r) - 4
  tlv_there = rw tlv_size (omega (arith, tlv_length))

  pub tlv_join : tlv_of (put_tlv t r) ≡ t
  unfolding be
  tlv_join =
      let kind_is : num_at 2 (put_tlv t r) 0 ≡ t.kind = value_be 2 t.kind g.kind_fits in
      let value-is : take (num_at 2 (put_tlv t r) 2) (drop 4 (put_tlv t r)) ≡ t.value = rw tlv_size (take_at t.value r t.size g.size_is) in
      λ i. record { kind = kind_is i; size = tlv_size i; value = value-is i }

  pub tlv_rest : drop (size_of t) (put_tlv t r) ≡ r
  unfolding be
  tlv_rest = sym (drop-drop t.size 4 (put_tlv t r)) ∙ drop_at t.value r t.size g.size_is

  -- the view of its value, where it starts at a place of s, shows the value
  pub tlv_viewed : (s : List ℕ) (at : ℕ) → drop at s ≡ put_tlv t r → viewed s (view (at + 4) t.size) ≡ t.value
  unfolding be
  tlv_viewed s at e =
      let part : take t.size (drop (at + 4) s) ≡ t.value = rw (← drop-drop 4 at s, e) (take_at t.value r t.size g.size_is) in
      viewed_part s (view (at + 4) t.size) (ap length part ∙ g.size_is) ∙ part

-- ---- bytes that begin with a whole TLV
pub tlv_parts : (s : List ℕ) → Bytes s → 4 ≤ length s → num_at 2 s 2 ≤ length s - 4
    → GoodTlv (tlv_of s) × (put_tlv (tlv_of s) (drop (size_of (tlv_of s)) s) ≡ s)
tlv_parts s p h k = (
  record {
    kind_fits = num_lt 2 0 p;
    size_fits = num_lt 2 2 p;
    size_is = length-take-le (num_at 2 s 2) (drop 4 s) (simp length-drop k);
    value-bytes = bytes_take (num_at 2 s 2) (bytes_drop 4 p);
  },
  rw (part_back (num_at 2 s 2) s 4, num_back 2 2 p (omega arith)) (num_back 2 0 p (omega arith)),
)

-- ---- where no TLV is read: at most 4 bytes, or a length that says more than there is
abbrev pub NoTlv : List ℕ → Type 0
NoTlv s = (length s ≤ 4) ⊎ ((4 < length s) × (length s - 4 < num_at 2 s 2))

pub tail_none : (t : Tail) → GoodTail t → NoTlv (put_tail t)
unfolding be
tail_none (short z) g = inl g.0
tail_none (oversized kind size z) g =
    let size_is : num_at 2 (put_tail (oversized kind size z)) 2 ≡ size = value_be 2 size g.size_fits in
    inr (omega (arith, g.some), rw size_is (omega (arith, g.too_few)))

pub tail_join : (t : Tail) → GoodTail t → tail_of (put_tail t) ≡ t
unfolding be
tail_join (short z) g = rw (le-leb (length z) 4 g.0)
tail_join (oversized kind size z) g =
    let s = put_tail (oversized kind size z) in
    let kind_is : num_at 2 s 0 ≡ kind = value_be 2 kind g.kind_fits in
    let size_is : num_at 2 s 2 ≡ size = value_be 2 size g.size_fits in
    rw (lt-leb (length s) 4 (omega (arith, g.some))) (λ i. oversized (kind_is i) (size_is i) z)

pub tail_parts : (s : List ℕ) → Bytes s → NoTlv s → GoodTail (tail_of s) × (put_tail (tail_of s) ≡ s)
tail_parts s p (inl h) = rw (le-leb (length s) 4 h) ((h, p), refl)
tail_parts s p (inr h) =
    rw (lt-leb (length s) 4 h.0) (
      record {
        kind_fits = num_lt 2 0 p;
        size_fits = num_lt 2 2 p;
        some = simp length-drop (omega (arith, h.0));
        too_few = simp length-drop h.1;
        are_bytes = bytes_drop 4 p;
      },
      rw (num_back 2 2 p (omega (arith, h.0))) (num_back 2 0 p (omega (arith, h.0))),
    )

-- where the tail starts at a place of s, what follows the stop is what was not read of it
pub stop_behind : (s : List ℕ) (at : ℕ) (t : Tail) → drop at s ≡ put_tail t → drop (stop_at at t) s ≡ unread t
unfolding be
stop_behind s at (short z) e = e
stop_behind s at (oversized kind size z) e = sym (drop-drop 4 at s) ∙ ap (drop 4) e

-- ---- a TLV whose value is a number of two bytes, whatever its length says
pub record Coded (kind size code : ℕ) (s : List ℕ) : Type 0 where
  pub kind_is : num_at 2 s 0 ≡ kind
  pub size_is : num_at 2 s 2 ≡ size
  pub code_is : num_at 2 s 4 ≡ code

pub coded_join : (kind size code : ℕ) (r : List ℕ) → kind < 256 ^ 2 → size < 256 ^ 2 → code < 256 ^ 2
    → Coded kind size code (put_tlv (record { kind = kind; size = size; value = be 2 code }) r)
unfolding be
coded_join kind size code r k z c = record { kind_is = value_be 2 kind k; size_is = value_be 2 size z; code_is = value_be 2 code c }

pub coded_length : (kind size code : ℕ) (r : List ℕ) → length (put_tlv (record { kind = kind; size = size; value = be 2 code }) r) ≡ 6 + length r
unfolding be
coded_length kind size code r = omega arith

pub coded_rest : (kind size code : ℕ) (r : List ℕ) → drop 6 (put_tlv (record { kind = kind; size = size; value = be 2 code }) r) ≡ r
unfolding be
coded_rest kind size code r = refl

pub coded_parts : {s : List ℕ} → Bytes s → 6 ≤ length s
    → put_tlv (record { kind = num_at 2 s 0; size = num_at 2 s 2; value = be 2 (num_at 2 s 4) }) (drop 6 s) ≡ s
coded_parts p h = rw (num_back 2 4 p (omega arith), num_back 2 2 p (omega arith)) (num_back 2 0 p (omega arith))
