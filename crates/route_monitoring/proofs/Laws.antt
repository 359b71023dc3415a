-- The reader and the grammar: an input taken apart and joined again, both ways. Assumes nothing.
use mathlib.Core.Path.{◌≡◌, refl, sym, ap, ◌∙◌}
use mathlib.Core.Bool.{Bool, true, false}
use mathlib.Core.List.{List, ◌++◌}
use Prim.Native.Nat.{ℕ, suc, ◌+◌, ◌≤◌}
use native.Mathlib.Omega.{arith}
use borrow.Author.Tests.{ltb-false, le-ltb}
use lib.Dec.{ltb}
use lib.ListN.{length, take, drop, length-append}
use lib.Seq.{take_at, drop_at, drop-drop}
use Rattle.wire.specs.Number as Number
use Rattle.wire.specs.Bytes.{pick, be, value, num_at, Bytes}
use Rattle.wire.specs.Refusal.{refusal, cut_at}
use Rattle.wire.proofs.Bytes.{value_be, num_lt, num_back, part_back, bytes_drop}
use Rattle.wire.proofs.Views.{octets_part}
use Rattle.models.specs.declared.AsnLength.{AsnLength}
use Rattle.per_peer_type.specs.declared.BmpPeerType.{BmpPeerType}
use Rattle.route_monitoring.specs.Grammar.{Reading, join, Good}
use Rattle.std.specs.declared.result.Result.TheVariants.{Err}
use Rattle.route_monitoring.specs.Shown.{good_of, refusal_of}
use Rattle.route_monitoring.specs.Told.{parts_of}
use Rattle.route_monitoring.specs.Read.{read_route_monitoring}

-- ---- joined, then taken apart
module _ (r : Reading) (g : Good r) where
  pub length_join : length (join r) ≡ 19 + length r.rest
  unfolding be
  length_join = length-append r.marker (be 2 r.size ++ (be 1 r.kind ++ r.rest)) ∙ omega (arith, g.marker_fits.many)

  pub parts_join : parts_of (join r) ≡ r
  unfolding be
  parts_join =
      let behind = be 2 r.size ++ (be 1 r.kind ++ r.rest) in
      let at16 : drop 16 (join r) ≡ behind = drop_at r.marker behind 16 g.marker_fits.many in
      let past : (n : ℕ) → drop (16 + n) (join r) ≡ drop n behind = λ n. sym (drop-drop n 16 (join r)) ∙ ap (drop n) at16 in
      let size_is : num_at 2 (join r) 16 ≡ r.size = ap (λ (l : List ℕ). value (take 2 l)) at16 ∙ value_be 2 r.size g.size_fits in
      let kind_is : num_at 1 (join r) 18 ≡ r.kind = ap (λ (l : List ℕ). value (take 1 l)) (past 2) ∙ value_be 1 r.kind g.kind_fits in
      λ i. record {
        marker = take_at r.marker behind 16 g.marker_fits.many i;
        size = size_is i;
        kind = kind_is i;
        rest = past 3 i;
      }

-- ---- taken apart, then joined
module _ {s : List ℕ} (p : Bytes s) (long : 19 ≤ length s) where
  pub join_parts : join (parts_of s) ≡ s
  join_parts = rw (num_back 1 18 p (omega arith), num_back 2 16 p (omega arith)) (part_back 16 s 0)

  pub parts_good : Good (parts_of s)
  parts_good =
      record {
        marker_fits = octets_part p 0 16 (omega arith);
        size_fits = num_lt 2 16 p;
        kind_fits = num_lt 1 18 p;
        rest-bytes = bytes_drop 19 p;
      }

-- ---- what the reader accepts, and how it shows it
pub record Accepted (s : List ℕ) : Type 0 where
  pub short : length s ≤ Number.limit
  pub long : 19 ≤ length s

module _ (s : List ℕ) (width : AsnLength) (t : BmpPeerType) where
  pub accepted : (refusal_of (read_route_monitoring width t s)).number ≡ Number.Good → Accepted s
  accepted e = go (ltb Number.limit (length s)) refl (ltb (length s) 19) refl e
    where
      no : {k : ℕ} → suc k ≡ 0 → Accepted s
      no q = absurd (omega arith)

      go : (a : Bool) → ltb Number.limit (length s) ≡ a → (b : Bool) → ltb (length s) 19 ≡ b
          → (refusal_of (pick a (Err (refusal Number.TooLong 0))
          (pick b (Err (cut_at (length s) 0 19)) (good_of width t (length s))))).number ≡ Number.Good
          → Accepted s
      go true ha b hb q = no q
      go false ha true hb q = no q
      go false ha false hb q = record { short = ltb-false Number.limit (length s) ha; long = ltb-false (length s) 19 hb }

  pub shows_all : Accepted s → read_route_monitoring width t s ≡ good_of width t (length s)
  shows_all a = rw (le-ltb Number.limit (length s) a.short, le-ltb (length s) 19 a.long)
