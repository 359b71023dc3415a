-- The reader and the grammar: an input taken apart and joined again, both ways. Assumes nothing.
use Prim.Native.Nat.{ℕ, suc, ◌+◌, ◌≤◌}
use mathlib.Core.Bool.{Bool, true, false}
use mathlib.Core.Path.{◌≡◌, refl, sym, ap, ◌∙◌, subst}
use mathlib.Core.List.{List, ◌++◌}
use native.Mathlib.Omega.{arith}
use borrow.Author.Tests.{ltb-true, ltb-false, le-ltb}
use lib.Dec.{ltb}
use lib.ListN.{length, take, drop, length-append}
use lib.Seq.{take_at, drop_at, drop-drop}
use Rattle.wire.specs.Number as Number
use Rattle.wire.specs.Bytes.{pick, be, value, num_at, number_at, Bytes}
use Rattle.wire.specs.Refusal.{refusal}
use Rattle.wire.proofs.Bytes.{value_be, num_lt, num_back, part_back}
use Rattle.layout.specs.Layout.{cut_in}
use Rattle.layout.proofs.Cuts.{cut_number}
use Rattle.per_peer_header.specs.Grammar.{widths, Reading, address_bytes, as_bytes, join, Good}
use Rattle.per_peer_header.specs.Shown.{shown, refused, refusal_of}
use Rattle.per_peer_header.specs.Read.{address_field, as_field, parts_of, read_per_peer_header}
use Rattle.per_peer_header.proofs.Fields.{there, length_address, length_as, number_of, value_as, address-bytes, as-bytes, fields_back, layout_known}

-- ---- joined, then taken apart
module _ (r : Reading) (g : Good r) where
  pub length_join : length (join r) ≡ 42 + length r.tail
  unfolding be
  length_join =
      let rest = be 4 r.id ++ (be 4 r.seconds ++ (be 4 r.microseconds ++ r.tail)) in
      let a = length-append (address_bytes r.address) (as_bytes r.asn ++ rest) in
      let b = length-append (as_bytes r.asn) rest in
      omega (arith, length_address r.address g.address-fits, length_as r.asn)

  pub parts_join : parts_of (join r) ≡ r
  unfolding be
  parts_join =
      let s = join r in
      let rest = be 4 r.id ++ (be 4 r.seconds ++ (be 4 r.microseconds ++ r.tail)) in
      let field = address_bytes r.address in
      let behind = as_bytes r.asn ++ rest in
      let sixteen = length_address r.address g.address-fits in
      let at26 : drop 26 s ≡ behind = drop_at field behind 16 sixteen in
      let at30 : drop 30 s ≡ rest = sym (drop-drop 4 26 s) ∙ ap (drop 4) at26 ∙ drop_at (as_bytes r.asn) rest 4 (length_as r.asn) in
      let past : (n : ℕ) → drop (30 + n) s ≡ drop n rest = λ n. sym (drop-drop n 30 s) ∙ ap (drop n) at30 in
      let word : List ℕ → ℕ = λ l. value (take 4 l) in
      let kind_is : num_at 1 s 0 ≡ r.kind = value_be 1 r.kind (omega (arith, layout_known g.layout)) in
      let flags-is : num_at 1 s 1 ≡ r.flags = value_be 1 r.flags g.flags_fit in
      let address_is : take 16 (drop 10 s) ≡ field = take_at field behind 16 sixteen in
      let asn_is : num_at 4 s 26 ≡ number_of r.asn =
      ap word at26 ∙ ap value (take_at (as_bytes r.asn) rest 4 (length_as r.asn)) ∙ value_as r.asn g.asn_fits in
      let fields = fields_back r.kind r.flags g.layout g.address-fits g.asn_fits in
      let address-back = (λ i. address_field (kind_is i) (flags-is i) (address_is i)) ∙ fields.0 in
      let asn-back = (λ i. as_field (kind_is i) (flags-is i) (asn_is i)) ∙ fields.1 in
      let id-is : num_at 4 s 30 ≡ r.id = ap word at30 ∙ value_be 4 r.id g.id_fits in
      let seconds-is : num_at 4 s 34 ≡ r.seconds = ap word (past 4) ∙ value_be 4 r.seconds g.seconds_fit in
      let microseconds-is : num_at 4 s 38 ≡ r.microseconds = ap word (past 8) ∙ value_be 4 r.microseconds g.microseconds_fit in
      λ i. record {
        kind = kind_is i;
        flags = flags-is i;
        distinguisher = value_be 8 r.distinguisher g.distinguisher_fits i;
        address = address-back i;
        asn = asn-back i;
        id = id-is i;
        seconds = seconds-is i;
        microseconds = microseconds-is i;
        tail = past 12 i;
      }

-- ---- taken apart, then joined
pub join_parts : {s : List ℕ} → Bytes s → 42 ≤ length s → join (parts_of s) ≡ s
join_parts {s} p h =
    rw (
      address-bytes (num_at 1 s 0) (num_at 1 s 1) (take 16 (drop 10 s)),
      as-bytes (num_at 1 s 0) (num_at 1 s 1) (num_at 4 s 26) (num_lt 4 26 p),
      num_back 4 38 p (omega arith),
      num_back 4 34 p (omega arith),
      num_back 4 30 p (omega arith),
      num_back 4 26 p (omega arith),
      part_back 16 s 10,
      num_back 8 2 p (omega arith),
      num_back 1 1 p (omega arith),
    )
    (num_back 1 0 p (omega arith))

-- ---- what the reader accepts
pub record Accepted (s : List ℕ) : Type 0 where
  pub short : length s ≤ Number.limit
  pub long : 42 ≤ length s
  pub known : num_at 1 s 0 ≤ 3

pub accepted : (s : List ℕ) → (refusal_of (read_per_peer_header s)).number ≡ Number.Good → Accepted s
accepted s e = go (ltb Number.limit (length s)) refl (ltb 3 (number_at 1 s 0)) refl (ltb (length s) 42) refl e
  where
    no : {k : ℕ} → suc k ≡ 0 → Accepted s
    no q = absurd (omega arith)

    go : (a : Bool) → ltb Number.limit (length s) ≡ a → (b : Bool) → ltb 3 (number_at 1 s 0) ≡ b → (c : Bool) → ltb (length s) 42 ≡ c
        → (refusal_of (pick a (refused (refusal Number.TooLong 0)) (pick b (refused (refusal Number.UnknownKind 0))
        (pick c (refused (cut_in widths 0 (length s))) (shown (parts_of s)))))).number ≡ Number.Good
        → Accepted s
    go true ha b hb c hc q = no q
    go false ha true hb c hc q = no q
    go false ha false hb true hc q =
        absurd (omega (arith, cut_number widths 0 (length s) (omega arith) (ltb-true (length s) 42 hc), q))
    go false ha false hb false hc q =
        let long = ltb-false (length s) 42 hc in
        record {
          short = ltb-false Number.limit (length s) ha;
          long = long;
          known = subst (λ (n : ℕ). n ≤ 3) (there s long 1 0 (omega arith)) (ltb-false 3 (number_at 1 s 0) hb);
        }

-- and how it shows it
pub shows_parts : (s : List ℕ) → Accepted s → read_per_peer_header s ≡ shown (parts_of s)
shows_parts s a =
    let known : number_at 1 s 0 ≤ 3 = subst (λ (n : ℕ). n ≤ 3) (sym (there s a.long 1 0 (omega arith))) a.known in
    rw (le-ltb Number.limit (length s) a.short, le-ltb 3 (number_at 1 s 0) known, le-ltb (length s) 42 a.long)
