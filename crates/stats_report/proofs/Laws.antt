-- What the walk kit asks of a Statistics body. Assumes nothing.
use mathlib.Core.Path.{◌≡◌, refl, sym, ap, ◌∙◌, subst}
use mathlib.Core.Bool.{Bool, true, false}
use mathlib.Core.List.{List, ◌++◌}
use Prim.Native.Nat.{ℕ, ◌-◌, ◌≤◌, ◌<◌}
use native.Mathlib.Omega.{arith}
use borrow.Author.Tests.{le-ltb, le-leb}
use lib.Dec.{ltb}
use lib.ListN.{length, drop}
use Rattle.std.specs.declared.result.Result.TheVariants.{Ok, Err}
use Rattle.wire.specs.Number as Number
use Rattle.wire.specs.Bytes.{pick, has, num_at, be}
use Rattle.wire.specs.Refusal.{refusal, cut_at}
use Rattle.wire.specs.Tlv.{Tlv, put_tlv, GoodTlv}
use Rattle.wire.specs.TlvAt.{tlv_of}
use Rattle.wire.specs.Walk.{item, read_from}
use Rattle.cursor.specs.declared.Cursor.{Cursor}
use Rattle.cursor.specs.Read.{cursor}
use Rattle.cursor.proofs.Reading.{Was}
use Rattle.wire.proofs.Tlv.{tlv_length, tlv_there, tlv_join, tlv_rest, tlv_parts}
use Rattle.wire.proofs.Walk.{Takes, Faults, Never, Laws}
use Rattle.stats_data.proofs.Values.{value_back, value_forth}
use Rattle.stats_report.specs.Grammar.{Stat, as_tlv, put_stat, GoodStat, size_of}
use Rattle.stats_report.specs.Shown.{refused_answer}
use Rattle.stats_report.specs.Read.{as_stat, kit, answer, Count, count_of, read_stats}
use Rattle.stats_report.proofs.Steps.{whole, see, of, found, no_stop, is_fault}

pub faults : Faults kit
faults s r e = is_fault s r (see s) e

pub never : Never kit
never s e = no_stop s (see s) e

pub takes : Takes kit
takes s t e =
    let f = found s t (see s) e in
    subst (λ (u : Stat). (0 < size_of u) × (size_of u ≤ length s)) f.is (omega (arith, f.long, f.there))

-- a record is the TLV that it is laid out as, both ways
as-stat : (t : Stat) (r : List ℕ) → GoodStat t r → as_stat (as_tlv t) ≡ t
as-stat t r g =
    let value-is = value_forth t.size t.value g.value_good g.well_formed.size_is in
    λ i. record { kind = t.kind; size = t.size; value = value-is i }

good_stat : (u : Tlv) (r : List ℕ) → GoodTlv u → GoodStat (as_stat u) r × (as_tlv (as_stat u) ≡ u)
good_stat u r g =
    let b = value_back u.size u.value g.value-bytes g.size_is in
    let e : as_tlv (as_stat u) ≡ u = λ i. record { kind = u.kind; size = u.size; value = b.bytes_are i } in
    (record { well_formed = subst GoodTlv (sym e) g; value_good = b.is_good }, e)

pub laws : Laws kit put_stat GoodStat
laws =
    record {
      takes = takes;
      forth = λ t r g. (
        of (put_stat t r) (whole (omega (arith, tlv_length (as_tlv t) r g.well_formed)) (tlv_there (as_tlv t) r g.well_formed))
            ∙ ap item (ap as_stat (tlv_join (as_tlv t) r g.well_formed) ∙ as-stat t r g),
        tlv_rest (as_tlv t) r g.well_formed,
      );
      back = λ s p t e.
          let f = found s t (see s) e in
          let b = tlv_parts s p f.long f.there in
          let r = drop (size_of (as_stat (tlv_of s))) s in
          let g = good_stat (tlv_of s) r b.0 in
          subst (λ (u : Stat). GoodStat u (drop (size_of u) s) × (put_stat u (drop (size_of u) s) ≡ s)) f.is
          (g.0, ap (λ (u : Tlv). put_tlv u r) g.1 ∙ b.1);
    }

-- ---- the records behind the count
module _ (s : List ℕ) where
  -- where the count was read, they are what the walk finds, which asks once more whether the input is too long
  pub records : (total : ℕ) (c : Cursor) → count_of s ≡ Ok (total, c)
      → pick (ltb Number.limit (length s)) (refused_answer (refusal Number.TooLong 0)) (answer total (read_from kit total c.at s)) ≡ read_stats s
  records total c e = go (ltb Number.limit (length s)) (has 4 s 0) e
    where
      go : (a b : Bool)
          → ◌≡◌ {A = Count} (pick a (Err (refusal Number.TooLong 0)) (pick b (Ok (num_at 4 s 0, cursor 4)) (Err (cut_at (length s) 0 4)))) (Ok (total, c))
          → pick a (refused_answer (refusal Number.TooLong 0)) (answer total (read_from kit total c.at s))
          ≡ pick a (refused_answer (refusal Number.TooLong 0)) (pick b (answer (num_at 4 s 0) (read_from kit (num_at 4 s 0) 4 s)) (refused_answer (cut_at (length s) 0 4)))
      go true b q = refl
      go false true q =
          let both : ◌≡◌ {A = ℕ × Cursor} (total, c) (num_at 4 s 0, cursor 4) = cc in
          λ i. answer ((both i).0) (read_from kit ((both i).0) ((both i).1.at) s)
      go false false q = absurd cc

  pub counted : length s ≤ Number.limit → (total : ℕ) (c : Cursor) → Was 4 s 0 total c → read_stats s ≡ answer total (read_from kit total c.at s)
  counted short total c w =
      rw (le-ltb Number.limit (length s) short, le-leb 4 (length s - 0) w.left)
      (λ i. answer (sym w.number i) (read_from kit (sym w.number i) (sym w.next i) s))

-- what stands behind the count
pub behind : (n k : ℕ) (x y : List ℕ) → be 4 n ++ x ≡ be 4 k ++ y → x ≡ y
unfolding be
behind n k x y e = ap (drop 4) e
