-- No record is refused that would be read back as itself, where its views lie inside the buffer and its information has length 2.
-- Assumes nothing.
use mathlib.Core.Path.{◌≡◌, sym, ◌∙◌, subst}
use mathlib.Core.Bool.{true}
use mathlib.Core.List.{List, [], ◌∷◌, ◌++◌}
use Prim.Native.Nat.{ℕ, zero, suc, ◌+◌, ◌-◌, ◌≤◌, ◌<◌}
use native.Mathlib.Omega.{arith}
use borrow.Author.Tests.{le-ltb}
use lib.ListN.{length, get_or, replicate}
use Rattle.wire.specs.Parts.{EachGood, AllAt, shown_from}
use Rattle.wire.specs.Exactly.{Shows}
use Rattle.route_mirroring.specs.Read.{reader}
use Rattle.writing.proofs.Trip.{table_good, table_fine}
use Rattle.tlv_table.proofs.Written.{good_part}
use Rattle.route_mirroring.specs.Grammar.{Tlv, bgp_message, information, put, Reading, join, ReadTlv, places, size_of}
use Rattle.route_mirroring.specs.Shown.{ReadMirroring, value_of, zero_tlv, entry}
use Rattle.route_mirroring_writer.specs.Write.{value_part, part_of, writer, bytes_of, writable, SameTlv, SameRead}
use Rattle.route_mirroring.specs.declared.RouteMirroringValue.{RouteMirroringValue}
use Rattle.route_mirroring.specs.declared.RouteMirroringValue.TheVariants.{BgpMessage, Information}
use Rattle.route_mirroring.specs.declared.RouteMirroringTlv.{RouteMirroringTlv}
use Rattle.route_mirroring.specs.declared.RouteMirroring.{RouteMirroring}
use Rattle.route_mirroring_writer.proofs.Written.{Known, FineValue, Fine, fine_from, long_of, put_long}
use Rattle.route_mirroring.proofs.Shows.{ViewAt}
use Rattle.route_mirroring_writer.proofs.Trip.{ReadsBack}

-- ---- what the reader does not ask of a value, and the writer does: the view lies inside, the information has length 2
abbrev InsideValue : List ℕ → RouteMirroringValue → Type 0
InsideValue b (BgpMessage v) = v.place + v.length ≤ length b
InsideValue b (Information i) = Unit {0}

abbrev pub Inside : List ℕ → RouteMirroringTlv → Type 0
Inside b t = InsideValue b (value_of t)

abbrev LengthTwo : ℕ → RouteMirroringValue → Type 0
LengthTwo size (BgpMessage v) = Unit {0}
LengthTwo size (Information i) = size ≡ 2

abbrev pub TwoBytes : RouteMirroringTlv → Type 0
TwoBytes t = LengthTwo t.info_len (value_of t)

-- what the reader shows has a type and a code that the writer knows
shown_known : (at : ℕ) (x : Tlv) (r : List ℕ) → ReadTlv x r → Known (entry at x).kind (entry at x).number
shown_known at (bgp_message n z) r g = record { kind_known = omega arith; code_known = λ h. absurd (omega arith) }
shown_known at (information n c) r g = record { kind_known = omega arith; code_known = λ h. g.known }

each_known : (l : List Tlv) (z : List ℕ) (rest : List RouteMirroringTlv) (at i : ℕ) → EachGood put ReadTlv l z → i < length l
    → Known (get_or (shown_from size_of entry at l ++ rest) i zero_tlv).kind (get_or (shown_from size_of entry at l ++ rest) i zero_tlv).number
each_known [] z rest at i g h = absurd (omega arith)
each_known (x ∷ l) z rest at zero g h = shown_known at x _ g.0
each_known (x ∷ l) z rest at (suc i) g h = each_known l z rest (at + size_of x) i g.1 (omega arith)

same_known : (t : RouteMirroringTlv) (b : List ℕ) (u : RouteMirroringTlv) (s : List ℕ) → SameTlv t b u s → Known u.kind u.number → Known t.kind t.number
same_known t b u s e h =
    record {
      kind_known = omega (arith, e.kind_same, h.kind_known);
      code_known = λ z. omega (arith, e.code_same z, h.code_known (omega (arith, e.kind_same, z)));
    }

-- an entry whose item is good is writable
fine_value : (b : List ℕ) (size : ℕ) (x : RouteMirroringValue) (r : List ℕ) → ReadTlv (value_part b size x) r → InsideValue b x → LengthTwo size x
    → FineValue (length b) size x
fine_value b size (BgpMessage v) r g inside two =
    record { fits = good_part 0 size v b g.well_formed inside; has-header = g.has-header }
fine_value b size (Information i) r g inside two = two

-- what the writer asks of an entry beside its item
pub record Asked (b : List ℕ) (t : RouteMirroringTlv) : Type 0 where
  pub inside : Inside b t
  pub two : TwoBytes t
  pub is_known : Known t.kind t.number

fine_entry : (b : List ℕ) (t : RouteMirroringTlv) (r : List ℕ) → ReadTlv (part_of b t) r → Asked b t → Fine (length b) t
fine_entry b t r g a = record { is_known = a.is_known; fine_value = fine_value b t.info_len (value_of t) r g a.inside a.two }

-- an item that is shown as an entry is that entry's
one_part : (b s : List ℕ) (at : ℕ) (x : Tlv) (kind size number : ℕ) → ViewAt s at x
    → SameTlv (record { kind = kind; info_len = size; number = number }) b (entry at x) s
    → x ≡ part_of b (record { kind = kind; info_len = size; number = number })
one_part b s at (bgp_message n z) zero size number shown_so e =
    let value-is = sym (e.value_same ∙ shown_so) in
    λ i. bgp_message (sym e.len_same i) (value-is i)
one_part b s at (bgp_message n z) (suc k) size number shown_so e = absurd (omega (arith, e.kind_same))
one_part b s at (information n c) zero size number shown_so e = absurd (omega (arith, e.kind_same))
one_part b s at (information n c) (suc zero) size number shown_so e =
    let code_is = sym (e.value_same ∙ shown_so) in
    λ i. information (sym e.len_same i) (code_is i)
one_part b s at (information n c) (suc (suc k)) size number shown_so e = absurd (omega (arith, e.kind_same))

pub writable_from : (m : RouteMirroring) (b : List ℕ) → length m.tlvs ≡ places
    → ((i : ℕ) → i < m.count → Inside b (get_or m.tlvs i zero_tlv)) → ((i : ℕ) → i < m.count → TwoBytes (get_or m.tlvs i zero_tlv))
    → (q : Reading) → Shows reader (bytes_of m b) q → AllAt size_of (ViewAt (join q)) 0 q.tlvs
    → ReadsBack m b (bytes_of m b) → writable m (length b) ≡ true
writable_from m b long inside two q x view-so r =
    let s = bytes_of m b in
    let same = subst (λ (a : ReadMirroring). SameRead m b a s) x.shown_so r.same in
    let few : m.count ≤ places = omega (arith, same.count_same, x.reading.fits) in
    let v : AllAt size_of (ViewAt s) 0 q.tlvs = subst (λ (z : List ℕ). AllAt size_of (ViewAt z) 0 q.tlvs) x.reading.joined view-so in
    let rest = replicate (places - length q.tlvs) zero_tlv in
    let good =
    table_good writer size_of entry (ViewAt s) b (λ t u. SameTlv t b u s) zero_tlv (λ at x t. one_part b s at x t.kind t.info_len t.number)
    rest m.tlvs m.count 0 q.tlvs (omega (arith, long, few)) same.count_same v same.tlv_same
    long_of put_long ReadTlv q.tail x.reading.joined x.reading.is_good.each in
    let asked : (i : ℕ) → i < m.count → Asked b (get_or m.tlvs i zero_tlv) =
    λ i h. record {
      inside = inside i h;
      two = two i h;
      is_known = same_known (get_or m.tlvs i zero_tlv) b (get_or (shown_from size_of entry 0 q.tlvs ++ rest) i zero_tlv) s (same.tlv_same i h)
          (each_known q.tlvs q.tail rest 0 i x.reading.is_good.each (omega (arith, h, same.count_same)));
    } in
    rw (le-ltb places m.count few)
    (table_fine writer ReadTlv (Asked b) zero_tlv b [] (λ t l g a. fine_from (length b) t (fine_entry b t _ g a)) m.tlvs m.count good asked)
