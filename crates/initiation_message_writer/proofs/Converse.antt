-- No record is refused that would be read back as itself, where its views lie inside the buffer. Assumes nothing.
use mathlib.Core.Path.{◌≡◌, sym, ◌∙◌, subst}
use mathlib.Core.Bool.{true}
use mathlib.Core.List.{List, [], ◌∷◌}
use Prim.Native.Nat.{ℕ, ◌+◌, ◌-◌, ◌≤◌, ◌<◌}
use native.Mathlib.Omega.{arith}
use borrow.Author.Tests.{le-ltb}
use lib.ListN.{length, get_or, replicate, length-append}
use Rattle.wire.specs.Bytes.{be}
use Rattle.wire.specs.Parts.{AllAt}
use Rattle.wire.specs.Tlv.{Tlv, size_of, put_tail}
use Rattle.wire.specs.Exactly.{Shows}
use Rattle.wire.proofs.Tlv.{put_tlv_long}
use Rattle.initiation_message.specs.Read.{reader}
use Rattle.writing.specs.Table.{joined}
use Rattle.writing.proofs.Trip.{table_good, table_fine}
use Rattle.tlv_table.proofs.Written.{good_part, before_from}
use Rattle.tlv_table.specs.Tlvs.{entry_writable_before}
use Rattle.initiation_message.specs.Grammar.{Reading, join, ReadTlv, places}
use Rattle.initiation_message.specs.Shown.{info_of, zero_tlv, entry}
use Rattle.initiation_message_writer.specs.Write.{value_of, part_of, writer, bytes_of, writable, entry_of, SameTlv, SameRead}
use Rattle.initiation_message.specs.declared.InitiationTlv.{InitiationTlv}
use Rattle.initiation_message.specs.declared.InitiationMessage.{InitiationMessage}
use Rattle.initiation_message.specs.Shown.{ReadInitiation}
use Rattle.initiation_message.proofs.Shows.{ViewAt}
use Rattle.initiation_message_writer.proofs.Trip.{ReadsBack}

abbrev pub Inside : List ℕ → InitiationTlv → Type 0
Inside b t = t.place + t.info_len ≤ length b

-- an entry whose item is good is writable
followed : (b : List ℕ) (t : InitiationTlv) (l : List InitiationTlv) → ReadTlv (part_of b t) (joined writer b l) → 0 < t.info_len + length l
unfolding be
followed b t [] g = omega (arith, g.more_than_four, g.well_formed.size_is, length-append (value_of b t) [])
followed b t (u ∷ l) g = omega arith

fine_entry : (b : List ℕ) (t : InitiationTlv) (l : List InitiationTlv) → ReadTlv (part_of b t) (joined writer b l) → Inside b t
    → entry_writable_before (length b) (length l) (entry_of t) ≡ true
fine_entry b t l g h =
    before_from (length b) (length l) (entry_of t) (record { alone = good_part _ _ (info_of t) b g.well_formed h; not_last_empty = followed b t l g })

-- an item that is shown as an entry is that entry's
one_part : (b s : List ℕ) (at : ℕ) (x : Tlv) (t : InitiationTlv) → ViewAt s at x → SameTlv t b (entry at x) s → x ≡ part_of b t
one_part b s at x t v e =
    let kind_is : x.kind ≡ t.kind = sym e.kind_same in
    let value-is : x.value ≡ value_of b t = sym (e.bytes_same ∙ v) in
    λ i. record { kind = kind_is i; size = sym e.len_same i; value = value-is i }

pub writable_from : (m : InitiationMessage) (b : List ℕ) → length m.tlvs ≡ places
    → ((i : ℕ) → i < m.count → Inside b (get_or m.tlvs i zero_tlv))
    → (q : Reading) → Shows reader (bytes_of m b) q → AllAt size_of (ViewAt (join q)) 0 q.tlvs
    → ReadsBack m b (bytes_of m b) → writable m (length b) ≡ true
writable_from m b long inside q x view-so r =
    let s = bytes_of m b in
    let same = subst (λ (a : ReadInitiation). SameRead m b a s) x.shown_so r.same in
    let few : m.count ≤ places = omega (arith, same.count_same, x.reading.fits) in
    let v : AllAt size_of (ViewAt s) 0 q.tlvs = subst (λ (z : List ℕ). AllAt size_of (ViewAt z) 0 q.tlvs) x.reading.joined view-so in
    let good =
    table_good writer size_of entry (ViewAt s) b (λ t u. SameTlv t b u s) zero_tlv (one_part b s)
    (replicate (places - length q.tlvs) zero_tlv) m.tlvs m.count 0 q.tlvs (omega (arith, long, few)) same.count_same v same.tlv_same
    (λ t. 4 + length t.value) put_tlv_long ReadTlv (put_tail q.tail) x.reading.joined x.reading.is_good.each in
    rw (le-ltb places m.count few) (table_fine writer ReadTlv (Inside b) zero_tlv b [] (fine_entry b) m.tlvs m.count good inside)
