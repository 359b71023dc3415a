-- A body that conforms to RFC 7854 is read, and shown part by part; and what warnings one that conforms to RFC 9069 brings. Assumes nothing.
use mathlib.Core.Path.{◌≡◌, refl, sym, ap, ◌∙◌, subst}
use mathlib.Core.Bool.{Bool, true, false, ◌&&◌, ◌||◌, or-true}
use mathlib.Core.List.{List, [], ◌∷◌, ◌++◌, map, append-nil}
use mathlib.Core.Logic.{inl, inr}
use Prim.Native.Nat.{ℕ, ◌≤◌}
use native.Mathlib.Omega.{arith}
use borrow.Author.Tests.{eqb-true, eq-eqb, ne_eqb, le-ltb}
use lib.Dec.{eqb, ltb}
use lib.ListN.{length, length-map}
use Rattle.wire.specs.Number as Number
use Rattle.wire.specs.Bytes.{be, none, Octets}
use Rattle.wire.specs.Parts.{join_all}
use Rattle.wire.specs.Tlv.{put_tlv}
use Rattle.wire.specs.Rfc.{together, Each, Information, information_bytes, InformationFits, as_tlv, BgpMessage, bgp_bytes, IsBgp}
use Rattle.wire.specs.Exactly.{Shows}
use Rattle.wire.proofs.Bytes.{bytes_be, bytes_append}
use Rattle.wire.proofs.Refuses.{bytes_are}
use Rattle.wire.proofs.Rfc.{information_put, information_good, join_together, each_together}
use Rattle.wire.proofs.Views.{octets_zeros}
use Rattle.wire.proofs.Exactly.{shows_good}
use Rattle.models.specs.Rfc.{Address, ipv4, ipv6, field_of, family_of, AddressFits}
use Rattle.per_peer_type.specs.Peer.{kind_of}
use Rattle.per_peer_type.specs.declared.BmpPeerType.{BmpPeerType}
use Rattle.per_peer_type.specs.declared.BmpPeerType.TheVariants.{LocalRib}
use Rattle.peer_up_notification.specs.Grammar.{GoodMessage, join, skipped_for, address_for, ReadTlv, Good, places}
use Rattle.peer_up_notification.specs.Warnings.{Head, head_of, some, is_table_name, bad_table_name, warnings}
use Rattle.peer_up_notification.specs.Read.{reader}
use Rattle.peer_up_notification.specs.Rfc.{Body, bytes, Conforms, table_name, NameFits, HasName, ConformsLocRib, skipped_of, address_of, as_message, reading}
use Rattle.peer_up_notification.proofs.Promises.{complete}

-- ---- the parts
skipped_fits : (a : Address) → Octets (skipped_for (family_of a)) (skipped_of a)
skipped_fits (ipv4 address) = octets_zeros 12
skipped_fits (ipv6 address) = octets_zeros 0

address-fits : (a : Address) → AddressFits a → Octets (address_for (family_of a)) (address_of a)
address-fits (ipv4 address) fits = fits
address-fits (ipv6 address) fits = fits

-- the field of an address, and then r
field_put : (a : Address) (r : List ℕ) → skipped_of a ++ (address_of a ++ r) ≡ field_of a ++ r
field_put (ipv4 address) r = refl
field_put (ipv6 address) r = refl

open_good : (m : BgpMessage) → IsBgp 1 m → GoodMessage (as_message m)
unfolding be
open_good m is =
    record {
      marker_fits = record { many = refl; are_bytes = bytes_are _ refl };
      size_fits = is.length_fits;
      has-header = omega arith;
      size_is = omega arith;
      rest-bytes = bytes_append (bytes_be 1 m.kind) is.contents_bytes;
    }

-- ---- the whole
joined : (b : Body) → Each InformationFits b.informations → join (reading b) ≡ bytes b
joined b fits =
    let l = b.informations in
    let tlvs : join_all put_tlv (map as_tlv l) [] ≡ together information_bytes l =
    join_together InformationFits put_tlv as_tlv information_bytes information_put l [] fits ∙ append-nil (together information_bytes l) in
    let rest : List ℕ → List ℕ = λ l. be 2 b.local_port ++ (be 2 b.remote_port ++ (bgp_bytes b.sent_open ++ (bgp_bytes b.received_open ++ l))) in
    field_put b.local_address (rest (join_all put_tlv (map as_tlv l) [])) ∙ ap (λ (l : List ℕ). field_of b.local_address ++ rest l) tlvs

-- A conforming body is shown part by part, with nothing left.
pub conforming_shown : (peer : BmpPeerType) (b : Body) → Conforms b → length b.informations ≤ places → length (bytes b) ≤ Number.limit
    → Shows (reader (family_of b.local_address) peer) (bytes b) (reading b)
conforming_shown peer b c room limit =
    let afi = family_of b.local_address in
    let good : Good afi (reading b) =
    record {
      skipped_fits = skipped_fits b.local_address;
      address-fits = address-fits b.local_address c.address-fits;
      local_port_fits = c.local_port_fits;
      remote_port_fits = c.remote_port_fits;
      sent_good = open_good b.sent_open c.sent-open;
      received_good = open_good b.received_open c.received-open;
      each =
          each_together InformationFits put_tlv as_tlv information_bytes information_put ReadTlv (λ t r f. information_good t f)
          b.informations [] c.each_fits;
      tail_good = (omega arith, none);
    } in
    shows_good (reader afi peer) (complete afi peer) (reading b) good
    (subst (λ (n : ℕ). n ≤ places) (sym (length-map b.informations as_tlv)) room) (bytes b) (joined b c.each_fits) limit

-- ---- the warnings of a Loc-RIB's
abbrev heads : List Information → List Head
heads l = map head_of (map as_tlv l)

none_bad : (l : List Information) → Each NameFits l → some bad_table_name (heads l) ≡ false
none_bad [] h = refl
none_bad (t ∷ l) h = rw (none_bad l h.1) (go (eqb t.kind table_name) refl)
  where
    go : (c : Bool) → eqb t.kind table_name ≡ c → (c && (eqb (length t.value) 0 || ltb 255 (length t.value))) || false ≡ false
    go true e =
        let fits = h.0 (eqb-true t.kind table_name e) in
        rw (ne_eqb (length t.value) 0 (omega (arith, fits.0)), le-ltb 255 (length t.value) fits.1)
    go false e = refl

named : (l : List Information) → HasName l → some is_table_name (heads l) ≡ true
named [] h = absurd h
named (t ∷ l) (inl e) = rw (eq-eqb t.kind table_name e)
named (t ∷ l) (inr h) = rw (named l h) (or-true (eqb t.kind table_name))

unnamed : (l : List Information) → (HasName l → ⊥) → some is_table_name (heads l) ≡ false
unnamed [] lacks = refl
unnamed (t ∷ l) lacks = rw (ne_eqb t.kind table_name (λ e. lacks (inl e))) (unnamed l (λ h. lacks (inr h)))

-- The Peer Up of a Loc-RIB that conforms and tells its table's name brings no warning.
pub loc_rib_unwarned : (b : Body) → ConformsLocRib b → HasName b.informations → warnings LocalRib (reading b) ≡ 0
unfolding kind_of
loc_rib_unwarned b c has = rw (none_bad b.informations c.names_fit, named b.informations has)

-- One that tells no name, which RFC 9069 allows where none is configured, brings warning 16 and no other.
pub unnamed_warned : (b : Body) → ConformsLocRib b → (HasName b.informations → ⊥) → warnings LocalRib (reading b) ≡ 16
unfolding kind_of
unnamed_warned b c lacks = rw (none_bad b.informations c.names_fit, unnamed b.informations lacks)
