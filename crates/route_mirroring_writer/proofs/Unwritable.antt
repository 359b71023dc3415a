-- The tests of `writable` are those of the list. Assumes nothing.
use mathlib.Core.Path.{◌≡◌, refl}
use mathlib.Core.Bool.{Bool, true, false}
use mathlib.Core.Logic.{◌⊎◌, inl, inr}
use Prim.Native.Nat.{ℕ, ◌<◌}
use native.Mathlib.Omega.{arith}
use borrow.Author.Tests.{ltb-true, ltb-false, eqb-true, eqb-false}
use lib.Dec.{leb, ltb, eqb, lit<}
use lib.ListN.{get_or}
use Rattle.wire.specs.Bytes.{pick}
use Rattle.wire.specs.View.{view}
use Rattle.writing.specs.Unwritable.{AboveLast, ViewOutside, LengthNotTwo, BgpTooShort, TlvTyped}
use Rattle.writing.proofs.Unwritable.{FalseWhere, restated, not_equal, not_up_to, either_picked, past_limit, SomeEntry, entries_unwritable}
use Rattle.tlv_table.specs.Tlvs.{entry_writable}
use Rattle.tlv_table.proofs.Unwritable.{part_unwritable}
use Rattle.route_mirroring.specs.Shown.{info_of, zero_tlv}
use Rattle.route_mirroring_writer.specs.Write.{value_entry, headed_writable, tlv_writable, writer, writable}
use Rattle.route_mirroring_writer.specs.Unwritable.{TlvUnwritable, unknown_type, bgp_too_short, view_outside, information_not_two, unknown_information, Unwritable, too_many, some_tlv, Typed}
use Rattle.route_mirroring.specs.declared.RouteMirroringValue.TheVariants.{BgpMessage, Information}
use Rattle.route_mirroring.specs.declared.RouteMirroringTlv.{RouteMirroringTlv}
use Rattle.route_mirroring.specs.declared.RouteMirroring.{RouteMirroring}

module _ (room : ℕ) (t : RouteMirroringTlv) where
  abbrev BgpItems : Type 0
  BgpItems = BgpTooShort t.info_len ⊎ ViewOutside t.number t.info_len room

  abbrev InformationItems : Type 0
  InformationItems = ((t.kind ≡ 1 → ⊥) ⊎ AboveLast 1 t.number) ⊎ LengthNotTwo t.info_len

  bgp_forth : t.kind ≡ 0 → BgpItems → TlvUnwritable t room
  bgp_forth is (inl x) = bgp_too_short is x
  bgp_forth is (inr x) = view_outside is x

  bgp_back : t.kind ≡ 0 → TlvUnwritable t room → BgpItems
  bgp_back is (unknown_type x) = absurd (omega (arith, is, x))
  bgp_back is (bgp_too_short k x) = inl x
  bgp_back is (view_outside k x) = inr x
  bgp_back is (information_not_two k x) = absurd (omega (arith, is, k))
  bgp_back is (unknown_information k x) = absurd (omega (arith, is, k))

  information_forth : (t.kind ≡ 0 → ⊥) → InformationItems → TlvUnwritable t room
  information_forth other x = go (ltb 1 t.kind) refl x
    where
      go : (c : Bool) → ltb 1 t.kind ≡ c → InformationItems → TlvUnwritable t room
      go true h y = unknown_type (ltb-true 1 t.kind h)
      go false h (inl (inl y)) = unknown_type (omega (arith, other, y))
      go false h (inl (inr y)) = unknown_information (omega (arith, other, ltb-false 1 t.kind h)) y
      go false h (inr y) = information_not_two (omega (arith, other, ltb-false 1 t.kind h)) y

  information_back : (t.kind ≡ 0 → ⊥) → TlvUnwritable t room → InformationItems
  information_back other (unknown_type x) = inl (inl (λ one. absurd (omega (arith, one, x))))
  information_back other (bgp_too_short k x) = absurd (other k)
  information_back other (view_outside k x) = absurd (other k)
  information_back other (information_not_two k x) = inr x
  information_back other (unknown_information k x) = inl (inr x)

  tlv_listed : TlvTyped t.kind t.info_len → FalseWhere (tlv_writable room t) (TlvUnwritable t room)
  unfolding tlv_writable entry_writable
  tlv_listed y = go (eqb t.kind 0) refl
    where
      go : (c : Bool) → eqb t.kind 0 ≡ c
          → FalseWhere (pick (pick c true (pick (eqb t.kind 1) (leb t.number 1) false))
          (headed_writable room (value_entry t.info_len (pick c (BgpMessage (view t.number t.info_len)) (Information (info_of t.number))))) false)
          (TlvUnwritable t room)
      go true h =
          let is = eqb-true t.kind 0 h in
          restated (bgp_forth is) (bgp_back is)
          (either_picked (not_up_to 19 t.info_len)
          (part_unwritable 0 t.number t.info_len room (record { kind_fits = lit< tt; length_fits = y.length_fits })))
      go false h =
          let other = eqb-false t.kind 0 h in
          restated (information_forth other) (information_back other)
          (either_picked (either_picked (not_equal t.kind 1) (not_up_to t.number 1)) (not_equal t.info_len 2))

module _ (m : RouteMirroring) (room : ℕ) where
  abbrev Items : Type 0
  Items = (32 < m.count) ⊎ SomeEntry (λ after t. TlvUnwritable t room) m.count m.tlvs zero_tlv

  forth : Items → Unwritable m room
  forth (inl x) = too_many x
  forth (inr x) = some_tlv x.at x.below x.holds

  back : Unwritable m room → Items
  back (too_many x) = inl x
  back (some_tlv i below x) = inr (record { at = i; below = below; holds = x })

  pub listed : Typed m → FalseWhere (writable m room) (Unwritable m room)
  listed y =
      restated forth back
      (past_limit 32 m.count
      (λ few. entries_unwritable writer room zero_tlv (λ after t. TlvUnwritable t room) m.count m.tlvs (omega (arith, few, y.table_long))
      (λ i below after. tlv_listed room (get_or m.tlvs i zero_tlv) (y.each_typed i (omega (arith, below, few))))))
