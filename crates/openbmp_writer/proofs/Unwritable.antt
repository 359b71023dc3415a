-- The tests of `writable` are those of the list. Assumes nothing.
use Prim.Native.Nat.{ℕ, ◌^◌}
use mathlib.Core.Path.{◌≡◌, refl}
use mathlib.Core.List.{List, ◌++◌}
use mathlib.Core.Logic.{◌⊎◌, inl, inr}
use native.Mathlib.Omega.{arith}
use lib.ListN.{length, take, drop, replicate}
use Rattle.wire.specs.declared.View.{View}
use Rattle.writing.specs.Unwritable.{NotTheOne, ViewOutside, LengthTooLarge}
use Rattle.writing.proofs.Unwritable.{FalseWhere, restated, not_equal, not_below, outside, never, unless, either}
use Rattle.models.specs.Address.{same_address, UnusedNotZero}
use Rattle.models.specs.declared.Afi.{Afi}
use Rattle.models.specs.declared.Afi.TheVariants.{Ipv4, Ipv6}
use Rattle.models.specs.declared.IpAddr.{IpAddr}
use Rattle.models.proofs.Unused.{first_four_shown}
use Rattle.models.proofs.Promises.{equals_is_equality}
use Rattle.times.specs.Time.{NotItsWords}
use Rattle.times.proofs.Promises.{is_timestamp_is_equality}
use Rattle.openbmp.specs.Shown.{shown_router_ip}
use Rattle.openbmp.specs.Read.{router_ip_of}
use Rattle.openbmp_writer.specs.Write.{fixed_fits, view_fits, writable, Typed}
use Rattle.openbmp_writer.specs.Unwritable.{Unwritable, major_not_1, minor_not_7, object_type_not_12, not_its_words, unused_not_zero, admin_too_large, admin_outside, group_too_large, group_outside}
use Rattle.openbmp.specs.declared.OpenBmpHeader.{OpenBmpHeader}

abbrev ip : Afi → List ℕ → IpAddr
ip afi octets = record { octets = octets; afi = afi }

fixed : (major minor kind : ℕ) → FalseWhere (fixed_fits major minor kind) (NotTheOne 1 major ⊎ (NotTheOne 7 minor ⊎ NotTheOne 12 kind))
fixed major minor kind = either (not_equal major 1) (either (not_equal minor 7) (not_equal kind 12))

router-ip : (afi : Afi) (octets : List ℕ) → length octets ≡ 16
    → FalseWhere (same_address (shown_router_ip (router_ip_of afi octets)) (ip afi octets)) (UnusedNotZero afi (drop 4 octets))
router-ip Ipv6 octets sixteen = never ((equals_is_equality (ip Ipv6 octets) (ip Ipv6 octets)).1 refl)
router-ip Ipv4 octets sixteen =
    let shows = first_four_shown octets sixteen in
    restated shows.0 shows.1 (unless (equals_is_equality (ip Ipv4 (take 4 octets ++ replicate 12 0)) (ip Ipv4 octets)))

a_view : (v : View) (room : ℕ) → FalseWhere (view_fits v room) (LengthTooLarge v.length ⊎ ViewOutside v.place v.length room)
a_view v room = either (restated (λ h. omega (arith, h)) (λ h. omega (arith, h)) (not_below v.length (256 ^ 2))) (outside room v)

module _ (h : OpenBmpHeader) (room : ℕ) where
  abbrev ViewItems : View → Type 0
  ViewItems v = LengthTooLarge v.length ⊎ ViewOutside v.place v.length room

  abbrev Items : Type 0
  Items =
      (NotTheOne 1 h.major_version ⊎ (NotTheOne 7 h.minor_version ⊎ NotTheOne 12 h.object_type))
      ⊎ (NotItsWords h.timestamp h.seconds h.microseconds
      ⊎ (UnusedNotZero h.router_ip.afi (drop 4 h.router_ip.octets) ⊎ (ViewItems h.admin_id ⊎ ViewItems h.router_group)))

  forth : Items → Unwritable h room
  forth (inl (inl x)) = major_not_1 x
  forth (inl (inr (inl x))) = minor_not_7 x
  forth (inl (inr (inr x))) = object_type_not_12 x
  forth (inr (inl x)) = not_its_words x
  forth (inr (inr (inl x))) = unused_not_zero x
  forth (inr (inr (inr (inl (inl x))))) = admin_too_large x
  forth (inr (inr (inr (inl (inr x))))) = admin_outside x
  forth (inr (inr (inr (inr (inl x))))) = group_too_large x
  forth (inr (inr (inr (inr (inr x))))) = group_outside x

  back : Unwritable h room → Items
  back (major_not_1 x) = inl (inl x)
  back (minor_not_7 x) = inl (inr (inl x))
  back (object_type_not_12 x) = inl (inr (inr x))
  back (not_its_words x) = inr (inl x)
  back (unused_not_zero x) = inr (inr (inl x))
  back (admin_too_large x) = inr (inr (inr (inl (inl x))))
  back (admin_outside x) = inr (inr (inr (inl (inr x))))
  back (group_too_large x) = inr (inr (inr (inr (inl x))))
  back (group_outside x) = inr (inr (inr (inr (inr x))))

  pub listed : Typed h → FalseWhere (writable h room) (Unwritable h room)
  listed t =
      restated forth back
      (either (fixed h.major_version h.minor_version h.object_type)
      (either (unless (is_timestamp_is_equality h.timestamp h.seconds h.microseconds t.time-fits))
      (either (router-ip h.router_ip.afi h.router_ip.octets t.octets.many)
      (either (a_view h.admin_id room) (a_view h.router_group room)))))
