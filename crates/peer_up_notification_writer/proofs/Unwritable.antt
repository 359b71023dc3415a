-- The tests of `writable` are those of the list. Assumes nothing.
use Prim.Native.Nat.{ℕ, ◌^◌, ◌≤◌, ◌<◌}
use mathlib.Core.Path.{◌≡◌, refl}
use mathlib.Core.List.{List, ◌++◌}
use mathlib.Core.Logic.{◌⊎◌, inl, inr}
use native.Mathlib.Omega.{arith}
use lib.ListN.{length, take, drop, get_or, replicate}
use Rattle.wire.specs.Bytes.{num_at}
use Rattle.wire.specs.View.{viewed}
use Rattle.wire.specs.declared.View.{View}
use Rattle.writing.specs.Unwritable.{ViewOutside, BgpTooShort}
use Rattle.writing.proofs.Unwritable.{FalseWhere, restated, not_equal, not_below, not_up_to, outside, never, unless, either, past_limit, SomeEntry, entries_unwritable}
use Rattle.tlv_table.proofs.Unwritable.{part_unwritable}
use Rattle.addresses.specs.Address.{shown_ip}
use Rattle.models.specs.Address.{same_address, UnusedNotZero}
use Rattle.models.specs.declared.Afi.{Afi}
use Rattle.models.specs.declared.Afi.TheVariants.{Ipv4, Ipv6}
use Rattle.models.specs.declared.IpAddr.{IpAddr}
use Rattle.models.proofs.Unused.{last_four_shown}
use Rattle.models.proofs.Promises.{equals_is_equality}
use Rattle.peer_up_notification.specs.Shown.{zero_tlv}
use Rattle.peer_up_notification_writer.specs.Write.{open_writable, writer, writable, Typed}
use Rattle.peer_up_notification_writer.specs.Unwritable.{OwnLengthDiffers, OpenUnwritable, view_outside, bgp_too_short, length_too_large, own_length_differs, Unwritable, unused_not_zero, sent-open, received-open, too_many, some_tlv_outside, TlvsTyped}
use Rattle.peer_up_notification.specs.declared.PeerUpNotificationTlv.{PeerUpNotificationTlv}
use Rattle.peer_up_notification.specs.declared.PeerUpNotification.{PeerUpNotification}

abbrev ip : Afi → List ℕ → IpAddr
ip afi octets = record { octets = octets; afi = afi }

address : (afi : Afi) (octets : List ℕ) → length octets ≡ 16
    → FalseWhere (same_address (shown_ip afi octets) (ip afi octets)) (UnusedNotZero afi (take 12 octets))
address Ipv6 octets sixteen = never ((equals_is_equality (ip Ipv6 octets) (ip Ipv6 octets)).1 refl)
address Ipv4 octets sixteen =
    let shows = last_four_shown octets sixteen in
    restated shows.0 shows.1 (unless (equals_is_equality (ip Ipv4 (replicate 12 0 ++ drop 12 octets)) (ip Ipv4 octets)))

open_listed : (b : List ℕ) (v : View) → FalseWhere (open_writable b v) (OpenUnwritable v b)
unfolding open_writable
open_listed b v =
    restated forth back
    (either (outside (length b) v)
    (either (not_up_to 19 v.length) (either (not_below v.length (256 ^ 2)) (not_equal (num_at 2 (viewed b v) 16) v.length))))
  where
    forth : ViewOutside v.place v.length (length b) ⊎ (BgpTooShort v.length ⊎ ((256 ^ 2 ≤ v.length) ⊎ OwnLengthDiffers (viewed b v) v.length))
        → OpenUnwritable v b
    forth (inl x) = view_outside x
    forth (inr (inl x)) = bgp_too_short x
    forth (inr (inr (inl x))) = length_too_large (omega (arith, x))
    forth (inr (inr (inr x))) = own_length_differs x

    back : OpenUnwritable v b
        → ViewOutside v.place v.length (length b) ⊎ (BgpTooShort v.length ⊎ ((256 ^ 2 ≤ v.length) ⊎ OwnLengthDiffers (viewed b v) v.length))
    back (view_outside x) = inl x
    back (bgp_too_short x) = inr (inl x)
    back (length_too_large x) = inr (inr (inl (omega (arith, x))))
    back (own_length_differs x) = inr (inr (inr x))

module _ (m : PeerUpNotification) (b : List ℕ) where
  abbrev TlvOutside : ℕ → PeerUpNotificationTlv → Type 0
  TlvOutside after t = ViewOutside t.place t.info_len (length b)

  abbrev Items : Type 0
  Items =
      UnusedNotZero m.local_addr.afi (take 12 m.local_addr.octets)
      ⊎ (OpenUnwritable m.sent_open b
      ⊎ (OpenUnwritable m.received_open b ⊎ ((32 < m.count) ⊎ SomeEntry TlvOutside m.count m.tlvs zero_tlv)))

  forth : Items → Unwritable m b
  forth (inl x) = unused_not_zero x
  forth (inr (inl x)) = sent-open x
  forth (inr (inr (inl x))) = received-open x
  forth (inr (inr (inr (inl x)))) = too_many x
  forth (inr (inr (inr (inr x)))) = some_tlv_outside x.at x.below x.holds

  back : Unwritable m b → Items
  back (unused_not_zero x) = inl x
  back (sent-open x) = inr (inl x)
  back (received-open x) = inr (inr (inl x))
  back (too_many x) = inr (inr (inr (inl x)))
  back (some_tlv_outside i below x) = inr (inr (inr (inr (record { at = i; below = below; holds = x }))))

  tlv_listed : TlvsTyped m → (i after : ℕ) → i < 32 → FalseWhere (writer.ok (length b) after (get_or m.tlvs i zero_tlv)) (TlvOutside after (get_or m.tlvs i zero_tlv))
  tlv_listed y i after few = let t = get_or m.tlvs i zero_tlv in part_unwritable t.kind t.place t.info_len (length b) (y i few)

  pub listed : Typed m → TlvsTyped m → FalseWhere (writable m b) (Unwritable m b)
  listed t y =
      restated forth back
      (either (address m.local_addr.afi m.local_addr.octets t.octets.many)
      (either (open_listed b m.sent_open)
      (either (open_listed b m.received_open)
      (past_limit 32 m.count
      (λ few. entries_unwritable writer (length b) zero_tlv TlvOutside m.count m.tlvs (omega (arith, few, t.table_long))
      (λ i below after. tlv_listed y i after (omega (arith, below, few))))))))
