-- What a user of the Peer Up body relies on. Assumes nothing.
use mathlib.Core.Path.{◌≡◌, refl, sym, subst, ap₂, ◌∙◌}
use mathlib.Core.Bool.{Bool, true, false}
use mathlib.Core.List.{List, map, [], ◌∷◌, ◌++◌, append_assoc}
use Prim.Native.Nat.{ℕ, ◌+◌, ◌≤◌, ◌<◌}
use lib.ListN.{length, take, length-append}
use Rattle.wire.specs.Number as Number
use Rattle.wire.specs.Bytes.{pick, be, Bytes}
use Rattle.wire.proofs.Determined.{determined}
use Rattle.wire.proofs.Arms.{number_of_name}
use Rattle.wire.specs.Refuses.{Refuses}
use Rattle.wire.specs.Waits.{WaitsBut, MissingTells}
use Rattle.wire.specs.Exactly.{Sound, Complete, Told, Unique}
use Rattle.wire.specs.Refusal.{refusal}
use Rattle.wire.specs.Parts.{end_from, join_all}
use Rattle.wire.specs.Tlv.{size_of}
use Rattle.wire.specs.declared.View.{View}
use Rattle.models.specs.Warnings.{count_ones}
use Rattle.models.specs.declared.Afi.{Afi}
use Rattle.models.specs.declared.Afi.TheVariants.{Ipv4, Ipv6}
use Rattle.per_peer_type.specs.Peer.{kind_of, is_loc_rib}
use Rattle.per_peer_type.specs.declared.BmpPeerType.{BmpPeerType}
use Rattle.peer_up_notification.specs.Grammar.{Reading, join, Good, grammar, places, front_parts, join_messages, widths, skipped_for, address_for}
use Rattle.peer_up_notification.specs.Warnings.{head_of, some, bad_table_name, no_table_name, warnings}
use Rattle.peer_up_notification.specs.Shown.{kind_of as number_of, names, type_of, info_of, shown, ReadPeerUp, refused_answer, refusal_of, tlvs_at}
use Rattle.peer_up_notification.specs.Read.{read_peer_up, reader}
use Rattle.peer_up_notification.specs.declared.PeerUpNotificationTlv.{PeerUpNotificationTlv}
use Rattle.peer_up_notification.specs.declared.PeerUpTlvType.{PeerUpTlvType}
use Rattle.peer_up_notification.specs.declared.PeerUpTlvType.TheVariants.{Unknown}
use Rattle.peer_up_notification.specs.Cuts.{CutIn, OpenBegun}
use Rattle.peer_up_notification.proofs.Sound.{accepted, reading-of, same_reading}
use Rattle.peer_up_notification.proofs.Told as ToldProofs
use Rattle.peer_up_notification.proofs.Shows.{shown_all, ShowsParts, shows_parts}
use Rattle.peer_up_notification.proofs.Refusals as Refusals
use Rattle.peer_up_notification.proofs.Waits as Waiting
use Rattle.peer_up_notification.proofs.Cuts as Cuts

-- Every good reading that fits is accepted, and shown.
pub complete : (afi : Afi) (peer : BmpPeerType) → Complete (reader afi peer)
complete afi peer r g f short = shown_all afi r g peer f short

-- What the reader accepts has a good reading that fits, and it shows that reading.
pub sound : (afi : Afi) (peer : BmpPeerType) → Sound (reader afi peer)
sound afi peer s p e =
    let a = accepted afi peer s e in
    let q = reading-of afi s p a in
    let r = q.0 in
    let short : length (join r) ≤ Number.limit = subst (λ (x : List ℕ). length x ≤ Number.limit) (sym q.3) a.short in (
      r,
      record {
        reading = record { is_good = q.1; fits = q.2; joined = q.3 };
        shown_so = subst (λ (x : List ℕ). read_peer_up afi peer x ≡ shown afi peer r) q.3 (complete afi peer r q.1 q.2 short);
      },
    )

-- Every good reading that fits is told by the answer that shows it.
pub told_back : (afi : Afi) (peer : BmpPeerType) → Told (reader afi peer)
told_back = ToldProofs.told_back

-- A refusal shows nothing but itself, and has one of the reader's numbers; each of these is given for some input.
pub refuses : (afi : Afi) (peer : BmpPeerType) → Refuses (reader afi peer)
refuses = Refusals.refuses

-- Who waits for as many bytes as a Cut says are missing waits neither too long nor in vain, but that an OPEN whose header was not all there and is now
-- may be Cut once more.
pub waits : (afi : Afi) (peer : BmpPeerType) → WaitsBut OpenBegun (reader afi peer)
waits = Waiting.waits

-- Bytes are missing exactly where the refusal is a Cut.
pub missing_tells : (afi : Afi) (peer : BmpPeerType) → MissingTells (reader afi peer)
missing_tells = Waiting.missing_tells

-- A good reading of more TLVs than the table holds is refused with TooMany, at the first that has no room.
pub too_many : (afi : Afi) (peer : BmpPeerType) (r : Reading) → Good afi r → length (join r) ≤ Number.limit → places < length r.tlvs
    → read_peer_up afi peer (join r) ≡ refused_answer (refusal Number.TooMany (end_from size_of (tlvs_at r) (take places r.tlvs)))
too_many = Refusals.too_many

-- No input has two readings for one family, whatever the table holds.
pub unique : (afi : Afi) → Unique (grammar afi)
unique = same_reading

-- In the answer that shows a good reading, the views of the two messages show their bytes, and the view of each TLV its value.
pub views : (afi : Afi) (peer : BmpPeerType) (r : Reading) → Good afi r → ShowsParts (join r) (shown afi peer r) r
views = shows_parts

-- Name and number stand for each other.
pub type_number : (n : ℕ) → number_of (type_of n) ≡ n
unfolding type_of number_of
type_number n = number_of_name number_of n (Unknown n) names refl (λ h. refl)

-- ---- warnings
-- The ones of the word are as many as the warnings that are given, which are none where the peer is no Loc-RIB.
pub warnings_counted : (peer : BmpPeerType) (r : Reading)
    → count_ones 32 (warnings peer r)
    ≡ pick (is_loc_rib (kind_of peer)) (pick (some bad_table_name (map head_of r.tlvs)) 1 0 + pick (no_table_name (map head_of r.tlvs)) 1 0) 0
warnings_counted peer r = go (is_loc_rib (kind_of peer)) (some bad_table_name (map head_of r.tlvs)) (no_table_name (map head_of r.tlvs))
  where
    go : (l a b : Bool) → count_ones 32 (pick l (pick a 8 0 + pick b 16 0) 0) ≡ pick l (pick a 1 0 + pick b 1 0) 0
    go false a b = refl
    go true true true = refl
    go true true false = refl
    go true false true = refl
    go true false false = refl

-- A Cut is at the first part that is not whole, in the front, in one of the messages, or in a TLV, with as many missing as it lacks.
pub refuses_cut : (afi : Afi) (peer : BmpPeerType) (s : List ℕ) → Bytes s → (refusal_of (read_peer_up afi peer s)).number ≡ Number.Cut
    → CutIn s (refusal_of (read_peer_up afi peer s))
refuses_cut = Cuts.refuses_cut

field_width : (afi : Afi) → skipped_for afi + address_for afi ≡ 16
field_width Ipv4 = refl
field_width Ipv6 = refl

-- The widths by which a Cut in the front is placed are those of the parts that are joined there.
pub widths_are : (afi : Afi) (r : Reading) → Good afi r → (map length (front_parts r) ≡ widths) × (join r ≡ join_all ◌++◌ (front_parts r) (join_messages r))
unfolding be
widths_are afi r g =
    let sixteen : length (r.skipped ++ r.address) ≡ 16 =
    length-append r.skipped r.address ∙ ap₂ ◌+◌ g.skipped_fits.many g.address-fits.many ∙ field_width afi in
    (λ i. sixteen i ∷ 2 ∷ 2 ∷ [], sym (append_assoc r.skipped r.address (be 2 r.local_port ++ (be 2 r.remote_port ++ join_messages r))))

-- ---- any two answers that the contracts allow are equal
-- Two numbers that number may tell of the same name are equal.
pub number_determined : (x : PeerUpTlvType) (r q : ℕ) → r ≡ number_of x → q ≡ number_of x → r ≡ q
number_determined x r q = determined

-- Two names that info_type may tell of the same entry are equal.
pub info_type_determined : (t : PeerUpNotificationTlv) (r q : PeerUpTlvType) → r ≡ type_of t.kind → q ≡ type_of t.kind → r ≡ q
info_type_determined t r q = determined

-- Two views that info_value may tell of the same entry are equal.
pub info_value_determined : (t : PeerUpNotificationTlv) (r q : View) → r ≡ info_of t → q ≡ info_of t → r ≡ q
info_value_determined t r q = determined

-- Two answers of the reader to the same family, type of peer and bytes are equal.
pub parse_determined : (afi : Afi) (peer : BmpPeerType) (s : List ℕ) (a b : ReadPeerUp) → a ≡ read_peer_up afi peer s → b ≡ read_peer_up afi peer s → a ≡ b
parse_determined afi peer s a b = determined
