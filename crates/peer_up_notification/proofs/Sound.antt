-- What the reader accepts has a good reading; and no input has two. Assumes nothing.
use mathlib.Core.Path.{◌≡◌, refl, sym, ap, ◌∙◌}
use mathlib.Core.Bool.{Bool, true, false}
use mathlib.Core.List.{List, ◌++◌, append_assoc}
use Prim.Native.Nat.{ℕ, ◌≤◌}
use native.Mathlib.Omega.{arith}
use borrow.Author.Tests.{ltb-true, ltb-false}
use lib.Dec.{ltb}
use lib.ListN.{length, take, drop, length-drop, take-append-drop}
use lib.Seq.{length-take-le}
use Rattle.wire.specs.Number as Number
use Rattle.wire.specs.Bytes.{pick, be, num_at, Bytes}
use Rattle.wire.specs.Refusal.{refusal}
use Rattle.wire.specs.Parts.{join_all}
use Rattle.wire.specs.Tlv.{Tlv, put_tlv}
use Rattle.wire.specs.Walk.{Out, good, refused, read_from}
use Rattle.wire.proofs.Views.{octets_part}
use Rattle.cursor.specs.declared.Cursor.{Cursor}
use Rattle.std.specs.declared.result.Result.TheVariants.{Ok, Err}
use Rattle.wire.specs.declared.View.{View}
use Rattle.wire.proofs.Bytes.{length_be, be_injective, num_lt, num_back, bytes_take, bytes_drop}
use Rattle.wire.proofs.Walk.{read_sound, read_fault}
use Rattle.wire.proofs.Walk as Walk
use Rattle.layout.specs.Layout.{cut_in}
use Rattle.layout.proofs.Cuts.{cut_number}
use Rattle.models.specs.declared.Afi.{Afi}
use Rattle.per_peer_type.specs.declared.BmpPeerType.{BmpPeerType}
use Rattle.peer_up_notification.specs.Grammar.{widths, join, skipped_for, Reading, Good, Fits}
use Rattle.peer_up_notification.specs.Shown.{sent_at, refused_answer, refusal_of}
use Rattle.peer_up_notification.specs.Told.{open_of}
use Rattle.peer_up_notification.specs.Read.{Open, open_at, front_of, kit, with_tlvs, with_received, with_sent, read_peer_up}
use Rattle.peer_up_notification.specs.declared.PeerUpNotificationTlv.{PeerUpNotificationTlv}
use Rattle.peer_up_notification.proofs.Laws.{faults, laws, tails}
use Rattle.peer_up_notification.proofs.Opens.{WasFound, was_found, broken_number, found_one, open_good, message_back, split_same, same_message}
use Rattle.peer_up_notification.proofs.Shows.{address-field}

-- ---- what the reader has found where it accepts
pub record Accepted (s : List ℕ) : Type 0 where
  pub short : length s ≤ Number.limit
  pub long : 20 ≤ length s
  pub sent : View
  pub after_sent : Cursor
  pub sent_found : WasFound s sent_at sent after_sent
  pub received : View
  pub after_received : Cursor
  pub received_found : WasFound s after_sent.at received after_received
  pub count : ℕ
  pub end : ℕ
  pub table : List PeerUpNotificationTlv
  pub left : List ℕ
  pub walked : read_from kit (length s) after_received.at s ≡ good count end table left

pub accepted : (afi : Afi) (peer : BmpPeerType) (s : List ℕ) → (refusal_of (read_peer_up afi peer s)).number ≡ Number.Good → Accepted s
accepted afi peer s e = go (ltb Number.limit (length s)) refl (ltb (length s) sent_at) refl (open_at s sent_at) refl e
  where
    walks : (v w : View) (c d : Cursor) → length s ≤ Number.limit → 20 ≤ length s → open_at s sent_at ≡ Ok (v, c) → open_at s c.at ≡ Ok (w, d)
        → (o : Out PeerUpNotificationTlv) → read_from kit (length s) d.at s ≡ o
        → (refusal_of (with_tlvs peer (front_of afi s v w) o)).number ≡ Number.Good → Accepted s
    walks v w c d short long hv hw (refused r) k q =
        let f = read_fault kit faults (length s) d.at s r k in absurd (omega (arith, f, q))
    walks v w c d short long hv hw (good n at table z) k q =
        record {
          short = short;
          long = long;
          sent = v;
          after_sent = c;
          sent_found = was_found s sent_at v c hv;
          received = w;
          after_received = d;
          received_found = was_found s c.at w d hw;
          count = n;
          end = at;
          table = table;
          left = z;
          walked = k;
        }

    receives : (v : View) (c : Cursor) → length s ≤ Number.limit → 20 ≤ length s → open_at s sent_at ≡ Ok (v, c)
        → (o : Open) → open_at s c.at ≡ o → (refusal_of (with_received afi peer s v o)).number ≡ Number.Good → Accepted s
    receives v c short long hv (Err r) k q = let f = broken_number s c.at r k in absurd (omega (arith, f, q))
    receives v c short long hv (Ok x) k q = walks v x.0 c x.1 short long hv k (read_from kit (length s) x.1.at s) refl q

    go : (a : Bool) → ltb Number.limit (length s) ≡ a → (b : Bool) → ltb (length s) sent_at ≡ b → (o : Open) → open_at s sent_at ≡ o
        → (refusal_of (pick a (refused_answer (refusal Number.TooLong 0)) (pick b (refused_answer (cut_in widths 0 (length s))) (with_sent afi peer s o)))).number ≡ Number.Good
        → Accepted s
    go true ha b hb o ho q = absurd (omega (arith, q))
    go false ha true hb o ho q =
        absurd (omega (arith, cut_number widths 0 (length s) (omega arith) (ltb-true (length s) sent_at hb), q))
    go false ha false hb (Err r) ho q = let f = broken_number s sent_at r ho in absurd (omega (arith, f, q))
    go false ha false hb (Ok x) ho q =
        receives x.0 x.1 (ltb-false _ _ ha) (ltb-false (length s) sent_at hb) ho (open_at s x.1.at) refl q

-- ---- its reading
module _ (afi : Afi) (s : List ℕ) (p : Bytes s) (a : Accepted s) where
  abbrev field : List ℕ
  field = take 16 s

  abbrev sent_bytes : List ℕ
  sent_bytes = take a.sent.length (drop sent_at s)

  abbrev received_bytes : List ℕ
  received_bytes = take a.received.length (drop a.after_sent.at s)

  walk_sound : (l : List Tlv) × (z : List ℕ) × Walk.ShowsItems kit laws tails a.after_received.at s l z
  walk_sound = read_sound kit laws tails a.after_received.at s p a.count a.end a.table a.left a.walked

  abbrev pub reading_at : List Tlv → List ℕ → Reading
  reading_at l z =
      record {
        skipped = take (skipped_for afi) field;
        address = drop (skipped_for afi) field;
        local_port = num_at 2 s 16;
        remote_port = num_at 2 s 18;
        sent_open = open_of sent_bytes;
        received_open = open_of received_bytes;
        tlvs = l;
        tail = z;
      }

  good_at : (l : List Tlv) (z : List ℕ) → Walk.ShowsItems kit laws tails a.after_received.at s l z → Good afi (reading_at l z)
  good_at l z w =
      let n : length field ≡ 16 = length-take-le 16 s (omega (arith, a.long)) in
      let k = address-field afi in
      record {
        skipped_fits = octets_part (bytes_take 16 p) 0 (skipped_for afi) (omega arith);
        address-fits = record { many = length-drop (skipped_for afi) field ∙ omega arith; are_bytes = bytes_drop (skipped_for afi) (bytes_take 16 p) };
        local_port_fits = num_lt 2 16 p;
        remote_port_fits = num_lt 2 18 p;
        sent_good = open_good sent_bytes (found_one p sent_at a.sent a.after_sent a.sent_found);
        received_good = open_good received_bytes (found_one p a.after_sent.at a.received a.after_received a.received_found);
        each = w.each;
        tail_good = w.tail_good;
      }

  joined_at : (l : List Tlv) (z : List ℕ) → join_all put_tlv l z ≡ drop a.after_received.at s → join (reading_at l z) ≡ s
  joined_at l z e =
      let k = skipped_for afi in
      let n = a.long in
      let received = message_back p a.after_sent.at a.received a.after_received a.received_found (join_all put_tlv l z) e in
      let sent = message_back p sent_at a.sent a.after_sent a.sent_found _ received in
      let ports = ap (λ (x : List ℕ). be 2 (num_at 2 s 16) ++ (be 2 (num_at 2 s 18) ++ x)) sent
      ∙ ap (λ (x : List ℕ). be 2 (num_at 2 s 16) ++ x) (num_back 2 18 p (omega arith)) ∙ num_back 2 16 p (omega arith) in
      ap (λ (x : List ℕ). take k field ++ (drop k field ++ x)) ports ∙ sym (append_assoc (take k field) (drop k field) (drop 16 s))
      ∙ ap (λ (x : List ℕ). x ++ drop 16 s) (take-append-drop k field) ∙ take-append-drop 16 s

  pub reading-of : (r : Reading) × (Good afi r) × (Fits r) × (join r ≡ s)
  reading-of =
      let w = walk_sound in
      (reading_at w.0 w.1, good_at w.0 w.1 w.2, w.2.few, joined_at w.0 w.1 w.2.joined)

-- ---- no input has two readings
pub same_reading : (afi : Afi) (r q : Reading) → Good afi r → Good afi q → join r ≡ join q → r ≡ q
same_reading afi r q g h e =
    let skipped = split_same r.skipped q.skipped _ _ (g.skipped_fits.many ∙ sym h.skipped_fits.many) e in
    let address = split_same r.address q.address _ _ (g.address-fits.many ∙ sym h.address-fits.many) skipped.1 in
    let local = split_same (be 2 r.local_port) (be 2 q.local_port) _ _ (length_be 2 r.local_port ∙ sym (length_be 2 q.local_port)) address.1 in
    let remote = split_same (be 2 r.remote_port) (be 2 q.remote_port) _ _ (length_be 2 r.remote_port ∙ sym (length_be 2 q.remote_port)) local.1 in
    let sent = same_message r.sent_open q.sent_open _ _ g.sent_good h.sent_good remote.1 in
    let received = same_message r.received_open q.received_open _ _ g.received_good h.received_good sent.1 in
    let tlvs = Walk.unique kit laws tails r.tlvs q.tlvs r.tail q.tail g.each g.tail_good h.each h.tail_good received.1 in
    let local-port = be_injective 2 r.local_port q.local_port g.local_port_fits h.local_port_fits local.0 in
    let remote-port = be_injective 2 r.remote_port q.remote_port g.remote_port_fits h.remote_port_fits remote.0 in
    λ i. record {
      skipped = skipped.0 i;
      address = address.0 i;
      local_port = local-port i;
      remote_port = remote-port i;
      sent_open = sent.0 i;
      received_open = received.0 i;
      tlvs = tlvs.0 i;
      tail = tlvs.1 i;
    }
