-- What the reader answers, for every input.
use Rattle.std.specs.Prelude.{ℕ, ◌+◌, ◌-◌, List, [], ◌∷◌, map, length, take, drop, ltb, Result, Ok, Err}
use Rattle.wire.specs.Number as Number
use Rattle.wire.specs.Bytes.{pick, num_at, number_at}
use Rattle.wire.specs.Refusal.{refusal, cut_at}
use Rattle.cursor.specs.Read.{cursor}
use Rattle.wire.specs.View.{view}
use Rattle.wire.specs.Tlv.{Tlv, size_of}
use Rattle.wire.specs.TlvAt.{tlv_of, tlv_widths}
use Rattle.wire.specs.Walk as Walk
use Rattle.wire.specs.Walk.{stop, bad, item, Kit, Out, good, refused, read_from}
use Rattle.wire.specs.declared.Refusal.{Refusal}
use Rattle.wire.specs.declared.View.{View}
use Rattle.wire.specs.Exactly.{Reader}
use Rattle.cursor.specs.declared.Cursor.{Cursor}
use Rattle.walk.specs.Walk.{kit_of}
use Rattle.walk.specs.Lent.{step_of}
use Rattle.walk.specs.declared.lent.Step.{Step}
use Rattle.layout.specs.Layout.{cut_in}
use Rattle.addresses.specs.Address.{sixteen_at, shown_ip}
use Rattle.models.specs.declared.Afi.{Afi}
use Rattle.per_peer_type.specs.declared.BmpPeerType.{BmpPeerType}
use Rattle.peer_up_notification.specs.Grammar.{widths, places, grammar}
use Rattle.peer_up_notification.specs.Warnings.{Head, warnings_of}
use Rattle.peer_up_notification.specs.Told as Told
use Rattle.peer_up_notification.specs.Shown.{Front, entry, zero_tlv, sent_at, message_of, ReadPeerUp, good_answer, refused_answer, refusal_of, stop_of, shown}
use Rattle.peer_up_notification.specs.declared.PeerUpNotificationTlv.{PeerUpNotificationTlv}

-- ---- what stands before the TLVs
-- a whole BGP message at a place and the cursor past it, or why it is not there: its own length is judged before how much is left of it
abbrev pub Open : Type 0
Open = Result (View × Cursor) Refusal

unfoldable pub open_at : List ℕ → ℕ → Open
open_at s at =
    pick (ltb (length s - at) 19) (Err (cut_at (length s) at 19))
    (pick (ltb (num_at 2 s (at + 16)) 19) (Err (refusal Number.BgpLength (at + 16)))
    (pick (ltb (length s - at) (num_at 2 s (at + 16))) (Err (cut_at (length s) at (num_at 2 s (at + 16))))
    (Ok (view at (num_at 2 s (at + 16)), cursor (at + num_at 2 s (at + 16))))))

-- both messages and the place behind them, as the code looks for them before it walks
abbrev pub BothOpens : Type 0
BothOpens = Result (View × View × ℕ) Refusal

abbrev pub behind_sent : View → Open → BothOpens
behind_sent sent (Ok x) = Ok (sent, x.0, x.1.at)
behind_sent sent (Err r) = Err r

abbrev pub both_opens : List ℕ → Open → BothOpens
both_opens s (Ok x) = behind_sent x.0 (open_at s x.1.at)
both_opens s (Err r) = Err r

abbrev pub opens_of : List ℕ → BothOpens
opens_of s =
    pick (ltb Number.limit (length s)) (Err (refusal Number.TooLong 0))
    (pick (ltb (length s) sent_at) (Err (cut_in widths 0 (length s))) (both_opens s (open_at s sent_at)))

abbrev pub front_of : Afi → List ℕ → View → View → Front
front_of afi s sent received =
    record {
      local_addr = shown_ip afi (sixteen_at s 0);
      local_port = number_at 2 s 16;
      remote_port = number_at 2 s 18;
      sent_open = sent;
      received_open = received;
    }

-- ---- the TLVs
-- while at least 4 bytes are left: a TLV, whose value is Cut where it is not all there
unfoldable pub step : List ℕ → Walk.Step Tlv
step s =
    pick (ltb (length s) 4) stop
    (pick (ltb (length s - 4) (num_at 2 s 2)) (bad (cut_at (length s) 4 (num_at 2 s 2))) (item (tlv_of s)))

-- the widths of the parts of the TLV at the front
abbrev pub widths_in : List ℕ → List ℕ
widths_in s = tlv_widths (num_at 2 s 2)

abbrev pub kit : Kit
kit = kit_of Tlv PeerUpNotificationTlv step size_of entry zero_tlv places

-- where a walk stops that finds no TLV more: where it stands
abbrev pub stop_at : ℕ → List ℕ → ℕ
stop_at at s = at

-- one step at a place, as the code answers it, and the entry that it leaves
abbrev pub Stepped : Type 0
Stepped = Result Step Refusal × PeerUpNotificationTlv

abbrev pub step_at : List ℕ → ℕ → PeerUpNotificationTlv → Stepped
step_at s at e = step_of entry size_of stop_at at (drop at s) e (step (drop at s))

-- the warnings of a table's entries
abbrev pub head_in : PeerUpNotificationTlv → Head
head_in t = (t.kind, t.info_len)

abbrev pub heads_in : List PeerUpNotificationTlv → List Head
heads_in l = map head_in l

abbrev pub warnings_in : BmpPeerType → List PeerUpNotificationTlv → ℕ
warnings_in peer l = warnings_of peer (heads_in l)

-- ---- one after the other
abbrev pub with_tlvs : BmpPeerType → Front → Out PeerUpNotificationTlv → ReadPeerUp
with_tlvs peer f (good n at table z) = good_answer at (warnings_in peer (take n table)) (message_of f n table)
with_tlvs peer f (refused r) = refused_answer r

abbrev pub with_received : Afi → BmpPeerType → List ℕ → View → Open → ReadPeerUp
with_received afi peer s sent (Ok x) = with_tlvs peer (front_of afi s sent x.0) (read_from kit (length s) x.1.at s)
with_received afi peer s sent (Err r) = refused_answer r

abbrev pub with_sent : Afi → BmpPeerType → List ℕ → Open → ReadPeerUp
with_sent afi peer s (Ok x) = with_received afi peer s x.0 (open_at s x.1.at)
with_sent afi peer s (Err r) = refused_answer r

abbrev pub with_opens : Afi → BmpPeerType → List ℕ → BothOpens → ReadPeerUp
with_opens afi peer s (Ok x) = with_tlvs peer (front_of afi s x.0 x.1) (read_from kit (length s) x.2 s)
with_opens afi peer s (Err r) = refused_answer r

abbrev pub read_peer_up : Afi → BmpPeerType → List ℕ → ReadPeerUp
read_peer_up afi peer s =
    pick (ltb Number.limit (length s)) (refused_answer (refusal Number.TooLong 0))
    (pick (ltb (length s) sent_at) (refused_answer (cut_in widths 0 (length s)))
    (with_sent afi peer s (open_at s sent_at)))

-- the numbers that it refuses with
abbrev pub numbers : List ℕ
numbers = Number.TooLong ∷ Number.Cut ∷ Number.BgpLength ∷ Number.TooMany ∷ []

-- the reader with its arguments fixed, and the grammar that it is held against
abbrev pub reader : Afi → BmpPeerType → Reader
reader afi peer =
    record {
      grammar = grammar afi;
      Answer = ReadPeerUp;
      read = read_peer_up afi peer;
      shown = shown afi peer;
      tail_at = stop_of;
      told = Told.told;
      refused = refused_answer;
      refusal_of = refusal_of;
      numbers = numbers;
    }
