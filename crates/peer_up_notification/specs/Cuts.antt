-- Where a Peer Up is cut, and what is missing there: at the first of its parts that is not whole.
use Rattle.std.specs.Prelude.{ℕ, ◌+◌, ◌≤◌, ◌<◌, ◌≡◌, List, [], ◌∷◌, ◌⊎◌, length}
use Rattle.wire.specs.Bytes.{num_at}
use Rattle.wire.specs.Tlv.{put_tlv, size_of}
use Rattle.wire.specs.Lacking.{FirstLacking, CutAfter}
use Rattle.wire.specs.declared.Refusal.{Refusal}
use Rattle.peer_up_notification.specs.Grammar.{widths, ReadTlv}
use Rattle.peer_up_notification.specs.Shown.{sent_at}
use Rattle.peer_up_notification.specs.Read.{widths_in}

-- where a message ends by its own length
abbrev pub end_at : List ℕ → ℕ → ℕ
end_at s at = at + num_at 2 s (at + 16)

-- a message at a place lacks bytes of its header; or that is there, and it lacks bytes of the length that it gives itself
abbrev pub MessageLacks : List ℕ → ℕ → Refusal → Type 0
MessageLacks s at r =
    FirstLacking (19 ∷ []) at (length s) r ⊎ ((at + 19 ≤ length s) × FirstLacking (num_at 2 s (at + 16) ∷ []) at (length s) r)

-- an OPEN starts at a place, and its header, which says how long it is, was not all there and is now, where there are m bytes: so it may be Cut
-- there once more
abbrev pub OpenBegun : List ℕ → ℕ → ℕ → Type 0
OpenBegun s m at = (length s < at + 19) × (at + 19 ≤ m) × ((at ≡ sent_at) ⊎ (at ≡ end_at s sent_at))

pub data CutIn (s : List ℕ) (r : Refusal) : Type 0 where
  in_front : FirstLacking widths 0 (length s) r → CutIn s r
  in_sent : MessageLacks s sent_at r → CutIn s r
  in_received : (at : ℕ) → sent_at + 19 ≤ length s → at ≡ end_at s sent_at → MessageLacks s at r → CutIn s r
  in_tlv : (at : ℕ) → sent_at + 19 ≤ length s → end_at s sent_at + 19 ≤ length s → at ≡ end_at s (end_at s sent_at) → at ≤ length s
      → CutAfter put_tlv ReadTlv size_of widths_in at s r → CutIn s r
