-- What one who waits for the missing bytes gets. Assumes nothing.
use mathlib.Core.Path.{◌≡◌, refl}
use mathlib.Core.List.{List}
use Prim.Native.Nat.{ℕ, ◌-◌}
use native.Mathlib.Omega.{arith}
use lib.Dec.{ltb}
use lib.ListN.{length}
use Rattle.wire.specs.Number as Number
use Rattle.wire.specs.Bytes.{pick, has, num_at}
use Rattle.wire.specs.Refusal.{refusal, no_refusal}
use Rattle.wire.specs.Waits.{Never, Waits, MissingTells}
use Rattle.wire.proofs.Refuses.{pick_in}
use Rattle.wire.proofs.Waits.{Judge, by_number, said, ends, good, test, need, ask, waits_by, tells_by}
use Rattle.peer_down_notification.specs.Shown.{PeerDownAnswer, refusal_of}
use Rattle.peer_down_notification.specs.Read.{has_data, read_peer_down, reader}

-- the reason, which is known
judged : Judge Never 0 0
judged = ask 1 (test (λ s. ltb 6 (num_at 1 s 0)) (by_number 1 0 (omega arith) (ltb 6)) (ends Number.UnknownKind 0 refl) good)

reads : (s : List ℕ) → refusal_of (read_peer_down s) ≡ pick (ltb Number.limit (length s)) (refusal Number.TooLong 0) (judged.judge s)
unfolding judged ask need test good ends
reads s =
    let Fine : PeerDownAnswer → Type 0 = λ a. refusal_of a ≡ no_refusal in
    said refusal_of (ltb Number.limit (length s)) refl
    (said refusal_of (has 1 s 0)
    (said refusal_of (ltb 6 (num_at 1 s 0)) refl (pick_in Fine (has_data (num_at 1 s 0) (length s - 1)) refl refl)) refl)

pub waits : Waits reader
waits = waits_by reader judged reads

pub missing_tells : MissingTells reader
missing_tells = tells_by reader judged reads
