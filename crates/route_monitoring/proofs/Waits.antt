-- What one who waits for the missing bytes gets. Assumes nothing.
use mathlib.Core.Path.{◌≡◌, refl}
use mathlib.Core.List.{List}
use Prim.Native.Nat.{ℕ}
use native.Mathlib.Nat.{sub-zero}
use lib.Dec.{ltb}
use lib.ListN.{length}
use Rattle.wire.specs.Number as Number
use Rattle.wire.specs.Bytes.{pick}
use Rattle.wire.specs.Refusal.{refusal}
use Rattle.wire.specs.Waits.{Never, Waits, MissingTells}
use Rattle.wire.proofs.Waits.{Judge, said, said_few, ends, good, need, ask, waits_by, tells_by}
use Rattle.models.specs.declared.AsnLength.{AsnLength}
use Rattle.per_peer_type.specs.declared.BmpPeerType.{BmpPeerType}
use Rattle.route_monitoring.specs.Shown.{refusal_of}
use Rattle.route_monitoring.specs.Read.{read_route_monitoring, reader}

-- a BGP message has its header
judged : Judge Never 0 0
judged = ask 19 good

module _ (width : AsnLength) (t : BmpPeerType) where
  reads : (s : List ℕ) → refusal_of (read_route_monitoring width t s) ≡ pick (ltb Number.limit (length s)) (refusal Number.TooLong 0) (judged.judge s)
  unfolding judged ask need good ends
  reads s =
      said refusal_of (ltb Number.limit (length s)) refl (rw (sub-zero (length s)) (said_few refusal_of (length s) 19 (λ h. refl) (λ h. refl)))

  pub waits : Waits (reader width t)
  waits = waits_by (reader width t) judged reads

  pub missing_tells : MissingTells (reader width t)
  missing_tells = tells_by (reader width t) judged reads
