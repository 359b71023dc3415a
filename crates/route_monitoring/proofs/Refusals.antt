-- What the reader refuses, and with which numbers. Assumes nothing.
use mathlib.Core.Path.{refl}
use mathlib.Core.List.{List, []}
use Prim.Native.Nat.{ℕ}
use lib.Dec.{ltb}
use lib.ListN.{length}
use Rattle.wire.specs.Number as Number
use Rattle.wire.specs.Bytes.{none}
use Rattle.wire.specs.Refuses.{Refuses}
use Rattle.wire.proofs.Refuses.{pick_in, Answered, is_good, is_empty, one_of, GivesEach, gives_too_long, refuses_from}
use Rattle.models.specs.declared.AsnLength.{AsnLength}
use Rattle.per_peer_type.specs.declared.BmpPeerType.{BmpPeerType}
use Rattle.route_monitoring.specs.Read.{read_route_monitoring, numbers, reader}

module _ (width : AsnLength) (t : BmpPeerType) where
  answered : (s : List ℕ) → Answered (reader width t) (read_route_monitoring width t s)
  answered s =
      let P = Answered (reader width t) in
      pick_in P (ltb Number.limit (length s)) (is_empty refl (one_of numbers Number.TooLong refl))
      (pick_in P (ltb (length s) 19) (is_empty refl (one_of numbers Number.Cut refl)) (is_good refl))

  -- none
  given : GivesEach (reader width t) numbers
  given = (gives_too_long (reader width t) _ _ (λ s. refl) refl, (([], none, refl), tt))

  pub refuses : Refuses (reader width t)
  refuses = refuses_from (reader width t) answered given
