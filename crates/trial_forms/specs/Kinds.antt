-- The kinds of records by number.
use Rattle.std.specs.Prelude.{ℕ, List, [], ◌∷◌}
use Rattle.wire.specs.Arms.{arm_of}
use Rattle.trial_forms.specs.declared.Kind.{Kind}
use Rattle.trial_forms.specs.declared.Kind.TheVariants.{Common, PerPeer, OpenBmp, Stats, Initiation, Termination, Mirroring, PeerUp, PeerDown, Monitoring}

abbrev pub kinds : List (ℕ × Kind)
kinds =
    (0, Common)
    ∷ (1, PerPeer)
    ∷ (2, OpenBmp)
    ∷ (3, Stats)
    ∷ (4, Initiation)
    ∷ (5, Termination)
    ∷ (6, Mirroring)
    ∷ (7, PeerUp)
    ∷ (8, PeerDown)
    ∷ []

-- the last kind has every other number
abbrev pub kind_at : ℕ → Kind
kind_at n = arm_of kinds n Monitoring
