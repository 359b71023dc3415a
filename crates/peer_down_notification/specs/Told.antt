-- The reading that an answer tells: its reason, its data, and the tail.
use Rattle.std.specs.Prelude.{ℕ, List}
use Rattle.wire.specs.Exactly.{Nothing}
use Rattle.wire.specs.declared.View.{View}
use Rattle.peer_down_notification.specs.Grammar.{Reading}
use Rattle.peer_down_notification.specs.Shown.{PeerDownAnswer, kind_of, told_data, notification_of}

abbrev pub told : (View → List ℕ) → PeerDownAnswer → Nothing → List ℕ → Reading
told look a x tail =
    record { reason = kind_of (notification_of a).reason; data_part = told_data look (notification_of a).«data»; tail = tail }
