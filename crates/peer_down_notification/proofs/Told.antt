-- A good reading is told by the answer that shows it. Assumes nothing.
use Prim.Native.Nat.{ℕ, ◌≤◌}
use mathlib.Core.Path.{◌≡◌, refl, sym, ◌∙◌}
use mathlib.Core.List.{List, ◌++◌}
use lib.ListN.{length, drop, length-append}
use lib.Seq.{drop_at, drop-drop}
use native.Mathlib.Omega.{arith}
use Rattle.wire.specs.Bytes.{be}
use Rattle.wire.specs.Exactly.{Told}
use Rattle.wire.proofs.Arms.{number_of_name}
use Rattle.peer_down_notification.specs.Grammar.{Data, absent, present, data_bytes}
use Rattle.peer_down_notification.specs.Shown.{names, reason_of, kind_of, stop_after}
use Rattle.peer_down_notification.specs.Read.{reader}
use Rattle.peer_down_notification.specs.declared.PeerDownReason.TheVariants.{LocalSystemClosedTlvDataFollows}
use Rattle.peer_down_notification.proofs.Laws.{known_of, data_shown}

-- A reason that is known is told by its name.
pub reason_told : (n : ℕ) → n ≤ 6 → kind_of (reason_of n) ≡ n
unfolding reason_of kind_of
reason_told n h = number_of_name kind_of n LocalSystemClosedTlvDataFollows names refl (λ k. omega arith)

tail_told : (k : ℕ) (d : Data) (z : List ℕ) → drop (stop_after d) (be 1 k ++ (data_bytes d ++ z)) ≡ z
unfolding be
tail_told k absent z = refl
tail_told k (present b) z = sym (drop-drop (length b) 1 (be 1 k ++ (b ++ z))) ∙ drop_at b z (length b) refl

stop_within : (k : ℕ) (d : Data) (z : List ℕ) → stop_after d ≤ length (be 1 k ++ (data_bytes d ++ z))
unfolding be
stop_within k absent z = omega arith
stop_within k (present b) z = omega (arith, length-append b z)

pub told_back : Told reader
told_back r g f =
    let reason-is = reason_told r.reason (known_of r.reason r.data_part r.tail g.follows) in
    let data_is = data_shown r.reason r.data_part r.tail in
    record {
      told_so = λ i. record { reason = reason-is i; data_part = data_is i; tail = r.tail };
      tail_so = tail_told r.reason r.data_part r.tail;
      tail_within = stop_within r.reason r.data_part r.tail;
    }
