-- What the writer needs of a notification. Assumes nothing.
use mathlib.Core.Path.{◌≡◌, refl, sym, ap, ◌∙◌}
use mathlib.Core.List.{List, ◌++◌, append-nil}
use Prim.Native.Nat.{ℕ, ◌+◌, ◌≤◌}
use native.Mathlib.Omega.{arith}
use lib.ListN.{length}
use lib.Seq.{sets}
use Rattle.std.specs.declared.option.Option.{Option}
use Rattle.std.specs.declared.option.Option.TheVariants.{Some, None}
use Rattle.wire.specs.declared.View.{View}
use Rattle.wire.specs.Bytes.{be}
use Rattle.wire.specs.View.{no_view, viewed}
use Rattle.wire.proofs.Views.{viewed_inside}
use Rattle.writing.specs.Write.{put_at}
use Rattle.writing.proofs.Sets.{put_fits, put_then}
use Rattle.peer_down_notification.specs.Grammar.{data_bytes}
use Rattle.peer_down_notification.specs.Shown.{kind_of, view_of, data_of}
use Rattle.peer_down_notification_writer.specs.Write.{bytes_of}
use Rattle.peer_down_notification.specs.declared.PeerDownNotification.{PeerDownNotification}

pub data_viewed : (b : List ℕ) (d : Option View) → viewed b (view_of d) ≡ data_bytes (data_of b d)
data_viewed b None = viewed_inside b (no_view) (omega arith)
data_viewed b (Some v) = refl

-- the reason, and the bytes that the view shows
pub bytes_are : (m : PeerDownNotification) (b : List ℕ) → be 1 (kind_of m.reason) ++ viewed b (view_of m.«data») ≡ bytes_of m b
bytes_are m b = ap (λ (l : List ℕ). be 1 (kind_of m.reason) ++ l) (data_viewed b m.«data» ∙ sym (append-nil (data_bytes (data_of b m.«data»))))

pub bytes_long : (m : PeerDownNotification) (b : List ℕ) → length (bytes_of m b) ≡ 1 + length (viewed b (view_of m.«data»))
unfolding be
bytes_long m b = ap length (sym (bytes_are m b)) ∙ omega arith

-- the number of the reason was put, and behind it what the view shows
pub put_whole : (m : PeerDownNotification) (b out o1 o2 : List ℕ) → 1 + length (viewed b (view_of m.«data»)) ≤ length out
    → o1 ≡ put_at out 0 (be 1 (kind_of m.reason)) → o2 ≡ put_at o1 1 (viewed b (view_of m.«data»)) → o2 ≡ sets out 0 (bytes_of m b)
unfolding be
put_whole m b out o1 o2 room e f =
    put_then out o1 o2 0 1 (be 1 (kind_of m.reason)) (viewed b (view_of m.«data»)) (omega arith) e refl f
    ∙ ap (put_at out 0) (bytes_are m b) ∙ put_fits out 0 (bytes_of m b) (omega (arith, bytes_long m b))
