use mathlib.Core.Bool.{Bool, true, false}
use mathlib.Core.List.{List}
use mathlib.Core.Path.{◌≡◌, refl, sym, ap, ◌∙◌}
use native.Mathlib.Omega.{arith}
use Prim.Native.Nat.{ℕ, ◌+◌, ◌-◌, ◌≤◌}
use borrow.Author.Tests.{ltb-false, le-ltb, le-leb}
use lib.Dec.{ltb}
use lib.ListN.{length}
use Rattle.std.specs.declared.option.Option.TheVariants.{Some, None}
use Rattle.std.specs.declared.result.Result.{Result}
use Rattle.std.specs.declared.result.Result.TheVariants.{Ok, Err}
use Rattle.wire.specs.Number as Number
use Rattle.wire.specs.Bytes.{pick}
use Rattle.wire.specs.Refusal.{refusal}
use Rattle.wire.specs.View.{view}
use Rattle.wire.specs.declared.Refusal.{Refusal}
use Rattle.cursor.specs.declared.Cursor.{Cursor}
use Rattle.cursor.proofs.Reading.{Was, was_read}
use Rattle.peer_down_notification.specs.Shown.{reason_of, kind_of}
use Rattle.peer_down_notification.specs.Read.{has_data, named, read_peer_down}
use Rattle.peer_down_notification.specs.declared.PeerDownReason.{PeerDownReason}
use Rattle.peer_down_notification.proofs.Told.{reason_told}
use Rattle.peer_down_notification.proofs.parse_peer_down_notification.Goals as goal

-- a number whose reason has a name
record Named (kind : ℕ) (reason : PeerDownReason) : Type 0 where
  known : kind ≤ 6
  reason_is : reason ≡ reason_of kind

named_so : (kind : ℕ) (reason : PeerDownReason) → ◌≡◌ {A = Result PeerDownReason Refusal} (Ok reason) (named kind) → Named kind reason
named_so kind reason = go (ltb 6 kind) refl
  where
    go : (b : Bool) → ltb 6 kind ≡ b
        → ◌≡◌ {A = Result PeerDownReason Refusal} (Ok reason) (pick b (Err (refusal Number.UnknownKind 0)) (Ok (reason_of kind))) → Named kind reason
    go true h e = let z : ◌≡◌ {A = ℕ} 0 1 = cc in absurd (omega arith)
    go false h e = record { known = ltb-false 6 kind h; reason_is = cc }

-- what the reader answers to a reason with a name and the bytes behind it
reads : {s : List ℕ} {kind : ℕ} {next : Cursor} {reason : PeerDownReason} {rest : ℕ} (b : Bool)
    → length s ≤ Number.limit → Was 1 s 0 kind next → Named kind reason → rest ≡ length s - 1 → b ≡ has_data (kind_of reason) rest
    → pick b (Ok (record { reason = reason; «data» = Some (view 1 rest) }, 1 + rest)) (Ok (record { reason = reason; «data» = None }, 1)) ≡ read_peer_down s
reads {s} {kind} {next} {reason} {rest} b short was n e t =
    let tested : has_data kind rest ≡ b = sym (t ∙ ap (λ (k : ℕ). has_data k rest) (ap kind_of n.reason_is ∙ reason_told kind n.known)) in
    rw (
      le-ltb Number.limit (length s) short,
      le-leb 1 (length s - 0) was.left,
      sym was.number,
      le-ltb 6 kind n.known,
      sym e,
      tested,
      sym n.reason_is,
    )

pub returns-then-not-has_data : goal.returns-then-not-has_data
returns-then-not-has_data c =
    let was = was_read 1 c.args.s.now 0 c.in_ok-kind.was c.read.ensures in
    let n = named_so c.in_ok-kind.kind c.in_ok-reason.reason (sym c.in_ok-reason.was ∙ c.try_from.ensures) in
    reads false (omega arith) was n c.left-length.ensures (sym c.if-not-has_data.true ∙ c.has_data.ensures)

pub returns : goal.returns
returns c =
    let was = was_read 1 c.args.s.now 0 c.in_ok-kind.was c.read.ensures in
    let n = named_so c.in_ok-kind.kind c.in_ok-reason.reason (sym c.in_ok-reason.was ∙ c.try_from.ensures) in
    reads true (omega arith) was n c.left-length.ensures (sym c.if-not-has_data.false ∙ c.has_data.ensures)
