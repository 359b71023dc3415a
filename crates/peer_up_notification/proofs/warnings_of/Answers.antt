use mathlib.Core.Path.{◌≡◌, sym, ◌∙◌}
use borrow.Author.Tests.{eq-eqb}
use Rattle.std.proofs.Common.{rules, tests}
use Rattle.std.proofs.lemmas.Iterator.{YieldsList-from_slice}
use Rattle.std.proofs.lemmas.Iterator.Search.{any_from_yields_List}
use Rattle.wire.specs.Bytes.{pick}
use Rattle.per_peer_type.specs.Peer.{kind_of}
use Rattle.peer_up_notification.specs.Warnings.{some, is_table_name, bad_table_name, no_table_name}
use Rattle.peer_up_notification.specs.Read.{head_in, heads_in}
use Rattle.peer_up_notification.specs.declared.PeerUpNotificationTlv.{PeerUpNotificationTlv}
use Rattle.peer_up_notification.proofs.Names.{some_heads}
use Rattle.peer_up_notification.proofs.warnings_of.Goals as goal
use Rattle.peer_up_notification.proofs.warnings_of.Goals.{then-bad, else-bad, then-named, else-named}

pub returns : goal.returns
returns c =
    let l = c.args.tlvs.now in
    let bad : c.any-bad.result ≡ some bad_table_name (heads_in l) =
    any_from_yields_List (λ (t : PeerUpNotificationTlv). bad_table_name (head_in t)) _ _ c.any-bad.result c.any-bad.ensures.ran
    (YieldsList-from_slice l cc) (λ x b q k. search (rules, tests)) ∙ some_heads bad_table_name l in
    let named : c.any-named.result ≡ some is_table_name (heads_in l) =
    any_from_yields_List (λ (t : PeerUpNotificationTlv). is_table_name (head_in t)) _ _ c.any-named.result c.any-named.ensures.ran
    (YieldsList-from_slice l cc) (λ x b q k. search (rules, tests)) ∙ some_heads is_table_name l in
    let of_bad : c.if-bad.of_bad ≡ pick (some bad_table_name (heads_in l)) 8 0 =
    elim c.if-bad.branch [ then-bad w ↦ w.of_bad-is ∙ sym (rw (sym bad ∙ w.if-bad.true)) | else-bad w ↦ w.of_bad-is ∙ sym (rw (sym bad ∙ w.if-bad.false)) ] in
    let of_none : c.if-named.of_none ≡ pick (no_table_name (heads_in l)) 16 0 =
    elim c.if-named.branch [ then-named w ↦ w.of_none-is ∙ sym (rw (sym named ∙ w.if-named.true)) | else-named w ↦ w.of_none-is ∙ sym (rw (sym named ∙ w.if-named.false)) ] in
    rw (of_bad, of_none, eq-eqb (kind_of c.args.peer_type) 3 (sym c.number.ensures ∙ c.if-number-ne-LOCAL_RIB.false))
