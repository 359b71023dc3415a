use mathlib.Core.List.{◌++◌}
use native.Mathlib.Omega.{arith}
use lib.ListN.{length}
use Rattle.wire.specs.Number as Number
use Rattle.wire.specs.Bytes.{Bytes}
use Rattle.wire.proofs.Held.{slice_bytes}
use Rattle.listing.specs.Text.{refused_line, end_line}
use Rattle.listing.specs.Steps.{lines_from}
use Rattle.listing.proofs.Whole.{text_too_long, text_listed, asks_behind, put_behind}
use Rattle.listing.proofs.put_text.Goals as goal

pub put_refusal-requires : goal.put_refusal-requires
put_refusal-requires c =
    let stream-bytes : Bytes c.args.s.now = slice_bytes c.args.s.now (λ i. omega (arith, c.type_inv.s i)) in
    asks_behind c.args.s.now (refused_line 0 Number.TooLong ++ end_line 0) (text_too_long c.args.s.now c.if-s-gt-LONGEST.true) stream-bytes

pub returns-then-s-gt-LONGEST-clause-value : goal.returns-then-s-gt-LONGEST-clause-value
returns-then-s-gt-LONGEST-clause-value c =
    let both = let a = c.args in
    put_behind a.s.now (refused_line 0 Number.TooLong ++ end_line 0) (text_too_long a.s.now c.if-s-gt-LONGEST.true)
    a.out.now c.put_bytes.new.out c.put_refusal.new.out c.put_refusal.result c.put_bytes.auto.out c.put_bytes.ensures (c.put_refusal.ensures.value, c.put_refusal.ensures.puts) in both.0

pub returns-then-s-gt-LONGEST-clause-puts : goal.returns-then-s-gt-LONGEST-clause-puts
returns-then-s-gt-LONGEST-clause-puts c =
    let both = let a = c.args in
    put_behind a.s.now (refused_line 0 Number.TooLong ++ end_line 0) (text_too_long a.s.now c.if-s-gt-LONGEST.true)
    a.out.now c.put_bytes.new.out c.put_refusal.new.out c.put_refusal.result c.put_bytes.auto.out c.put_bytes.ensures (c.put_refusal.ensures.value, c.put_refusal.ensures.puts) in both.1

pub put_lines-requires-clause-s_bound : goal.put_lines-requires-clause-s_bound
put_lines-requires-clause-s_bound c =
    let stream-bytes : Bytes c.args.s.now = slice_bytes c.args.s.now (λ i. omega (arith, c.type_inv.s i)) in
    let a = c.args in
    asks_behind a.s.now (lines_from (length a.s.now) 0 a.s.now) (text_listed a.s.now c.if-s-gt-LONGEST.false) stream-bytes

pub returns-clause-value : goal.returns-clause-value
returns-clause-value c =
    let both = let a = c.args in
    put_behind a.s.now (lines_from (length a.s.now) 0 a.s.now) (text_listed a.s.now c.if-s-gt-LONGEST.false)
    a.out.now c.put_bytes.new.out c.put_lines.new.out c.put_lines.result c.put_bytes.auto.out c.put_bytes.ensures (c.put_lines.ensures.value, c.put_lines.ensures.puts) in both.0

pub returns-clause-puts : goal.returns-clause-puts
returns-clause-puts c =
    let both = let a = c.args in
    put_behind a.s.now (lines_from (length a.s.now) 0 a.s.now) (text_listed a.s.now c.if-s-gt-LONGEST.false)
    a.out.now c.put_bytes.new.out c.put_lines.new.out c.put_lines.result c.put_bytes.auto.out c.put_bytes.ensures (c.put_lines.ensures.value, c.put_lines.ensures.puts) in both.1
