use mathlib.Core.Path.{◌≡◌, ap, ◌∙◌}
use mathlib.Core.List.{[], ◌∷◌}
use Prim.Native.Nat.{◌+◌}
use native.Mathlib.Omega.{arith}
use lib.ListN.{length}
use Rattle.wire.proofs.Bytes.{be_one}
use Rattle.writing.specs.Write.{put_at}
use Rattle.decimal.specs.Decimal.{decimal}
use Rattle.listing.proofs.Puts.{put_ends, then}
use Rattle.listing.proofs.put_field.Goals as goal

pub returns-clause-puts : goal.returns-clause-puts
returns-clause-puts c =
    let both = let a = c.args in
    let next = a.at + c.put_decimal.result in
    let at_next : next ≡ a.at + length (decimal a.n) = ap (λ i. a.at + i) c.put_decimal.ensures.value in
    then a.out.now c.put_decimal.new.out c.put.new.out (decimal a.n) (a.after ∷ []) a.at next (next + 1) c.put_decimal.auto.out
    (put_ends a.out.now c.put_decimal.new.out (decimal a.n) a.at next at_next c.put_decimal.ensures.out_after)
    (put_ends c.put_decimal.new.out c.put.new.out (a.after ∷ []) next (next + 1) (omega arith)
    (c.put.ensures ∙ ap (put_at c.put_decimal.new.out next) (be_one a.after c.ranges.after.fits))) in both.1
