use borrow.Author.Tests.{lt-ltb, eq-eqb, ne_eqb}
use Prim.Native.Nat.{◌^◌}
use Rattle.writing.specs.Write.{tlv_fits}
use Rattle.writing.proofs.tlv_fits.Goals as goal

pub returns-then-view-size : goal.returns-then-view-size
unfolding tlv_fits
returns-then-view-size c = rw (lt-ltb c.args.kind (256 ^ 2) c.ranges.kind.fits, lt-ltb c.args.size (256 ^ 2) c.ranges.size.fits, ne_eqb _ _ c.if-view-size.true)

pub returns : goal.returns
unfolding tlv_fits
returns c = rw (lt-ltb c.args.kind (256 ^ 2) c.ranges.kind.fits, lt-ltb c.args.size (256 ^ 2) c.ranges.size.fits, eq-eqb _ _ c.if-view-size.false) c.is_inside.ensures
