-- The tests of `writable` are those of the list. Assumes nothing.
use mathlib.Core.Logic.{◌⊎◌, inl, inr}
use Prim.Native.Nat.{◌^◌, ◌<◌}
use borrow.Author.Tests.{lt-ltb}
use Rattle.writing.specs.Unwritable.{NotTheOne}
use Rattle.writing.proofs.Unwritable.{FalseWhere, restated, not_equal, never, either_picked}
use Rattle.common_header_writer.specs.Write.{writable}
use Rattle.common_header_writer.specs.Unwritable.{Unwritable, version_not_3}
use Rattle.common_header.specs.declared.BmpCommonHeader.{BmpCommonHeader}

pub listed : (h : BmpCommonHeader) → h.msg_len < 256 ^ 4 → FalseWhere (writable h) (Unwritable h)
listed h small = restated forth back (either_picked (not_equal h.version 3) (never (lt-ltb h.msg_len (256 ^ 4) small)))
  where
    forth : NotTheOne 3 h.version ⊎ ⊥ → Unwritable h
    forth (inl other) = version_not_3 other
    forth (inr none) = absurd none

    back : Unwritable h → NotTheOne 3 h.version ⊎ ⊥
    back (version_not_3 other) = inl other
