-- Which headers are not writable, as a list. It goes by no reader.
use Rattle.writing.specs.Unwritable.{NotTheOne}
use Rattle.common_header.specs.declared.BmpCommonHeader.{BmpCommonHeader}

pub data Unwritable (h : BmpCommonHeader) : Type 0 where
  version_not_3 : NotTheOne 3 h.version → Unwritable h
