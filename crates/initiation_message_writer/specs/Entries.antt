-- What table_writer and the writing kit ask of the entries of an Initiation body. Assumes nothing.
use mathlib.Core.Path.{refl}
use Rattle.wire.specs.Bytes.{be}
use Rattle.tlv_table.proofs.Written.{before_of}
use Rattle.tlv_table.proofs.Table.{Entries}
use Rattle.initiation_message_writer.specs.Write.{writer, entry_of}

-- ---- what is put for one TLV
pub entries : Entries writer entry_of
unfolding be
entries = record { put_is = λ b t r. refl; fine = λ room after t e. (before_of room after (entry_of t) e).alone; size_is = λ t. refl }
