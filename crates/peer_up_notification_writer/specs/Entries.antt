-- What table_writer and the writing kit ask of the entries of a Peer Up body. Assumes nothing.
use mathlib.Core.Path.{refl}
use Rattle.wire.specs.Bytes.{be}
use Rattle.tlv_table.proofs.Table.{Entries}
use Rattle.peer_up_notification_writer.specs.Write.{writer, entry_of}

-- ---- what is put for one TLV
pub entries : Entries writer entry_of
unfolding be
entries = record { put_is = λ b t r. refl; fine = λ room after t e. e; size_is = λ t. refl }
