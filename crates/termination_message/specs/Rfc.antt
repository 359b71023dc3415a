-- RFC 7854, section 4.5: after the common header a Termination message has one or more TLVs of the form of an information TLV (section 4.4):
--
--     type 0   String   any text; it may stand there several times
--     type 1   Reason   a code of 2 bytes: 0 session administratively closed, 1 unspecified reason, 2 out of resources,
--                       3 redundant connection, 4 session permanently administratively closed
use Rattle.std.specs.Prelude.{ℕ, ◌≤◌, ◌<◌, List, [], map, length}
use Rattle.wire.specs.Bytes.{be}
use Rattle.wire.specs.Tlv.{short}
use Rattle.wire.specs.Rfc.{together, Each, Information, information_bytes, InformationFits}
use Rattle.termination_message.specs.Grammar as Grammar
use Rattle.termination_message.specs.Grammar.{Tlv, Reading}

pub data Item : Type 0 where
  string : (text : List ℕ) → Item
  reason : (code : ℕ) → Item

abbrev pub as_information : Item → Information
as_information (string text) = record { kind = 0; value = text }
as_information (reason code) = record { kind = 1; value = be 2 code }

abbrev pub item_bytes : Item → List ℕ
item_bytes t = information_bytes (as_information t)

abbrev pub bytes : List Item → List ℕ
bytes l = together item_bytes l

abbrev pub ItemFits : Item → Type 0
ItemFits (string text) = InformationFits (as_information (string text))
ItemFits (reason code) = code ≤ 4

pub record Conforms (l : List Item) : Type 0 where
  pub some : 0 < length l
  pub each_fits : Each ItemFits l

-- ---- what the plain reading makes of it: each TLV, with nothing left, where the last is no empty String; one that is, it takes for a tail
abbrev pub as_tlv : Item → Tlv
as_tlv (string text) = Grammar.string (length text) text
as_tlv (reason code) = Grammar.reason 2 code

abbrev pub NotEmpty : Item → Type 0
NotEmpty t = 0 < length (as_information t).value

abbrev pub reading : List Item → Reading
reading l = record { tlvs = map as_tlv l; tail = short [] }

abbrev pub reading_but_last : List Item → Reading
reading_but_last l = record { tlvs = map as_tlv l; tail = short (item_bytes (string [])) }
