-- RFC 7854, section 4.3: after the common header an Initiation message has information TLVs (section 4.4), a sys_descr and a sys_name among
-- them:
--
--     type 0   String     any text; it may stand there several times
--     type 1   sys_descr   at least one
--     type 2   sys_name    at least one
--
-- Types that a receiver does not know may stand there too.
use Rattle.std.specs.Prelude.{ℕ, ◌<◌, ◌≡◌, List, [], ◌∷◌, map, ◌⊎◌, length}
use Rattle.wire.specs.Tlv.{short}
use Rattle.wire.specs.Rfc.{together, Each, Information, information_bytes, InformationFits, as_tlv}
use Rattle.initiation_message.specs.Grammar.{Reading}

abbrev pub Has : ℕ → List Information → Type 0
Has kind [] = ⊥
Has kind (t ∷ l) = (t.kind ≡ kind) ⊎ Has kind l

pub record Conforms (l : List Information) : Type 0 where
  pub each_fits : Each InformationFits l
  pub sys_descr : Has 1 l
  pub sys_name : Has 2 l

abbrev pub bytes : List Information → List ℕ
bytes l = together information_bytes l

-- ---- what the plain reading makes of it: each TLV, with nothing left, where the last TLV is not empty; one that is, it takes for a tail
abbrev pub NotEmpty : Information → Type 0
NotEmpty t = 0 < length t.value

abbrev pub reading : List Information → Reading
reading l = record { tlvs = map as_tlv l; tail = short [] }

abbrev pub reading_but_last : List Information → Information → Reading
reading_but_last l last = record { tlvs = map as_tlv l; tail = short (information_bytes last) }
