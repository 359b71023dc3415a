-- The reading that an answer tells: the TLVs of its table below the count, none where it refuses, and the tail.
use Rattle.std.specs.Prelude.{ℕ, List, [], Ok, Err}
use Rattle.wire.specs.Parts.{items_in}
use Rattle.wire.specs.Tlv.{Tlv}
use Rattle.wire.specs.TlvAt.{tail_of}
use Rattle.wire.specs.Exactly.{Nothing}
use Rattle.wire.specs.declared.View.{View}
use Rattle.initiation_message.specs.Grammar.{Reading}
use Rattle.initiation_message.specs.Shown.{info_of, ReadInitiation}
use Rattle.initiation_message.specs.declared.InitiationTlv.{InitiationTlv}

abbrev pub told_tlv : (View → List ℕ) → InitiationTlv → Tlv
told_tlv look t = record { kind = t.kind; size = t.info_len; value = look (info_of t) }

abbrev pub told : (View → List ℕ) → ReadInitiation → Nothing → List ℕ → Reading
told look (Ok a) x tail = record { tlvs = items_in (told_tlv look) a.message.count a.message.tlvs; tail = tail_of tail }
told look (Err r) x tail = record { tlvs = []; tail = tail_of tail }
