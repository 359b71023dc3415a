-- The reading that an answer tells: the TLVs of its table below the count, none where it refuses, and the tail.
use Rattle.std.specs.Prelude.{ℕ, List, [], Ok, Err}
use Rattle.wire.specs.Parts.{items_in}
use Rattle.wire.specs.TlvAt.{tail_of}
use Rattle.wire.specs.Exactly.{Nothing}
use Rattle.wire.specs.declared.View.{View}
use Rattle.termination_message.specs.Grammar.{Tlv, string, reason, Reading}
use Rattle.termination_message.specs.Shown.{code_of, value_of, ReadTermination}
use Rattle.termination_message.specs.declared.TerminationTlvValue.{TerminationTlvValue}
use Rattle.termination_message.specs.declared.TerminationTlv.{TerminationTlv}

abbrev pub told_value : (View → List ℕ) → ℕ → TerminationTlvValue → Tlv
told_value look size (TerminationTlvValue.String v) = string size (look v)
told_value look size (TerminationTlvValue.Reason c) = reason size (code_of c)

abbrev pub told_tlv : (View → List ℕ) → TerminationTlv → Tlv
told_tlv look t = told_value look t.info_len (value_of t)

abbrev pub told : (View → List ℕ) → ReadTermination → Nothing → List ℕ → Reading
told look (Ok a) x tail = record { tlvs = items_in (told_tlv look) a.message.count a.message.tlvs; tail = tail_of tail }
told look (Err r) x tail = record { tlvs = []; tail = tail_of tail }
