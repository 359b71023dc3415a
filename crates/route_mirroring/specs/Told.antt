-- The reading that an answer tells: the TLVs of its table below the count, none where it refuses, and the tail.
use Rattle.std.specs.Prelude.{ℕ, List, [], Ok, Err}
use Rattle.wire.specs.Parts.{items_in}
use Rattle.wire.specs.Exactly.{Nothing}
use Rattle.wire.specs.declared.View.{View}
use Rattle.route_mirroring.specs.Grammar.{Tlv, bgp_message, information, Reading}
use Rattle.route_mirroring.specs.Shown.{code_of, value_of, ReadMirroring}
use Rattle.route_mirroring.specs.declared.RouteMirroringValue.{RouteMirroringValue}
use Rattle.route_mirroring.specs.declared.RouteMirroringValue.TheVariants.{BgpMessage, Information}
use Rattle.route_mirroring.specs.declared.RouteMirroringTlv.{RouteMirroringTlv}

abbrev pub told_value : (View → List ℕ) → ℕ → RouteMirroringValue → Tlv
told_value look size (BgpMessage v) = bgp_message size (look v)
told_value look size (Information i) = information size (code_of i)

abbrev pub told_tlv : (View → List ℕ) → RouteMirroringTlv → Tlv
told_tlv look t = told_value look t.info_len (value_of t)

abbrev pub told_tlvs : (View → List ℕ) → ReadMirroring → List Tlv
told_tlvs look (Ok a) = items_in (told_tlv look) a.message.count a.message.tlvs
told_tlvs look (Err r) = []

abbrev pub told : (View → List ℕ) → ReadMirroring → Nothing → List ℕ → Reading
told look a x tail = record { tlvs = told_tlvs look a; tail = tail }
