-- RFC 7854, section 4.7: after the per-peer header a Route Mirroring message has TLVs of the form of an information TLV (section 4.4):
--
--     type 1   Information   a code of 2 bytes: 0 Errored PDU, which a BGP Message goes with, 1 Messages Lost
--     type 0   BGP Message   the message as it was received, good or not: at least a BGP header of 19 bytes. It comes last
use Rattle.std.specs.Prelude.{ℕ, ◌^◌, ◌≤◌, ◌<◌, ◌≡◌, List, [], ◌∷◌, ◌++◌, map, ◌⊎◌, length}
use Rattle.wire.specs.Bytes.{be, Bytes}
use Rattle.wire.specs.Rfc.{together, Each, information_bytes}
use Rattle.route_mirroring.specs.Grammar.{Tlv, bgp_message, information, Reading}

pub data Mirrored : Type 0 where
  nothing : Mirrored
  message : (octets : List ℕ) → Mirrored

pub record Body : Type 0 where
  pub codes : List ℕ
  pub mirrored : Mirrored

abbrev pub code_bytes : ℕ → List ℕ
code_bytes code = information_bytes (record { kind = 1; value = be 2 code })

abbrev pub mirrored_bytes : Mirrored → List ℕ
mirrored_bytes nothing = []
mirrored_bytes (message octets) = information_bytes (record { kind = 0; value = octets })

abbrev pub bytes : Body → List ℕ
bytes b = together code_bytes b.codes ++ mirrored_bytes b.mirrored

-- ---- what conforms
pub record MessageFits (octets : List ℕ) : Type 0 where
  pub has-header : 19 ≤ length octets
  pub length_fits : length octets < 2 ^ 16
  pub are_bytes : Bytes octets

abbrev pub MirroredFits : Mirrored → Type 0
MirroredFits nothing = Unit {0}
MirroredFits (message octets) = MessageFits octets

abbrev pub HasErrored : List ℕ → Type 0
HasErrored [] = ⊥
HasErrored (code ∷ l) = (code ≡ 0) ⊎ HasErrored l

pub record Conforms (b : Body) : Type 0 where
  pub codes_known : Each (λ code. code ≤ 1) b.codes
  pub mirrored_fits : MirroredFits b.mirrored
  pub errored_is_there : HasErrored b.codes → b.mirrored ≡ nothing → ⊥

-- ---- what the plain reading makes of it: each TLV, with nothing left
abbrev pub mirrored_tlvs : Mirrored → List Tlv
mirrored_tlvs nothing = []
mirrored_tlvs (message octets) = bgp_message (length octets) octets ∷ []

abbrev pub reading : Body → Reading
reading b = record { tlvs = map (information 2) b.codes ++ mirrored_tlvs b.mirrored; tail = [] }
