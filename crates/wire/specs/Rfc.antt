-- What the RFCs say of parts that several messages share. Nothing here goes by a reader, and nothing takes an input apart.
use Rattle.std.specs.Prelude.{ℕ, ◌+◌, ◌^◌, ◌<◌, ◌≡◌, List, [], ◌∷◌, ◌++◌, length, replicate}
use Rattle.wire.specs.Bytes.{be, Bytes}
use Rattle.wire.specs.Tlv.{Tlv}

-- ---- some things one after the other
abbrev pub together : {A : Type 0} → (A → List ℕ) → List A → List ℕ
together bytes [] = []
together bytes (a ∷ l) = bytes a ++ together bytes l

abbrev pub Each : {A : Type 0} → (A → Type 0) → List A → Type 0
Each P [] = Unit {0}
Each P (a ∷ l) = P a × Each P l

-- the last of them, where there is one
abbrev pub Last : {A : Type 0} → (A → Type 0) → List A → Type 0
Last P [] = Unit {0}
Last P (a ∷ []) = P a
Last P (a ∷ (b ∷ l)) = Last P (b ∷ l)

-- ---- RFC 7854, section 4.4: an information TLV is a type of 2 bytes, the length of the value in 2 bytes, and the value
pub record Information : Type 0 where
  pub kind : ℕ
  pub value : List ℕ

abbrev pub information_bytes : Information → List ℕ
information_bytes t = be 2 t.kind ++ (be 2 (length t.value) ++ t.value)

pub record InformationFits (t : Information) : Type 0 where
  pub kind_fits : t.kind < 2 ^ 16
  pub value_fits : length t.value < 2 ^ 16
  pub value-bytes : Bytes t.value

-- the same as the grammars have it
abbrev pub as_tlv : Information → Tlv
as_tlv t = record { kind = t.kind; size = length t.value; value = t.value }

-- ---- RFC 4271, section 4.1: a BGP message is a marker of 16 bytes of all ones, the length of the message in 2 bytes, a type of 1 byte, and
-- its contents. Such a length is at most 4,096, or 65,535 by RFC 8654.
pub record BgpMessage : Type 0 where
  pub kind : ℕ
  pub contents : List ℕ

abbrev pub bgp_length : BgpMessage → ℕ
bgp_length m = 19 + length m.contents

abbrev pub bgp_bytes : BgpMessage → List ℕ
bgp_bytes m = replicate 16 0xFF ++ (be 2 (bgp_length m) ++ (be 1 m.kind ++ m.contents))

-- a message of a type: 1 OPEN, 2 UPDATE, 3 NOTIFICATION
pub record IsBgp (kind : ℕ) (m : BgpMessage) : Type 0 where
  pub kind_is : m.kind ≡ kind
  pub length_fits : bgp_length m < 2 ^ 16
  pub contents_bytes : Bytes m.contents
