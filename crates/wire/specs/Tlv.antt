-- Information TLVs (RFC 7854, section 4.4), and what a walk over them leaves. Nothing here takes an input apart.
use Rattle.std.specs.Prelude.{ℕ, ◌+◌, ◌^◌, ◌≤◌, ◌<◌, ◌≡◌, List, ◌++◌, length}
use Rattle.wire.specs.Bytes.{be, Bytes}

-- a type, the length of the value in bytes, the value
pub record Tlv : Type 0 where
  pub kind : ℕ
  pub size : ℕ
  pub value : List ℕ

-- its bytes, and then the rest: two bytes of type, two of length, the value
abbrev pub put_tlv : Tlv → List ℕ → List ℕ
put_tlv t r = be 2 t.kind ++ (be 2 t.size ++ (t.value ++ r))

-- how many bytes it takes
abbrev pub size_of : Tlv → ℕ
size_of t = 4 + t.size

-- its numbers fit their two bytes, and its length is that of its value
pub record GoodTlv (t : Tlv) : Type 0 where
  pub kind_fits : t.kind < 256 ^ 2
  pub size_fits : t.size < 256 ^ 2
  pub size_is : length t.value ≡ t.size
  pub value-bytes : Bytes t.value

-- where a walk that goes on while more than 4 bytes are left ends: at most 4 bytes, or a type and a length that says more than
-- the bytes that follow it
pub data Tail : Type 0 where
  short : List ℕ → Tail
  oversized : (kind size : ℕ) → List ℕ → Tail

abbrev pub put_tail : Tail → List ℕ
put_tail (short z) = z
put_tail (oversized kind size z) = be 2 kind ++ (be 2 size ++ z)

pub record Oversized (kind size : ℕ) (z : List ℕ) : Type 0 where
  pub kind_fits : kind < 256 ^ 2
  pub size_fits : size < 256 ^ 2
  pub some : 0 < length z
  pub too_few : length z < size
  pub are_bytes : Bytes z

abbrev pub GoodTail : Tail → Type 0
GoodTail (short z) = (length z ≤ 4) × Bytes z
GoodTail (oversized kind size z) = Oversized kind size z
