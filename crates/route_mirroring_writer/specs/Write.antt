-- What the writer writes: the reading of a record, by the grammar's own parts; which records are writable; when two are the same.
use Rattle.std.specs.Prelude.{ℕ, ◌+◌, ◌<◌, ◌≡◌, Bool, true, false, List, [], take, get_or, leb, ltb, eqb, Ok, Err}
use Rattle.wire.specs.Bytes.{pick}
use Rattle.wire.specs.View.{viewed}
use Rattle.writing.specs.Table.{Writer, parts, all_ok}
use Rattle.tlv_table.specs.Tlvs.{entry_writable}
use Rattle.tlv_table.specs.declared.TlvValue.{TlvValue}
use Rattle.tlv_table.specs.declared.TlvValue.TheVariants.{Part, Number}
use Rattle.tlv_table.specs.declared.TlvEntry.{TlvEntry}
use Rattle.route_mirroring.specs.Grammar.{Tlv, bgp_message, information, put, Reading, join, places}
use Rattle.route_mirroring.specs.Shown.{ReadMirroring, code_of, value_of, zero_tlv}
use Rattle.route_mirroring.specs.declared.RouteMirroringValue.{RouteMirroringValue}
use Rattle.route_mirroring.specs.declared.RouteMirroringValue.TheVariants.{BgpMessage, Information}
use Rattle.route_mirroring.specs.declared.RouteMirroringTlv.{RouteMirroringTlv}
use Rattle.route_mirroring.specs.declared.RouteMirroring.{RouteMirroring}

-- ---- the reading of a record whose views point into a buffer
abbrev pub value_part : List ℕ → ℕ → RouteMirroringValue → Tlv
value_part b size (BgpMessage v) = bgp_message size (viewed b v)
value_part b size (Information i) = information size (code_of i)

abbrev pub part_of : List ℕ → RouteMirroringTlv → Tlv
part_of b t = value_part b t.info_len (value_of t)

-- ---- the TLV that is written for an entry
abbrev pub value_entry : ℕ → RouteMirroringValue → TlvEntry
value_entry size (BgpMessage v) = record { kind = 0; size = size; value = Part v }
value_entry size (Information i) = record { kind = 1; size = size; value = Number (code_of i) }

abbrev pub entry_of : RouteMirroringTlv → TlvEntry
entry_of t = value_entry t.info_len (value_of t)

-- ---- a TLV is writable, by the buffer's length: a BGP message of at least 19 bytes that can be written from its view, or
-- information of length 2 with code 0 or 1. Not writable is
--
--     any TLV         whose type is above 1
--     a BGP message   whose length is below 19, or whose view does not lie inside the buffer
--     information     whose length is not 2, or whose code is above 1
abbrev pub known : RouteMirroringTlv → Bool
known t = pick (eqb t.kind 0) true (pick (eqb t.kind 1) (leb t.number 1) false)

-- an entry that is writable and, where it is a part, has at least 19 bytes
abbrev pub has_header : ℕ → TlvValue → Bool
has_header size (Part v) = leb 19 size
has_header size (Number n) = true

abbrev pub headed_writable : ℕ → TlvEntry → Bool
headed_writable room e = pick (has_header e.size e.value) (entry_writable room e) false

unfoldable pub tlv_writable : ℕ → RouteMirroringTlv → Bool
tlv_writable room t = pick (known t) (headed_writable room (entry_of t)) false

abbrev pub writer : Writer
writer =
    record {
      Entry = RouteMirroringTlv;
      Item = Tlv;
      part = part_of;
      put = put;
      ok = λ room after t. tlv_writable room t;
      size = λ t. 4 + t.info_len;
    }

-- ---- the whole record: its entries below the count, and no tail
abbrev pub kept : RouteMirroring → List RouteMirroringTlv
kept m = take m.count m.tlvs

abbrev pub reading_of : RouteMirroring → List ℕ → Reading
reading_of m b = record { tlvs = parts writer b (kept m); tail = [] }

abbrev pub bytes_of : RouteMirroring → List ℕ → List ℕ
bytes_of m b = join (reading_of m b)

abbrev pub writable : RouteMirroring → ℕ → Bool
writable m room = pick (ltb places m.count) false (all_ok writer room (kept m))

-- ---- two records are the same: their numbers below the count, and the bytes that their views show, each in its own buffer
abbrev pub SameValue : RouteMirroringValue → List ℕ → RouteMirroringValue → List ℕ → Type 0
SameValue (BgpMessage v) b (BgpMessage u) s = viewed b v ≡ viewed s u
SameValue (BgpMessage v) b (Information j) s = ⊥
SameValue (Information i) b (BgpMessage u) s = ⊥
SameValue (Information i) b (Information j) s = code_of i ≡ code_of j

pub record SameTlv (t : RouteMirroringTlv) (b : List ℕ) (u : RouteMirroringTlv) (s : List ℕ) : Type 0 where
  pub kind_same : t.kind ≡ u.kind
  pub len_same : t.info_len ≡ u.info_len
  pub value_same : SameValue (value_of t) b (value_of u) s
  pub code_same : 0 < t.kind → t.number ≡ u.number

pub record Same (m : RouteMirroring) (b : List ℕ) (n : RouteMirroring) (s : List ℕ) : Type 0 where
  pub count_same : m.count ≡ n.count
  pub tlv_same : (i : ℕ) → i < m.count → SameTlv (get_or m.tlvs i zero_tlv) b (get_or n.tlvs i zero_tlv) s

-- what a reader answers shows the same record
abbrev pub SameRead : RouteMirroring → List ℕ → ReadMirroring → List ℕ → Type 0
SameRead m b (Ok a) s = Same m b a.message s
SameRead m b (Err r) s = ⊥
