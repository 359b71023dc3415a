-- What the writer writes: the reading of a record, by the grammar's own parts; which records are writable; when two are the same.
use Rattle.std.specs.Prelude.{ℕ, ◌+◌, ◌^◌, ◌<◌, ◌≡◌, Bool, false, ◌&&◌, List, [], ◌++◌, length, drop, get_or, replicate, leb, ltb, eqb}
use Rattle.wire.specs.Bytes.{pick, be, num_at, Octets}
use Rattle.wire.specs.View.{inside, viewed}
use Rattle.wire.specs.Tlv.{Tlv, put_tlv}
use Rattle.wire.specs.declared.View.{View}
use Rattle.writing.specs.Table.{Writer, parts, all_ok}
use Rattle.tlv_table.specs.Tlvs.{entry_writable}
use Rattle.tlv_table.specs.declared.TlvValue.TheVariants.{Part}
use Rattle.tlv_table.specs.declared.TlvEntry.{TlvEntry}
use Rattle.addresses.specs.Address.{shown_ip}
use Rattle.models.specs.Address.{same_address}
use Rattle.models.specs.declared.IpAddr.{IpAddr}
use Rattle.peer_up_notification.specs.Grammar.{skipped_for, Reading, join, places}
use Rattle.peer_up_notification.specs.Shown.{info_of, zero_tlv, kept}
use Rattle.peer_up_notification.specs.Told.{open_of}
use Rattle.peer_up_notification.specs.declared.PeerUpNotificationTlv.{PeerUpNotificationTlv}
use Rattle.peer_up_notification.specs.declared.PeerUpNotification.{PeerUpNotification}

-- ---- the reading of a record whose views point into a buffer
abbrev pub part_of : List ℕ → PeerUpNotificationTlv → Tlv
part_of b t = record { kind = t.kind; size = t.info_len; value = viewed b (info_of t) }

-- ---- an address is writable where it is the one that its octets show: where bytes are skipped, they are zero
abbrev pub address_writable : IpAddr → Bool
address_writable a = same_address (shown_ip a.afi a.octets) a

-- ---- a BGP message is writable: its view lies inside the buffer and has 19 to 65,535 bytes, and its own length says as many
unfoldable pub open_writable : List ℕ → View → Bool
open_writable b v =
    inside (length b) v && (leb 19 v.length && (ltb v.length (256 ^ 2) && eqb (num_at 2 (viewed b v) 16) v.length))

-- ---- the TLV that is written for an entry, which is writable, by the buffer's length, where it can be written from its view
abbrev pub entry_of : PeerUpNotificationTlv → TlvEntry
entry_of t = record { kind = t.kind; size = t.info_len; value = Part (info_of t) }

abbrev pub tlv_writable : ℕ → PeerUpNotificationTlv → Bool
tlv_writable buffer_length t = entry_writable buffer_length (entry_of t)

abbrev pub writer : Writer
writer =
    record {
      Entry = PeerUpNotificationTlv;
      Item = Tlv;
      part = part_of;
      put = put_tlv;
      ok = λ buffer_length after t. tlv_writable buffer_length t;
      size = λ t. 4 + t.info_len;
    }

-- ---- the whole record: its entries below the count, zeros for what is skipped, and no tail
abbrev pub reading_of : PeerUpNotification → List ℕ → Reading
reading_of m b =
    record {
      skipped = replicate (skipped_for m.local_addr.afi) 0;
      address = drop (skipped_for m.local_addr.afi) m.local_addr.octets;
      local_port = m.local_port;
      remote_port = m.remote_port;
      sent_open = open_of (viewed b m.sent_open);
      received_open = open_of (viewed b m.received_open);
      tlvs = parts writer b (kept m);
      tail = [];
    }

abbrev pub bytes_of : PeerUpNotification → List ℕ → List ℕ
bytes_of m b = join (reading_of m b)

abbrev pub tlvs_writable : PeerUpNotification → ℕ → Bool
tlvs_writable m buffer_length = pick (ltb places m.count) false (all_ok writer buffer_length (kept m))

abbrev pub writable : PeerUpNotification → List ℕ → Bool
writable m b =
    address_writable m.local_addr
    && (open_writable b m.sent_open && (open_writable b m.received_open && tlvs_writable m (length b)))

-- as the code judges it: all but the TLVs, and then those
abbrev pub front_writable : List ℕ → IpAddr → View → View → Bool
front_writable b address sent received = address_writable address && (open_writable b sent && open_writable b received)

-- the bytes before the TLVs of a writable record, and how many they are
abbrev pub endpoint_bytes : IpAddr → ℕ → ℕ → List ℕ
endpoint_bytes address local remote = address.octets ++ (be 2 local ++ be 2 remote)

abbrev pub open_bytes : List ℕ → View → View → List ℕ
open_bytes b sent received = viewed b sent ++ viewed b received

abbrev pub front_bytes : PeerUpNotification → List ℕ → List ℕ
front_bytes m b = endpoint_bytes m.local_addr m.local_port m.remote_port ++ open_bytes b m.sent_open m.received_open

abbrev pub front_length : PeerUpNotification → ℕ
front_length m = 20 + (m.sent_open.length + m.received_open.length)

-- ---- what the types of its fields say of every record
pub record Typed (m : PeerUpNotification) : Type 0 where
  pub octets : Octets 16 m.local_addr.octets
  pub local_port_fits : m.local_port < 256 ^ 2
  pub remote_port_fits : m.remote_port < 256 ^ 2
  pub table_long : length m.tlvs ≡ places

-- ---- two records are the same: their numbers (in the table those below the count), and the bytes that their views show, each in its
-- own buffer
pub record SameTlv (t : PeerUpNotificationTlv) (b : List ℕ) (u : PeerUpNotificationTlv) (s : List ℕ) : Type 0 where
  pub kind_same : t.kind ≡ u.kind
  pub len_same : t.info_len ≡ u.info_len
  pub bytes_same : viewed b (info_of t) ≡ viewed s (info_of u)

pub record Same (m : PeerUpNotification) (b : List ℕ) (n : PeerUpNotification) (s : List ℕ) : Type 0 where
  pub address_same : m.local_addr ≡ n.local_addr
  pub local_port_same : m.local_port ≡ n.local_port
  pub remote_port_same : m.remote_port ≡ n.remote_port
  pub sent_same : viewed b m.sent_open ≡ viewed s n.sent_open
  pub received_same : viewed b m.received_open ≡ viewed s n.received_open
  pub count_same : m.count ≡ n.count
  pub tlv_same : (i : ℕ) → i < m.count → SameTlv (get_or m.tlvs i zero_tlv) b (get_or n.tlvs i zero_tlv) s
