-- What the reader answers, for every input.
use Rattle.std.specs.Prelude.{ℕ, ◌/◌, ◌%◌, ◌^◌, List, [], ◌∷◌, ltb, length, take, drop}
use Rattle.wire.specs.Number as Number
use Rattle.wire.specs.Bytes.{pick, num_at, number_at}
use Rattle.wire.specs.Refusal.{refusal}
use Rattle.wire.specs.Exactly.{Reader}
use Rattle.layout.specs.Layout.{cut_in}
use Rattle.per_peer_type.specs.Peer.{is_loc_rib, flag_v, flag_a}
use Rattle.per_peer_header.specs.Grammar.{widths, AddressField, ipv4, ipv6, unused, AsField, as16, as32, Reading, grammar}
use Rattle.per_peer_header.specs.Shown.{PerPeerHeaderResult, shown, refused, refusal_of, stop_of}
use Rattle.per_peer_header.specs.Told.{told}

-- the sixteen bytes of an address, and the number of an AS's four, taken apart by type and flags
abbrev pub address_field : ℕ → ℕ → List ℕ → AddressField
address_field kind flags bytes =
    pick (is_loc_rib kind) (unused bytes) (pick (flag_v flags) (ipv6 bytes) (ipv4 (take 12 bytes) (drop 12 bytes)))

abbrev pub as_field : ℕ → ℕ → ℕ → AsField
as_field kind flags number =
    pick (is_loc_rib kind) (as32 number) (pick (flag_a flags) (as16 (number / 256 ^ 2) (number % 256 ^ 2)) (as32 number))

-- an input taken apart, where it is long enough
abbrev pub parts_of : List ℕ → Reading
parts_of s =
    record {
      kind = num_at 1 s 0;
      flags = num_at 1 s 1;
      distinguisher = num_at 8 s 2;
      address = address_field (num_at 1 s 0) (num_at 1 s 1) (take 16 (drop 10 s));
      asn = as_field (num_at 1 s 0) (num_at 1 s 1) (num_at 4 s 26);
      id = num_at 4 s 30;
      seconds = num_at 4 s 34;
      microseconds = num_at 4 s 38;
      tail = drop 42 s;
    }

-- The type is judged where it is there, before the length: `number_at` is 0 where it is not.
abbrev pub read_per_peer_header : List ℕ → PerPeerHeaderResult
read_per_peer_header s =
    pick (ltb Number.limit (length s)) (refused (refusal Number.TooLong 0))
    (pick (ltb 3 (number_at 1 s 0)) (refused (refusal Number.UnknownKind 0))
    (pick (ltb (length s) 42) (refused (cut_in widths 0 (length s)))
    (shown (parts_of s))))

-- the numbers that it refuses with
abbrev pub numbers : List ℕ
numbers = Number.TooLong ∷ Number.Cut ∷ Number.UnknownKind ∷ []

-- the reader, and the grammar that it is held against
abbrev pub reader : Reader
reader =
    record {
      grammar = grammar;
      Answer = PerPeerHeaderResult;
      read = read_per_peer_header;
      shown = shown;
      tail_at = stop_of;
      told = told;
      refused = refused;
      refusal_of = refusal_of;
      numbers = numbers;
    }
