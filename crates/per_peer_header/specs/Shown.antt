-- How a reading is shown in the answer, and what a refusal shows.
use Rattle.std.specs.Prelude.{ℕ, Result, Ok, Err, ◌++◌, replicate}
use Rattle.std.specs.Float.{binary64}
use Rattle.std.specs.Float.Ieee.{of_bits}
use Rattle.wire.specs.Refusal.{no_refusal}
use Rattle.wire.specs.declared.Refusal.{Refusal}
use Rattle.models.specs.Address.{unspecified}
use Rattle.times.specs.Time.{time_of}
use Rattle.models.specs.declared.Afi.TheVariants.{Ipv4, Ipv6}
use Rattle.models.specs.declared.IpAddr.{IpAddr}
use Rattle.per_peer_header.specs.Grammar.{AddressField, ipv4, ipv6, unused, AsField, as16, as32, Reading}
use Rattle.per_peer_header.specs.Warnings.{warnings}
use Rattle.per_peer_type.specs.Peer.{type_of}
use Rattle.per_peer_type.specs.declared.BmpPeerType.TheVariants.{Global}
use Rattle.per_peer_record.specs.declared.BmpPerPeerHeader.{BmpPerPeerHeader}
use Rattle.per_peer_header.specs.declared.PerPeerHeaderAnswer.{PerPeerHeaderAnswer}

-- an IPv4 address with zeros before its four octets; of a Loc-RIB IPv4 zero, whatever stands in the field
abbrev pub shown_address : AddressField → IpAddr
shown_address (ipv4 skipped address) = record { octets = replicate 12 0 ++ address; afi = Ipv4 }
shown_address (ipv6 address) = record { octets = address; afi = Ipv6 }
shown_address (unused skipped) = unspecified

abbrev pub shown_asn : AsField → ℕ
shown_asn (as16 skipped number) = number
shown_asn (as32 number) = number

abbrev pub shown_header : Reading → BmpPerPeerHeader
shown_header r =
    record {
      peer_type = type_of r.kind;
      peer_flags = record { 0 = r.flags };
      peer_distinguisher = record { 0 = r.distinguisher };
      peer_ip = shown_address r.address;
      peer_asn = record { 0 = shown_asn r.asn };
      peer_bgp_id = record { 0 = r.id };
      timestamp = time_of r.seconds r.microseconds;
      seconds = r.seconds;
      microseconds = r.microseconds;
    }

-- what the reader gives: an answer, or why there is none
abbrev pub PerPeerHeaderResult : Type 0
PerPeerHeaderResult = Result PerPeerHeaderAnswer Refusal

-- the good answer: the header, its end as the stop, and the warnings
abbrev pub answer_of : Reading → PerPeerHeaderAnswer
answer_of r = record { stop = 42; warnings = warnings r; header = shown_header r }

abbrev pub shown : Reading → PerPeerHeaderResult
shown r = Ok (answer_of r)

abbrev pub refused : Refusal → PerPeerHeaderResult
refused r = Err r

-- what each result says: its refusal, its stop, its warnings and its header, all zero where it refuses; the address is IPv4 there, and the
-- time unavailable
abbrev pub refusal_of : PerPeerHeaderResult → Refusal
refusal_of (Ok a) = no_refusal
refusal_of (Err r) = r

abbrev pub stop_of : PerPeerHeaderResult → ℕ
stop_of (Ok a) = a.stop
stop_of (Err r) = 0

abbrev pub warnings_in : PerPeerHeaderResult → ℕ
warnings_in (Ok a) = a.warnings
warnings_in (Err r) = 0

abbrev pub zero_header : BmpPerPeerHeader
zero_header =
    record {
      peer_type = Global;
      peer_flags = record { 0 = 0 };
      peer_distinguisher = record { 0 = 0 };
      peer_ip = unspecified;
      peer_asn = record { 0 = 0 };
      peer_bgp_id = record { 0 = 0 };
      timestamp = of_bits binary64 0;
      seconds = 0;
      microseconds = 0;
    }

abbrev pub header_of : PerPeerHeaderResult → BmpPerPeerHeader
header_of (Ok a) = a.header
header_of (Err r) = zero_header
