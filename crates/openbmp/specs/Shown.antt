-- How a reading is shown in the answer, and what a refusal shows.
use Rattle.std.specs.Prelude.{ℕ, ◌+◌, Result, Ok, Err, ◌++◌, replicate}
use Rattle.std.specs.Float.{binary64}
use Rattle.std.specs.Float.Ieee.{of_bits}
use Rattle.wire.specs.Refusal.{no_refusal}
use Rattle.wire.specs.View.{view, no_view}
use Rattle.wire.specs.declared.Refusal.{Refusal}
use Rattle.models.specs.Address.{unspecified}
use Rattle.times.specs.Time.{time_of}
use Rattle.models.specs.declared.Afi.TheVariants.{Ipv4, Ipv6}
use Rattle.models.specs.declared.IpAddr.{IpAddr}
use Rattle.openbmp.specs.Grammar.{RouterIp, ipv4, ipv6, Reading}
use Rattle.openbmp.specs.declared.OpenBmpHeader.{OpenBmpHeader}
use Rattle.openbmp.specs.declared.OpenBmpAnswer.{OpenBmpAnswer}

-- an IPv4 address with zeros behind its four octets
abbrev pub shown_router_ip : RouterIp → IpAddr
shown_router_ip (ipv4 address skipped) = record { octets = address ++ replicate 12 0; afi = Ipv4 }
shown_router_ip (ipv6 address) = record { octets = address; afi = Ipv6 }

abbrev pub shown_header : Reading → OpenBmpHeader
shown_header r =
    record {
      major_version = r.major;
      minor_version = r.minor;
      header_len = r.header_length;
      msg_len = r.message_length;
      object_type = r.object_type;
      timestamp = time_of r.seconds r.microseconds;
      seconds = r.seconds;
      microseconds = r.microseconds;
      admin_id = view 40 r.admin_length;
      router_ip = shown_router_ip r.router_ip;
      router_group = view (74 + r.admin_length) r.group_length;
    }

-- what the reader gives: an answer, or why there is none
abbrev pub OpenBmpResult : Type 0
OpenBmpResult = Result OpenBmpAnswer Refusal

-- the good answer: the header, and its end as the stop
abbrev pub answer_of : Reading → OpenBmpAnswer
answer_of r = record { stop = 78 + r.admin_length + r.group_length; header = shown_header r }

abbrev pub shown : Reading → OpenBmpResult
shown r = Ok (answer_of r)

abbrev pub refused : Refusal → OpenBmpResult
refused r = Err r

-- what each result says: its refusal, its stop and its header, all zero where it refuses; the views are empty there, and the address is IPv4
abbrev pub refusal_of : OpenBmpResult → Refusal
refusal_of (Ok a) = no_refusal
refusal_of (Err r) = r

abbrev pub stop_of : OpenBmpResult → ℕ
stop_of (Ok a) = a.stop
stop_of (Err r) = 0

abbrev pub zero_header : OpenBmpHeader
zero_header =
    record {
      major_version = 0;
      minor_version = 0;
      header_len = 0;
      msg_len = 0;
      object_type = 0;
      timestamp = of_bits binary64 0;
      seconds = 0;
      microseconds = 0;
      admin_id = no_view;
      router_ip = unspecified;
      router_group = no_view;
    }

abbrev pub header_of : OpenBmpResult → OpenBmpHeader
header_of (Ok a) = a.header
header_of (Err r) = zero_header
