-- RFC 7854, section 4.8: after the per-peer header a Statistics Report has the count of its statistics in 4 bytes, at least one, and then as
-- many: a type of 2 bytes, the length of the data in 2 bytes, and the data, whose form goes by the type:
--
--     a 32-bit counter, 4 bytes     0 prefixes rejected by inbound policy, 1 duplicate prefix advertisements, 2 duplicate withdraws,
--                                   updates invalidated for 3 a CLUSTER_LIST loop, 4 an AS_PATH loop, 5 the ORIGINATOR_ID,
--                                   6 an AS_CONFED loop; 11 updates and 12 prefixes treated as withdraw, 13 duplicate updates
--     a 64-bit gauge, 8 bytes       routes in 7 Adj-RIBs-In, 8 Loc-RIB; RFC 8671, section 6.2: in 14 pre-policy, 15 post-policy Adj-RIB-Out
--     AFI (2), SAFI (1) and         routes in 9 Adj-RIB-In, 10 Loc-RIB; RFC 8671, section 6.2: in 16 pre-policy, 17 post-policy
--     a 64-bit gauge, 11 bytes      Adj-RIB-Out
--
-- Of a type that these two do not define they say nothing but that it is ignored.
use Rattle.std.specs.Prelude.{ℕ, ◌^◌, ◌<◌, List, [], ◌∷◌, ◌++◌, map, length}
use Rattle.wire.specs.Bytes.{be}
use Rattle.wire.specs.Rfc.{together, Each, Information, information_bytes, InformationFits}
use Rattle.wire.specs.Refuses.{OneOf}
use Rattle.stats_data.specs.Grammar as Value
use Rattle.stats_data.specs.Read.{value_of}
use Rattle.stats_report.specs.Grammar.{Stat, Reading}

abbrev pub counters : List ℕ
counters = 0 ∷ 1 ∷ 2 ∷ 3 ∷ 4 ∷ 5 ∷ 6 ∷ 11 ∷ 12 ∷ 13 ∷ []

abbrev pub gauges : List ℕ
gauges = 7 ∷ 8 ∷ 14 ∷ 15 ∷ []

abbrev pub family_gauges : List ℕ
family_gauges = 9 ∷ 10 ∷ 16 ∷ 17 ∷ []

pub data Statistic : Type 0 where
  counter : (kind number : ℕ) → Statistic
  gauge : (kind number : ℕ) → Statistic
  family_gauge : (kind afi safi number : ℕ) → Statistic
  undefined : Information → Statistic

abbrev pub as_information : Statistic → Information
as_information (counter kind number) = record { kind = kind; value = be 4 number }
as_information (gauge kind number) = record { kind = kind; value = be 8 number }
as_information (family_gauge kind afi safi number) = record { kind = kind; value = be 2 afi ++ (be 1 safi ++ be 8 number) }
as_information (undefined t) = t

abbrev pub StatisticFits : Statistic → Type 0
StatisticFits (counter kind number) = OneOf counters kind × (number < 2 ^ 32)
StatisticFits (gauge kind number) = OneOf gauges kind × (number < 2 ^ 64)
StatisticFits (family_gauge kind afi safi number) = OneOf family_gauges kind × (afi < 2 ^ 16) × (safi < 2 ^ 8) × (number < 2 ^ 64)
StatisticFits (undefined t) = (17 < t.kind) × InformationFits t

pub record Conforms (l : List Statistic) : Type 0 where
  pub some : 0 < length l
  pub count_fits : length l < 2 ^ 32
  pub each_fits : Each StatisticFits l

abbrev pub statistic_bytes : Statistic → List ℕ
statistic_bytes t = information_bytes (as_information t)

abbrev pub bytes : List Statistic → List ℕ
bytes l = be 4 (length l) ++ together statistic_bytes l

-- ---- what the plain reading makes of it: each statistic in the form that its type has; of an undefined type, by the length of its data
abbrev pub as_stat : Statistic → Stat
as_stat (counter kind number) = record { kind = kind; size = 4; value = Value.counter number }
as_stat (gauge kind number) = record { kind = kind; size = 8; value = Value.gauge number }
as_stat (family_gauge kind afi safi number) = record { kind = kind; size = 11; value = Value.afi_safi_gauge afi safi number }
as_stat (undefined t) = record { kind = t.kind; size = length t.value; value = value_of (length t.value) t.value }

abbrev pub reading : List Statistic → Reading
reading l = record { count = length l; stats = map as_stat l; tail = [] }
