-- The numbers that answers carry, and the limit on a slice (docs/RULES.md, "Numbers").
use Rattle.std.specs.Prelude.{ℕ}

abbrev pub Good : ℕ
Good = 0

abbrev pub TooLong : ℕ
TooLong = 1

abbrev pub Cut : ℕ
Cut = 2

abbrev pub BadVersion : ℕ
BadVersion = 3

abbrev pub UnknownKind : ℕ
UnknownKind = 4

abbrev pub BadTlvType : ℕ
BadTlvType = 5

abbrev pub BgpLength : ℕ
BgpLength = 6

abbrev pub TooMany : ℕ
TooMany = 7

abbrev pub BadOpenBmp : ℕ
BadOpenBmp = 8

abbrev pub Unsupported : ℕ
Unsupported = 9

abbrev pub BadMessageLength : ℕ
BadMessageLength = 10

abbrev pub NoRoom : ℕ
NoRoom = 11

abbrev pub BadField : ℕ
BadField = 12

abbrev pub BoardFull : ℕ
BoardFull = 13

abbrev pub NoPeer : ℕ
NoPeer = 14

abbrev pub StreamTooBig : ℕ
StreamTooBig = 15

-- the longest slice that is read, and the longest message that is split off or written
abbrev pub limit : ℕ
limit = 1048576
