-- The examples: a reader, the bytes that it is given, and what it must answer.
use Rattle.std.specs.Prelude.{ℕ, List, [], ◌∷◌}
use Rattle.wire.specs.Number as Number
use Rattle.wire.specs.Refusal.{refusal, lacking}
use Rattle.specimens.specs.Listed.{Listed, good, refused, number, Reader, common, statistics, initiation, termination, peer-down, mirroring}

pub record Specimen : Type 0 where
  pub reader : Reader
  pub bytes : List ℕ
  pub answer : Listed

abbrev pub zero_common : List (List ℕ)
zero_common = number 0 ∷ number 0 ∷ number 0 ∷ []

abbrev pub specimens : List Specimen
specimens =
    -- 03 00000006 04: length 6, type 4
    record { reader = common; bytes = 3 ∷ 0 ∷ 0 ∷ 0 ∷ 6 ∷ 4 ∷ []; answer = good 6 6 (number 3 ∷ number 6 ∷ number 4 ∷ []) }
    -- 03 00000006 07: no such type
    ∷ record { reader = common; bytes = 3 ∷ 0 ∷ 0 ∷ 0 ∷ 6 ∷ 7 ∷ []; answer = refused (refusal Number.UnknownKind 5) zero_common }
    -- nothing at all: a version is missing
    ∷ record { reader = common; bytes = []; answer = refused (lacking 0 1) zero_common }
    -- 00000001 0007 0008 0000000000000100: a gauge of 256
    ∷ record {
      reader = statistics;
      bytes = 0 ∷ 0 ∷ 0 ∷ 1 ∷ 0 ∷ 7 ∷ 0 ∷ 8 ∷ 0 ∷ 0 ∷ 0 ∷ 0 ∷ 0 ∷ 0 ∷ 1 ∷ 0 ∷ [];
      answer = good 16 16 (number 1 ∷ number 7 ∷ number 8 ∷ number 1 ∷ number 256 ∷ []);
    }
    -- 00000001 0007 0004 00000003: a counter of 3, though type 7 is a gauge in the RFC
    ∷ record {
      reader = statistics;
      bytes = 0 ∷ 0 ∷ 0 ∷ 1 ∷ 0 ∷ 7 ∷ 0 ∷ 4 ∷ 0 ∷ 0 ∷ 0 ∷ 3 ∷ [];
      answer = good 12 12 (number 1 ∷ number 7 ∷ number 4 ∷ number 0 ∷ number 3 ∷ []);
    }
    -- 0002 0001 41: one TLV
    ∷ record { reader = initiation; bytes = 0 ∷ 2 ∷ 0 ∷ 1 ∷ 65 ∷ []; answer = good 5 5 (number 2 ∷ number 1 ∷ (65 ∷ []) ∷ []) }
    -- 0002 0005 41: none, since its length is beyond the rest
    ∷ record { reader = initiation; bytes = 0 ∷ 2 ∷ 0 ∷ 5 ∷ 65 ∷ []; answer = good 4 0 [] }
    -- 0001 0001 03: a Reason takes two bytes, whatever its length says, and one is missing
    ∷ record { reader = termination; bytes = 0 ∷ 1 ∷ 0 ∷ 1 ∷ 3 ∷ []; answer = refused (lacking 4 1) [] }
    -- 0001 0007 0001: information 1, with its length as it stands
    ∷ record { reader = mirroring; bytes = 0 ∷ 1 ∷ 0 ∷ 7 ∷ 0 ∷ 1 ∷ []; answer = good 6 6 (number 1 ∷ number 7 ∷ number 1 ∷ []) }
    -- 0002 0000 00: no such type
    ∷ record { reader = mirroring; bytes = 0 ∷ 2 ∷ 0 ∷ 0 ∷ 0 ∷ []; answer = refused (refusal Number.BadTlvType 0) [] }
    -- 04 aa: no data
    ∷ record { reader = peer-down; bytes = 4 ∷ 170 ∷ []; answer = good 1 1 (number 4 ∷ number 0 ∷ []) }
    -- 01: data, present and empty
    ∷ record { reader = peer-down; bytes = 1 ∷ []; answer = good 1 1 (number 1 ∷ number 1 ∷ [] ∷ []) }
    ∷ []
