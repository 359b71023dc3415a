-- A body that conforms to RFC 7854 is read, and shown TLV by TLV. Assumes nothing.
use mathlib.Core.Path.{◌≡◌, refl, ap, ◌∙◌}
use mathlib.Core.List.{List, [], ◌++◌, map, append-nil}
use Prim.Native.Nat.{ℕ, ◌≤◌}
use native.Mathlib.Omega.{arith}
use lib.ListN.{length}
use Rattle.wire.specs.Number as Number
use Rattle.wire.specs.Bytes.{be, none}
use Rattle.wire.specs.Parts.{join_all, EachGood}
use Rattle.wire.specs.Exactly.{Shows}
use Rattle.wire.proofs.Rfc.{join_together, each_together, join_parts, good_parts}
use Rattle.wire.proofs.Exactly.{shows_good}
use Rattle.route_mirroring.specs.Grammar.{information, put, join, ReadTlv, Good, places}
use Rattle.route_mirroring.specs.Read.{reader}
use Rattle.route_mirroring.specs.Rfc.{Mirrored, nothing, message, Body, code_bytes, mirrored_bytes, bytes, MirroredFits, Conforms, mirrored_tlvs, reading}
use Rattle.route_mirroring.proofs.Promises.{complete}

-- ---- Information TLVs, and then what is mirrored
code_put : (code : ℕ) (r : List ℕ) → code ≤ 1 → put (information 2 code) r ≡ code_bytes code ++ r
unfolding be
code_put code r known = refl

code_good : (code : ℕ) (r : List ℕ) → code ≤ 1 → ReadTlv (information 2 code) r
code_good code r known = record { size_fits = omega arith; known = known }

mirrored_joined : (m : Mirrored) → join_all put (mirrored_tlvs m) [] ≡ mirrored_bytes m
unfolding be
mirrored_joined nothing = refl
mirrored_joined (message octets) = rw (append-nil octets)

mirrored_good : (m : Mirrored) → MirroredFits m → EachGood put ReadTlv (mirrored_tlvs m) []
mirrored_good nothing f = tt
mirrored_good (message octets) f = (
  record {
    well_formed = record { kind_fits = omega arith; size_fits = f.length_fits; size_is = refl; value-bytes = f.are_bytes };
    has-header = f.has-header;
  },
  tt,
)

-- A conforming body is shown TLV by TLV, with nothing left.
pub conforming_shown : (b : Body) → Conforms b → length (reading b).tlvs ≤ places → length (bytes b) ≤ Number.limit
    → Shows reader (bytes b) (reading b)
conforming_shown b c room limit =
    let codes = map (information 2) b.codes in
    let m = mirrored_tlvs b.mirrored in
    let joined : join (reading b) ≡ bytes b =
    join_parts put codes m [] ∙ ap (join_all put codes) (mirrored_joined b.mirrored)
    ∙ join_together (λ code. code ≤ 1) put (information 2) code_bytes code_put b.codes (mirrored_bytes b.mirrored) c.codes_known in
    let good : Good (reading b) =
    record {
      each =
          good_parts put ReadTlv codes m []
          (each_together (λ code. code ≤ 1) put (information 2) code_bytes code_put ReadTlv code_good b.codes (join_all put m []) c.codes_known)
          (mirrored_good b.mirrored c.mirrored_fits);
      tail_good = (omega arith, none);
    } in
    shows_good reader complete (reading b) good room (bytes b) joined limit
