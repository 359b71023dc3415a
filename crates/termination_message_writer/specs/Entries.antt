-- What table_writer and the writing kit ask of the entries of a Termination body. Assumes nothing.
use mathlib.Core.Path.{◌≡◌, refl, ap}
use mathlib.Core.Bool.{Bool, true, false}
use mathlib.Core.List.{List, [], ◌∷◌, ◌++◌}
use Prim.Native.Nat.{ℕ, ◌/◌, ◌%◌}
use native.Mathlib.Omega.{arith}
use lib.Dec.{leb, ltb, eqb}
use Rattle.wire.specs.Bytes.{pick, be}
use Rattle.wire.specs.View.{viewed}
use Rattle.writing.proofs.Tests.{both, past}
use Rattle.tlv_table.specs.Tlvs.{entry_writable, entry_writable_before, one_tlv}
use Rattle.tlv_table.specs.declared.TlvValue.TheVariants.{Part, Number}
use Rattle.tlv_table.specs.declared.TlvEntry.{TlvEntry}
use Rattle.tlv_table.proofs.Table.{Entries}
use Rattle.tlv_table.proofs.Written.{before_of}
use Rattle.termination_message.specs.Grammar.{string, reason, put}
use Rattle.termination_message.specs.Shown.{text_of}
use Rattle.termination_message_writer.specs.Write.{part_of, reason_writable, tlv_writable, writer, entry_of}
use Rattle.termination_message.specs.declared.TerminationTlv.{TerminationTlv}

-- the TLV that is written for an entry, by whether it is a String
abbrev by : TerminationTlv → Bool → TlvEntry
by t text = record { kind = pick text 0 1; size = t.info_len; value = pick text (Part (text_of t)) (Number (t.number % 65536)) }

-- ---- it is writable where the entry is
fine : (room after : ℕ) (t : TerminationTlv) → tlv_writable room after t ≡ true → entry_writable room (entry_of t) ≡ true
unfolding tlv_writable entry_writable
fine room after t e = go (eqb t.kind 0) e
  where
    go : (k : Bool) → pick k (entry_writable_before room after (by t k)) (reason_writable t) ≡ true → entry_writable room (by t k) ≡ true
    go true q = (before_of room after (by t true) q).alone
    go false q = (both (eqb t.info_len 2) (leb t.number 4) (past (ltb 1 t.kind) _ q).1).0

-- ---- its bytes are those of the entry's item: of a code two bytes are put
two_bytes : (n : ℕ) → be 2 n ≡ be 2 (n % 65536)
unfolding be
two_bytes n =
    let high : n / 256 % 256 ≡ n % 65536 / 256 % 256 = omega arith in
    let low : n % 256 / 1 % 256 ≡ n % 65536 % 256 / 1 % 256 = omega arith in
    λ i. high i ∷ low i ∷ []

put_one : (b : List ℕ) (t : TerminationTlv) (r : List ℕ) → put (part_of b t) r ≡ one_tlv b (entry_of t) ++ r
unfolding be
put_one b t r = go (eqb t.kind 0)
  where
    go : (k : Bool) → put (pick k (string t.info_len (viewed b (text_of t))) (reason t.info_len t.number)) r ≡ one_tlv b (by t k) ++ r
    go true = refl
    go false = ap (λ (l : List ℕ). be 2 1 ++ (be 2 t.info_len ++ (l ++ r))) (two_bytes t.number)

pub entries : Entries writer entry_of
entries = record { put_is = put_one; fine = fine; size_is = λ t. refl }
