-- What a user of the writer of the common header relies on. Assumes nothing.
use mathlib.Core.Path.{◌≡◌, sym, ap, ◌∙◌, subst}
use mathlib.Core.Bool.{true, false}
use mathlib.Core.List.{List}
use mathlib.Core.Logic.{◌↔◌}
use Prim.Native.Nat.{ℕ, ◌≤◌, ◌<◌, ◌^◌}
use native.Mathlib.Omega.{arith}
use borrow.Author.Tests.{lt-ltb, ltb-true, eqb-true, eq-eqb}
use lib.Dec.{ltb, eqb}
use lib.ListN.{length, take}
use Rattle.wire.specs.Number as Number
use Rattle.wire.specs.Bytes.{Bytes, none}
use Rattle.wire.proofs.Bytes.{bytes_be, bytes_append}
use Rattle.writing.proofs.Tests.{both}
use Rattle.std.specs.declared.result.Result.TheVariants.{Ok}
use Rattle.writing.specs.Write.{WriteAnswer, length_of, Wrote}
use Rattle.writing.proofs.Answers.{front, wrote_determined}
use Rattle.common_header.specs.Grammar.{Good}
use Rattle.common_header.specs.Shown.{CommonHeaderAnswer, kind_of, shown, refusal_of, stop_of, header_of}
use Rattle.common_header.specs.Read.{read_common_header}
use Rattle.common_header_writer.specs.Write.{reading_of, bytes_of, writable}
use Rattle.common_header_writer.specs.Unwritable.{Unwritable}
use Rattle.common_header_writer.proofs.Unwritable.{listed}
use Rattle.common_header.specs.declared.BmpCommonHeader.{BmpCommonHeader}
use Rattle.common_header.proofs.Laws.{length_join}
use Rattle.common_header.proofs.Promises.{sound, complete, named}

-- what `writable` asks: version 3, and a length of four bytes
writable_is : (h : BmpCommonHeader) → writable h ≡ true → (h.version ≡ 3) × (h.msg_len < 256 ^ 4)
writable_is h e =
    let w = both (eqb h.version 3) (ltb h.msg_len (256 ^ 4)) e in
    (eqb-true h.version 3 w.0, ltb-true h.msg_len (256 ^ 4) w.1)

-- the bytes s are read as the header h, to their end
pub record ReadsBack (h : BmpCommonHeader) (s : List ℕ) : Type 0 where
  pub read_good : (refusal_of (read_common_header s)).number ≡ Number.Good
  pub whole : stop_of (read_common_header s) ≡ length s
  pub same : header_of (read_common_header s) ≡ h

reads_back : (h : BmpCommonHeader) → writable h ≡ true → ReadsBack h (bytes_of h)
reads_back h e =
    let w = writable_is h e in
    let n = length_join (reading_of h) in
    let t = named h.msg_type in
    let g : Good (reading_of h) = record { any-type = record { version_is = w.0; length_fits = w.1; kind_fits = omega (arith, t.1); tail_bytes = none }; kind_known = t.1 } in
    let c = complete (reading_of h) g tt (omega arith) in
    record {
      read_good = ap (λ (a : CommonHeaderAnswer). (refusal_of a).number) c;
      whole = ap stop_of c ∙ sym n;
      same = ap header_of c ∙ (λ i. record { version = h.version; msg_len = h.msg_len; msg_type = t.0 i });
    }

-- What the writer has written, where the header is writable and there is room, is read back as that header.
pub round_trip : (h : BmpCommonHeader) (out out' : List ℕ) (a : WriteAnswer)
    → Wrote (writable h) (bytes_of h) out a out'
    → writable h ≡ true → length (bytes_of h) ≤ length out
    → (a ≡ Ok (length (bytes_of h))) × ReadsBack h (take (length_of a) out')
round_trip h out out' a wrote w room =
    let n = length_join (reading_of h) in
    front (ReadsBack h) wrote w (omega arith) room (reads_back h w)

-- A header whose bytes are read back as itself is writable.
pub only_writable : (h : BmpCommonHeader) → ReadsBack h (bytes_of h) → writable h ≡ true
only_writable h r =
    let s = bytes_of h in
    let p : Bytes s =
    bytes_append (bytes_be 1 h.version) (bytes_append (bytes_be 4 h.msg_len) (bytes_append (bytes_be 1 (kind_of h.msg_type)) none)) in
    let x = sound s p r.read_good in
    let e : header_of (shown x.0) ≡ h = ap header_of (sym x.1.shown_so) ∙ r.same in
    let v : h.version ≡ 3 = ap (λ (k : BmpCommonHeader). k.version) (sym e) ∙ x.1.reading.is_good.any-type.version_is in
    let n : h.msg_len < 256 ^ 4 = subst (λ (k : BmpCommonHeader). k.msg_len < 256 ^ 4) e x.1.reading.is_good.any-type.length_fits in
    rw (eq-eqb h.version 3 v) (lt-ltb h.msg_len (256 ^ 4) n)

-- A header whose length is a u32, as its type says, is not writable exactly where an item of the list holds of it.
pub unwritable : (h : BmpCommonHeader) → h.msg_len < 256 ^ 4 → (writable h ≡ false) ↔ Unwritable h
unwritable = listed

-- ---- any two answers, and any two outputs, that the contract allows are equal
pub write_determined : (h : BmpCommonHeader) (out : List ℕ) (a b : WriteAnswer) (o p : List ℕ)
    → Wrote (writable h) (bytes_of h) out a o → Wrote (writable h) (bytes_of h) out b p → (a ≡ b) × (o ≡ p)
write_determined h out a b o p = wrote_determined
