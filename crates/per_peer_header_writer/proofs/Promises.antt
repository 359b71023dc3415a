-- What a user of the writer of the per-peer header relies on. Assumes nothing.
use Prim.Native.Nat.{ℕ, ◌≤◌}
use mathlib.Core.Bool.{true, false}
use mathlib.Core.Path.{◌≡◌, sym, ap, ◌∙◌}
use mathlib.Core.List.{List}
use mathlib.Core.Logic.{◌↔◌}
use native.Mathlib.Omega.{arith}
use lib.ListN.{length, take}
use Rattle.wire.specs.Number as Number
use Rattle.std.specs.declared.result.Result.TheVariants.{Ok}
use Rattle.writing.specs.Write.{WriteAnswer, length_of, Wrote}
use Rattle.writing.proofs.Answers.{front, wrote_determined}
use Rattle.per_peer_record.specs.declared.BmpPerPeerHeader.{BmpPerPeerHeader}
use Rattle.per_peer_header.specs.Shown.{PerPeerHeaderResult, shown, refusal_of, stop_of, header_of}
use Rattle.per_peer_header.specs.Read.{read_per_peer_header}
use Rattle.per_peer_header_writer.specs.Write.{reading_of, bytes_of, writable, Typed}
use Rattle.per_peer_header_writer.specs.Unwritable.{Unwritable}
use Rattle.per_peer_header.proofs.Laws.{length_join}
use Rattle.per_peer_header_writer.proofs.Written.{good_reading, shown_again, again_writable}
use Rattle.per_peer_header_writer.proofs.Unwritable.{listed}
use Rattle.per_peer_header.proofs.Promises.{complete}

-- the bytes s are read as the header h, to their end
pub record ReadsBack (h : BmpPerPeerHeader) (s : List ℕ) : Type 0 where
  pub read_good : (refusal_of (read_per_peer_header s)).number ≡ Number.Good
  pub whole : stop_of (read_per_peer_header s) ≡ length s
  pub same : header_of (read_per_peer_header s) ≡ h

-- its own bytes are read as the header that its reading shows
reads : (h : BmpPerPeerHeader) → Typed h → read_per_peer_header (bytes_of h) ≡ shown (reading_of h)
reads h t = let g = good_reading h t in complete (reading_of h) g tt (omega (arith, length_join (reading_of h) g))

-- What the writer has written, where the header is writable and there is room, is read back as that header.
pub round_trip : (h : BmpPerPeerHeader) → Typed h → (out out' : List ℕ) (a : WriteAnswer)
    → Wrote (writable h) (bytes_of h) out a out'
    → writable h ≡ true → length (bytes_of h) ≤ length out
    → (a ≡ Ok (length (bytes_of h))) × ReadsBack h (take (length_of a) out')
round_trip h t out out' a wrote w room =
    let n = length_join (reading_of h) (good_reading h t) in
    let r = reads h t in
    let back : ReadsBack h (bytes_of h) =
    record {
      read_good = ap (λ (x : PerPeerHeaderResult). (refusal_of x).number) r;
      whole = ap stop_of r ∙ sym n;
      same = ap header_of r ∙ shown_again h t w;
    } in
    front (ReadsBack h) wrote w (omega arith) room back

-- A header whose bytes are read back as itself is writable.
pub only_writable : (h : BmpPerPeerHeader) → Typed h → ReadsBack h (bytes_of h) → writable h ≡ true
only_writable h t r = again_writable h t (ap header_of (sym (reads h t)) ∙ r.same)

-- A header whose fields are of their types is not writable exactly where an item of the list holds of it.
pub unwritable : (h : BmpPerPeerHeader) → Typed h → (writable h ≡ false) ↔ Unwritable h
unwritable = listed

-- ---- any two answers, and any two outputs, that the contract allows are equal
pub write_determined : (h : BmpPerPeerHeader) (out : List ℕ) (a b : WriteAnswer) (o p : List ℕ)
    → Wrote (writable h) (bytes_of h) out a o → Wrote (writable h) (bytes_of h) out b p → (a ≡ b) × (o ≡ p)
write_determined h out a b o p = wrote_determined
