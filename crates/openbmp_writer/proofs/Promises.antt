-- What a user of the writer of the OpenBMP header relies on. Assumes nothing.
use Prim.Native.Nat.{ℕ, ◌+◌, ◌≤◌}
use mathlib.Core.Bool.{true, false}
use mathlib.Core.Path.{◌≡◌, sym, ap, ◌∙◌, subst}
use mathlib.Core.List.{List}
use mathlib.Core.Logic.{◌↔◌}
use native.Mathlib.Omega.{arith}
use lib.ListN.{length, take}
use Rattle.wire.specs.Number as Number
use Rattle.wire.specs.Bytes.{Bytes}
use Rattle.std.specs.declared.result.Result.TheVariants.{Ok}
use Rattle.writing.specs.Write.{WriteAnswer, length_of, Wrote}
use Rattle.writing.proofs.Answers.{front, wrote_determined}
use Rattle.openbmp.specs.Shown.{OpenBmpResult, shown_header, refusal_of, stop_of, header_of}
use Rattle.openbmp.specs.Read.{read_open_bmp_header}
use Rattle.openbmp_writer.specs.Write.{reading_of, bytes_of, writable, Typed, Same}
use Rattle.openbmp_writer.specs.Unwritable.{Unwritable}
use Rattle.openbmp.specs.declared.OpenBmpHeader.{OpenBmpHeader}
use Rattle.openbmp.proofs.Laws.{length_join}
use Rattle.openbmp_writer.proofs.Trip.{bytes_written, good_reading, short_enough, same_again, again_writable}
use Rattle.openbmp_writer.proofs.Unwritable.{listed}
use Rattle.openbmp.proofs.Promises.{sound, complete}

-- the bytes s are read as the header h, whose views point into b, to their end
pub record ReadsBack (h : OpenBmpHeader) (b s : List ℕ) : Type 0 where
  pub read_good : (refusal_of (read_open_bmp_header s)).number ≡ Number.Good
  pub whole : stop_of (read_open_bmp_header s) ≡ length s
  pub same : Same h b (header_of (read_open_bmp_header s)) s

module _ (h : OpenBmpHeader) (b : List ℕ) (t : Typed h) (p : Bytes b) where
  reads_back : writable h (length b) ≡ true → ReadsBack h b (bytes_of h b)
  reads_back w =
      let g = good_reading h b t p w in
      let a = complete (reading_of h b) g tt (short_enough h b t p w) in
      record {
        read_good = ap (λ (x : OpenBmpResult). (refusal_of x).number) a;
        whole = ap stop_of a ∙ omega (arith, length_join (reading_of h b) g);
        same = subst (λ (x : OpenBmpResult). Same h b (header_of x) (bytes_of h b)) (sym a) (same_again h b t p w);
      }

  -- What the writer has written, where the header is writable and there is room, is read back as the same header. It is never too long.
  pub round_trip : (out out' : List ℕ) (a : WriteAnswer)
      → Wrote (writable h (length b)) (bytes_of h b) out a out'
      → writable h (length b) ≡ true → length (bytes_of h b) ≤ length out
      → (a ≡ Ok (length (bytes_of h b))) × ReadsBack h b (take (length_of a) out')
  round_trip out out' a wrote w room =
      front (ReadsBack h b) wrote w (short_enough h b t p w) room (reads_back w)

  -- A header whose views lie inside the buffer, and whose bytes are read back as itself, is writable.
  pub only_writable : h.admin_id.place + h.admin_id.length ≤ length b → h.router_group.place + h.router_group.length ≤ length b
      → ReadsBack h b (bytes_of h b) → writable h (length b) ≡ true
  only_writable admin group r =
      let s = bytes_of h b in
      let x = sound s (bytes_written h b t p) r.read_good in
      let same = subst (λ (a : OpenBmpResult). Same h b (header_of a) s) x.1.shown_so r.same in
      again_writable h b t p admin group x.0 x.1.reading.is_good (subst (Same h b (shown_header x.0)) (sym x.1.reading.joined) same)

-- A header whose fields are of their types is not writable exactly where an item of the list holds of it.
pub unwritable : (h : OpenBmpHeader) (room : ℕ) → Typed h → (writable h room ≡ false) ↔ Unwritable h room
unwritable = listed

-- ---- any two answers, and any two outputs, that the contract allows are equal
pub write_determined : (h : OpenBmpHeader) (b out : List ℕ) (r q : WriteAnswer) (o p : List ℕ)
    → Wrote (writable h (length b)) (bytes_of h b) out r o → Wrote (writable h (length b)) (bytes_of h b) out q p → (r ≡ q) × (o ≡ p)
write_determined h b out r q o p = wrote_determined
