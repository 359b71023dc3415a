-- The loop over a stream: the lines from here on, put where the text stands, give the whole. Assumes nothing.
use mathlib.Core.Path.{◌≡◌, refl, sym, ap, ap₂, ◌∙◌, subst}
use mathlib.Core.List.{List, ◌++◌}
use Prim.Native.Nat.{ℕ, ◌+◌, ◌-◌, ◌≤◌, ◌<◌}
use native.Mathlib.Omega.{arith}
use lib.ListN.{length, drop, length-append, length-drop}
use lib.Seq.{sets}
use Rattle.std.specs.declared.result.Result.TheVariants.{Ok, Err}
use Rattle.writing.proofs.Sets.{sets_append}
use Rattle.wire.specs.declared.Refusal.{Refusal}
use Rattle.listing.specs.Text.{message_line, refused_line, end_line}
use Rattle.listing.specs.Listing.{enough}
use Rattle.listing.specs.Steps.{lines_from, RowAnswer, row_at}
use Rattle.listing.specs.declared.Row.{Row}
use Rattle.listing.proofs.Puts.{Ends}
use Rattle.listing.proofs.Rows.{Tells, row_tells, by_row, lines_at_end, lines_by_row}

-- all lines of s, put at start, are those from at on, put at to
pub record Lists (s out₀ : List ℕ) (start : ℕ) (out : List ℕ) (at to : ℕ) : Type 0 where
  pub turns : ℕ
  pub as_many : length s - at ≤ turns
  pub inside : at ≤ length s
  pub long : length out ≡ length out₀
  pub all_long : start + length (lines_from (length s) 0 s) ≡ to + length (lines_from turns at s)
  pub so_far : start + length (lines_from (length s) 0 s) ≤ length out₀ → sets out₀ start (lines_from (length s) 0 s) ≡ sets out to (lines_from turns at s)

pub starts : (s out : List ℕ) (start : ℕ) → Lists s out start out 0 start
starts s out start = record { turns = length s; as_many = omega arith; inside = omega arith; long = refl; all_long = refl; so_far = λ h. refl }

module _ (s out₀ : List ℕ) (start : ℕ) (out : List ℕ) (at to : ℕ) (g : Lists s out₀ start out at to) where
  -- what is put here is all that follows: it fits, and ends the listing
  module _ (l : List ℕ) (e : lines_from g.turns at s ≡ l) where
    pub asks : start + length (lines_from (length s) 0 s) ≤ enough → to + length l ≤ enough
    asks h = omega (arith, g.all_long, ap length e, h)

    pub ended : (out' : List ℕ) (k : ℕ) → Ends out to l out' k → Ends out₀ start (lines_from (length s) 0 s) out' k
    ended out' k x =
        let n = ap length e in (
          omega (arith, x.0, g.all_long, n),
          λ h. x.1 (omega (arith, g.all_long, g.long, n, h)) ∙ ap (sets out to) (sym e) ∙ sym (g.so_far h),
        )

  -- no byte is left here
  pub nothing_left : length s ≤ at → lines_from g.turns at s ≡ end_line at
  nothing_left h = lines_at_end g.turns at s (omega (arith, length-drop at s, h))

  -- some are: the lines by the row that was found
  module _ (some : at < length s) where
    lines_here : (r : RowAnswer) → r ≡ row_at (drop at s) → lines_from g.turns at s ≡ by_row (g.turns - 1) at s r
    lines_here r e =
        let n = length-drop at s in
        lines_by_row g.turns at s (omega (arith, n, some)) (omega (arith, n, g.as_many)) ∙ ap (by_row (g.turns - 1) at s) (sym e)

    pub refused_here : (r : Refusal) → ◌≡◌ {A = RowAnswer} (Err r) (row_at (drop at s)) → lines_from g.turns at s ≡ refused_line at r.number ++ end_line at
    refused_here r e = lines_here (Err r) e

    -- the line of a message is put
    module _ (w : Row) (e : ◌≡◌ {A = RowAnswer} (Ok w) (row_at (drop at s))) where
      tells : Tells (drop at s) (Ok w)
      tells = subst (Tells (drop at s)) (sym e) (row_tells (drop at s))

      pub within : (at < at + w.msg_len) × (at + w.msg_len ≤ length s)
      within = (omega (arith, tells.0), omega (arith, tells.1, length-drop at s, g.inside))

      pub asks_line : start + length (lines_from (length s) 0 s) ≤ enough → to + length (message_line at w.kind w.msg_len w.answer) ≤ enough
      asks_line h =
          let x = asks (by_row (g.turns - 1) at s (Ok w)) (lines_here (Ok w) e) h in
          omega (arith, x, length-append (message_line at w.kind w.msg_len w.answer) (lines_from (g.turns - 1) (at + w.msg_len) s))

      pub turned : (out' : List ℕ) (to' : ℕ) → length out' ≡ length out → Ends out to (message_line at w.kind w.msg_len w.answer) out' to'
          → Lists s out₀ start out' (at + w.msg_len) to'
      turned out' to' m x =
          let l = lines_from (g.turns - 1) (at + w.msg_len) s in
          let q = lines_here (Ok w) e in
          let j = length-append (message_line at w.kind w.msg_len w.answer) l in
          record {
            turns = g.turns - 1;
            as_many = omega (arith, g.as_many, tells.0);
            inside = within.1;
            long = m ∙ g.long;
            all_long = omega (arith, g.all_long, ap length q, j, x.0);
            so_far = λ h.
                g.so_far h ∙ ap (sets out to) q ∙ sets_append (message_line at w.kind w.msg_len w.answer) l out to
                ∙ ap₂ (λ (o : List ℕ) (i : ℕ). sets o i l) (sym (x.1 (omega (arith, g.all_long, g.long, ap length q, j, h)))) (sym x.0);
          }
