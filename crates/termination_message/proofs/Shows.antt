-- What the reader shows: a good reading, with views that show its values. Assumes nothing.
use mathlib.Core.Path.{◌≡◌, refl, ap, ◌∙◌}
use mathlib.Core.List.{List}
use Prim.Native.Nat.{ℕ, ◌+◌, ◌≤◌}
use native.Mathlib.Omega.{arith}
use borrow.Author.Tests.{le-ltb}
use lib.ListN.{length, drop}
use Rattle.wire.specs.Number as Number
use Rattle.wire.specs.View.{view, viewed}
use Rattle.wire.specs.Tlv.{Tail}
use Rattle.wire.proofs.Tlv.{tlv_viewed, tail_join}
use Rattle.wire.proofs.Walk as Walk
use Rattle.wire.proofs.Arms.{number_of_name}
use Rattle.wire.specs.Exactly.{Shows}
use Rattle.termination_message.specs.Grammar.{Tlv, string, reason, put, ReadTlv}
use Rattle.termination_message.specs.Shown.{reason_of, code_of, shown, names}
use Rattle.termination_message.specs.Read.{kit, answer, reader}
use Rattle.termination_message.specs.declared.TerminationReason.TheVariants.{PermanentlyAdministrativelyClosed}
use Rattle.termination_message.proofs.Laws.{laws, tails}

pub shows_of : (s : List ℕ) → length s ≤ Number.limit → (l : List Tlv) (t : Tail) → Walk.ShowsItems kit laws tails 0 s l t → Shows reader s (record { tlvs = l; tail = t })
shows_of s h l t a =
    record {
      reading = record { is_good = record { each = a.each; tail_good = a.tail_good }; fits = a.few; joined = a.joined };
      shown_so = rw (le-ltb Number.limit (length s) h) (ap answer a.shown_so ∙ ap (λ (u : Tail). shown (record { tlvs = l; tail = u })) (tail_join t a.tail_good.well_formed));
    }

-- the entry that shows a TLV at a place shows its value: a String's view the bytes, a Reason's name the number
abbrev pub ValueAt : List ℕ → ℕ → Tlv → Type 0
ValueAt s at (string size value) = viewed s (view (at + 4) size) ≡ value
ValueAt s at (reason size code) = code_of (reason_of code) ≡ code

pub code_told : (n : ℕ) → n ≤ 4 → code_of (reason_of n) ≡ n
unfolding reason_of code_of
code_told n h = number_of_name code_of n PermanentlyAdministrativelyClosed names refl (λ k. omega arith)

pub value_at : (s : List ℕ) (at : ℕ) (t : Tlv) (r : List ℕ) → ReadTlv t r → drop at s ≡ put t r → ValueAt s at t
value_at s at (string size value) r g e = tlv_viewed (record { kind = 0; size = size; value = value }) r g.well_formed s at e
value_at s at (reason size code) r g e = code_told code g.code_known
