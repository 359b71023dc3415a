-- What the reader shows: a good reading, with views that show its values. Assumes nothing.
use mathlib.Core.Path.{◌≡◌, ap, ◌∙◌}
use mathlib.Core.List.{List}
use Prim.Native.Nat.{ℕ, ◌≤◌}
use borrow.Author.Tests.{le-ltb}
use lib.ListN.{length}
use Rattle.wire.specs.Number as Number
use Rattle.wire.specs.View.{viewed}
use Rattle.wire.specs.Tlv.{Tlv, Tail}
use Rattle.wire.proofs.Tlv.{tail_join}
use Rattle.wire.proofs.Walk as Walk
use Rattle.wire.specs.Exactly.{Shows}
use Rattle.initiation_message.specs.Shown.{entry, info_of, shown}
use Rattle.initiation_message.specs.Read.{kit, answer, reader}
use Rattle.initiation_message.proofs.Laws.{laws, tails}

pub shows_of : (s : List ℕ) → length s ≤ Number.limit → (l : List Tlv) (t : Tail) → Walk.ShowsItems kit laws tails 0 s l t → Shows reader s (record { tlvs = l; tail = t })
shows_of s h l t a =
    record {
      reading = record { is_good = record { each = a.each; tail_good = a.tail_good }; fits = a.few; joined = a.joined };
      shown_so = rw (le-ltb Number.limit (length s) h) (ap answer a.shown_so ∙ ap (λ (u : Tail). shown (record { tlvs = l; tail = u })) (tail_join t a.tail_good));
    }

-- the view of a TLV, in the entry that shows it at a place, shows its value
abbrev pub ViewAt : List ℕ → ℕ → Tlv → Type 0
ViewAt s at t = viewed s (info_of (entry at t)) ≡ t.value
