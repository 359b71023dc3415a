-- What the reader shows: a good reading, with entries that show its values. Assumes nothing.
use mathlib.Core.Path.{◌≡◌, refl, ap}
use mathlib.Core.List.{List}
use Prim.Native.Nat.{ℕ, ◌≤◌}
use native.Mathlib.Omega.{arith}
use borrow.Author.Tests.{le-ltb}
use lib.ListN.{length, drop}
use Rattle.wire.specs.Number as Number
use Rattle.wire.specs.View.{viewed}
use Rattle.wire.proofs.Tlv.{tlv_viewed}
use Rattle.wire.proofs.Walk as Walk
use Rattle.wire.proofs.Arms.{number_of_name}
use Rattle.wire.specs.Exactly.{Shows}
use Rattle.route_mirroring.specs.Grammar.{Tlv, bgp_message, information, put, ReadTlv}
use Rattle.route_mirroring.specs.Shown.{info_of, code_of, value_of, entry, names}
use Rattle.route_mirroring.specs.Read.{kit, answer, reader}
use Rattle.route_mirroring.specs.declared.RouteMirroringValue.{RouteMirroringValue}
use Rattle.route_mirroring.specs.declared.RouteMirroringValue.TheVariants.{BgpMessage, Information}
use Rattle.route_mirroring.specs.declared.RouteMirroringInfo.TheVariants.{MessageLost}
use Rattle.route_mirroring.proofs.Laws.{laws, tails}

pub shows_of : (s : List ℕ) → length s ≤ Number.limit → (l : List Tlv) (z : List ℕ) → Walk.ShowsItems kit laws tails 0 s l z → Shows reader s (record { tlvs = l; tail = z })
shows_of s h l z a =
    record {
      reading = record { is_good = record { each = a.each; tail_good = a.tail_good }; fits = a.few; joined = a.joined };
      shown_so = rw (le-ltb Number.limit (length s) h) (ap answer a.shown_so);
    }

-- a value of the answer shows a TLV: its view the message's bytes, its name the information's code
abbrev pub ShowsValue : List ℕ → RouteMirroringValue → Tlv → Type 0
ShowsValue s (BgpMessage v) (bgp_message size value) = viewed s v ≡ value
ShowsValue s (BgpMessage v) (information size code) = ⊥
ShowsValue s (Information i) (bgp_message size value) = ⊥
ShowsValue s (Information i) (information size code) = code_of i ≡ code

abbrev pub ViewAt : List ℕ → ℕ → Tlv → Type 0
ViewAt s at t = ShowsValue s (value_of (entry at t)) t

pub code_told : (n : ℕ) → n ≤ 1 → code_of (info_of n) ≡ n
unfolding info_of code_of
code_told n h = number_of_name code_of n MessageLost names refl (λ k. omega arith)

-- and so does the value of the entry that shows a TLV of s at its place
pub view_at : (s : List ℕ) (at : ℕ) (t : Tlv) (r : List ℕ) → ReadTlv t r → drop at s ≡ put t r → ViewAt s at t
view_at s at (bgp_message size value) r g e = tlv_viewed (record { kind = 0; size = size; value = value }) r g.well_formed s at e
view_at s at (information size code) r g e = code_told code g.known
