-- TLVs that can be written from a view. Assumes nothing.
use mathlib.Core.Path.{◌≡◌, ap, ◌∙◌}
use mathlib.Core.Bool.{true}
use mathlib.Core.List.{List}
use Prim.Native.Nat.{ℕ, ◌+◌, ◌^◌, ◌≤◌, ◌<◌}
use borrow.Author.Tests.{leb-true, ltb-true, eqb-true, lt-ltb, eq-eqb}
use lib.Dec.{ltb, eqb}
use lib.ListN.{length}
use Rattle.wire.specs.Bytes.{Bytes}
use Rattle.wire.specs.View.{inside, viewed}
use Rattle.wire.specs.Tlv.{GoodTlv}
use Rattle.wire.specs.declared.View.{View}
use Rattle.wire.proofs.Views.{inside_is, viewed_inside, length_part, bytes_viewed}
use Rattle.writing.specs.Write.{tlv_fits}
use Rattle.writing.proofs.Tests.{both}

-- a view that lies inside shows as many bytes as it says
pub view_long : (b : List ℕ) (v : View) → v.place + v.length ≤ length b → length (viewed b v) ≡ v.length
view_long b v h = ap length (viewed_inside b v h) ∙ length_part b v.place v.length h

pub record TlvFits (kind size : ℕ) (v : View) (buffer_length : ℕ) : Type 0 where
  pub kind_fits : kind < 256 ^ 2
  pub size_fits : size < 256 ^ 2
  pub view_is : v.length ≡ size
  pub within : v.place + v.length ≤ buffer_length

pub fits_of : (kind size : ℕ) (v : View) (buffer_length : ℕ) → tlv_fits kind size v buffer_length ≡ true → TlvFits kind size v buffer_length
unfolding tlv_fits
fits_of kind size v buffer_length e =
    let k = both (ltb kind (256 ^ 2)) _ e in
    let n = both (ltb size (256 ^ 2)) _ k.1 in
    let l = both (eqb v.length size) (inside buffer_length v) n.1 in
    record {
      kind_fits = ltb-true kind (256 ^ 2) k.0;
      size_fits = ltb-true size (256 ^ 2) n.0;
      view_is = eqb-true v.length size l.0;
      within = leb-true (v.place + v.length) buffer_length l.1;
    }

pub fits_from : (kind size : ℕ) (v : View) (buffer_length : ℕ) → TlvFits kind size v buffer_length → tlv_fits kind size v buffer_length ≡ true
unfolding tlv_fits
fits_from kind size v buffer_length f =
    rw (lt-ltb kind (256 ^ 2) f.kind_fits, lt-ltb size (256 ^ 2) f.size_fits, eq-eqb v.length size f.view_is) (inside_is buffer_length v f.within)

-- its reading is a good TLV
module _ (kind size : ℕ) (v : View) (b : List ℕ) (f : TlvFits kind size v (length b)) where
  pub value_long : length (viewed b v) ≡ size
  value_long = view_long b v f.within ∙ f.view_is

  pub tlv_good : Bytes b → GoodTlv (record { kind = kind; size = size; value = viewed b v })
  tlv_good p =
      record {
        kind_fits = f.kind_fits;
        size_fits = f.size_fits;
        size_is = value_long;
        value-bytes = bytes_viewed b v p;
      }
