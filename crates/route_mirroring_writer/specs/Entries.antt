-- What table_writer and the writing kit ask of the entries of a Route Mirroring body. Assumes nothing.
use mathlib.Core.Path.{◌≡◌, refl, ap}
use mathlib.Core.Bool.{true}
use mathlib.Core.List.{List, ◌++◌}
use Prim.Native.Nat.{ℕ, ◌+◌}
use Rattle.wire.specs.Bytes.{be}
use Rattle.writing.proofs.Tests.{both}
use Rattle.tlv_table.specs.Tlvs.{entry_writable, one_tlv}
use Rattle.tlv_table.proofs.Table.{Entries}
use Rattle.route_mirroring.specs.Grammar.{put}
use Rattle.route_mirroring.specs.Shown.{value_of}
use Rattle.route_mirroring_writer.specs.Write.{value_part, known, has_header, headed_writable, tlv_writable, writer, value_entry, entry_of}
use Rattle.route_mirroring.specs.declared.RouteMirroringValue.{RouteMirroringValue}
use Rattle.route_mirroring.specs.declared.RouteMirroringValue.TheVariants.{BgpMessage, Information}
use Rattle.route_mirroring.specs.declared.RouteMirroringTlv.{RouteMirroringTlv}

fine : (room : ℕ) (t : RouteMirroringTlv) → tlv_writable room t ≡ true → entry_writable room (entry_of t) ≡ true
unfolding tlv_writable
fine room t e = (both (has_header (entry_of t).size (entry_of t).value) _ (both (known t) (headed_writable room (entry_of t)) e).1).1

value_size : (size : ℕ) (x : RouteMirroringValue) → (value_entry size x).size ≡ size
value_size size (BgpMessage v) = refl
value_size size (Information i) = refl

put_same : (b : List ℕ) (size : ℕ) (x : RouteMirroringValue) (r : List ℕ) → put (value_part b size x) r ≡ one_tlv b (value_entry size x) ++ r
unfolding be
put_same b size (BgpMessage v) r = refl
put_same b size (Information i) r = refl

pub entries : Entries writer entry_of
entries =
    record {
      put_is = λ b t r. put_same b t.info_len (value_of t) r;
      fine = λ room after t e. fine room t e;
      size_is = λ t. ap (λ (n : ℕ). 4 + n) (value_size t.info_len (value_of t));
    }
