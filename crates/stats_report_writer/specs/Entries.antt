-- What table_writer and the writing kit ask of the counters of a Statistics body. Assumes nothing.
use mathlib.Core.Path.{◌≡◌, refl, ◌∙◌}
use mathlib.Core.Bool.{true}
use mathlib.Core.List.{List}
use Prim.Native.Nat.{ℕ}
use native.Mathlib.Omega.{arith}
use lib.ListN.{length}
use Rattle.wire.specs.Bytes.{be}
use Rattle.writing.proofs.Tests.{both}
use Rattle.writing.proofs.Sets.{length_tlv}
use Rattle.writing.specs.Table.{Bodied}
use Rattle.stats_data_writer.specs.Write.{data_bytes}
use Rattle.stats_data_writer.proofs.Written.{Fine, fine_of}
use Rattle.stats_report.specs.Shown.{data_in}
use Rattle.stats_report.specs.declared.StatCounter.{StatCounter}
use Rattle.stats_report_writer.specs.Write.{plain, counter_writable, writer, one_counter}

pub fine : (b : List ℕ) (t : StatCounter) → counter_writable (length b) t ≡ true → Fine b t.kind t.stat_len (data_in t)
fine b t e = fine_of b t.kind t.stat_len (data_in t) (both (plain t) _ e).1

pub bodied : Bodied writer one_counter
unfolding be
bodied =
    record {
      put_is = λ b t r. refl;
      length_is = λ b n t e. length_tlv t.kind t.stat_len (data_bytes b (data_in t)) ∙ omega (arith, (fine b t e).size_is);
    }
