use native.Mathlib.Omega.{arith}
use mathlib.Core.Path.{refl, sym, ◌∙◌}
use lib.ListN.{length}
use Rattle.std.proofs.lemmas.List.Edits.{paste_all}
use Rattle.std.proofs.lemmas.Slice.{put_mid-paste}
use Rattle.writing.proofs.Promises.{put_all_or_nothing}
use Rattle.writing.proofs.put_bytes.Goals as goal

pub returns-then-bytes-out : goal.returns-then-bytes-out
returns-then-bytes-out c =
    let a = c.args in
    let out = a.out.now in
    let bytes = a.bytes.now in
    put_mid-paste a.at _ out c.copy_from_slice.new.self bytes (length bytes) c.copy_from_slice.ensures.after (omega arith) refl
    ∙ paste_all out a.at bytes (length bytes) refl
    ∙ sym ((put_all_or_nothing out a.at bytes).0 (omega arith))
