use lib.ListN.{length, drop}
use lib.Seq.{sets}
use mathlib.Core.Path.{◌≡◌}
use Prim.Native.Nat.{◌≤◌}
use Rattle.trial_hex.specs.Hex.{parts, measured, all_bytes}
use Rattle.std.specs.declared.option.Option.TheVariants.{Some}
use Rattle.trial_hex.proofs.put_parts.Given as goal

abbrev pub invariant-loop-part : goal.invariant-loop-part
invariant-loop-part l = (l.at ≤ length l.initial.bytes) × (Some l.count ≡ measured (length l.initial.bytes) l.at (drop (length l.yielded) (parts l.text))) × (sets l.initial.bytes 0 (all_bytes (parts l.text)) ≡ sets l.bytes l.at (all_bytes (drop (length l.yielded) (parts l.text))))
