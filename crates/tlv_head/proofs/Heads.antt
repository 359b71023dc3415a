-- What an answer of read_head says of the bytes. Assumes nothing.
use mathlib.Core.Path.{◌≡◌, refl, sym, ap, ◌∙◌, subst}
use mathlib.Core.List.{List}
use mathlib.Core.Bool.{Bool, true, false}
use Prim.Native.Nat.{ℕ, ◌+◌, ◌-◌, ◌≤◌, ◌<◌}
use native.Mathlib.Nat.{add-zero}
use native.Mathlib.Omega.{arith}
use borrow.Author.Tests.{leb-true, leb-false}
use lib.ListN.{length, drop}
use Rattle.std.specs.declared.option.Option.{Option}
use Rattle.std.specs.declared.option.Option.TheVariants.{Some, None}
use Rattle.wire.specs.Bytes.{pick, has, num_at}
use Rattle.wire.proofs.Bytes.{num_drop}
use Rattle.tlv_head.specs.Head.{head_here, head_at}
use Rattle.tlv_head.specs.declared.TlvHead.{TlvHead}

-- a head was read at a place; its numbers are those at the front of the rest, and its value starts behind them
pub record Head (behind : ℕ) (s : List ℕ) (at : ℕ) (h : TlvHead) : Type 0 where
  pub left : 4 + behind ≤ length s - at
  pub kind_is : num_at 2 (drop at s) 0 ≡ h.kind
  pub size_is : num_at 2 (drop at s) 2 ≡ h.length
  pub next : h.value.at ≡ at + 4

module _ (behind : ℕ) (s : List ℕ) (at : ℕ) where
  here : 4 + behind ≤ length s - at → Head behind s at (head_here s at)
  here h =
      record {
        left = h;
        kind_is = num_drop 2 0 s at ∙ ap (num_at 2 s) (add-zero at);
        size_is = num_drop 2 2 s at;
        next = refl;
      }

  pub was_found : {x : Option TlvHead} {h : TlvHead} → x ≡ Some h → x ≡ head_at behind s at → Head behind s at h
  was_found {x} {h} e f = go (has (4 + behind) s at) refl (sym e ∙ f)
    where
      go : (b : Bool) → has (4 + behind) s at ≡ b → ◌≡◌ {A = Option TlvHead} (Some h) (pick b (Some (head_here s at)) None) → Head behind s at h
      go true m q =
          let i : head_here s at ≡ h = cc in
          subst (Head behind s at) i (here (leb-true (4 + behind) (length s - at) m))
      go false m q = let z : ◌≡◌ {A = ℕ} 0 1 = cc in absurd (omega arith)

  pub was_short : {x : Option TlvHead} → x ≡ None → x ≡ head_at behind s at → length s - at < 4 + behind
  was_short {x} e f = go (has (4 + behind) s at) refl (sym e ∙ f)
    where
      go : (b : Bool) → has (4 + behind) s at ≡ b → ◌≡◌ {A = Option TlvHead} None (pick b (Some (head_here s at)) None) → length s - at < 4 + behind
      go true m q = let z : ◌≡◌ {A = ℕ} 0 1 = cc in absurd (omega arith)
      go false m q = leb-false (4 + behind) (length s - at) m
