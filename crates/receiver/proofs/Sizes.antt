-- Which bytes are refused as too big. Assumes nothing.
use mathlib.Core.Path.{◌≡◌, ap}
use mathlib.Core.List.{List}
use Prim.Native.Nat.{ℕ, ◌≤◌, ◌<◌}
use native.Mathlib.Omega.{arith}
use lib.ListN.{length}
use Rattle.std.specs.declared.result.Result.TheVariants.{Err}
use Rattle.wire.specs.View.{view}
use Rattle.wire.specs.declared.Refusal.{Refusal}
use Rattle.splitter.proofs.Laws.{below_6, above_limit, handed_either}
use Rattle.splitter.proofs.Cases.{length_in, fields_in}
use Rattle.receiver.specs.Receive.{Judgement, room, stream_too_big, SaysTooBig, outcome_of, judge_of}
use Rattle.receiver.proofs.Judging.{by_version, by-header, Judged, in_header, in_body, refused, too-big, message, judged, says_too_big}

pub says : (h : List ℕ) → length h ≤ room → judge_of h ≡ Err stream_too_big → SaysTooBig h
says h most e = go (judge_of h) (judged h most) e
  where
    apart : ◌≡◌ {A = ℕ} 0 1 → SaysTooBig h
    apart z = absurd (omega (arith, z))

    other : (r : Refusal) → r.number < 15 → r ≡ stream_too_big → SaysTooBig h
    other r l q = let z = ap (λ (x : Refusal). x.number) q in absurd (omega (arith, l, z))

    go : (o : Judgement) → Judged h o → o ≡ Err stream_too_big → SaysTooBig h
    go _ (in_header m l v u) q = apart cc
    go _ (in_body w l u f) q = apart cc
    go _ (refused r s c p (by_version one v k)) q = let z : r ≡ stream_too_big = cc in let n = ap (λ (x : Refusal). x.number) k in other r (omega (arith, n)) z
    go _ (refused r s c p (by-header w below_6 k)) q = let z : r ≡ stream_too_big = cc in other r (omega arith) z
    go _ (refused r s c p (by-header w above_limit k)) q = let z : r ≡ stream_too_big = cc in other r (omega arith) z
    go _ (too-big w l u) q = record { six = w.six; version_3 = w.three; above_buffer = l; within_limit = u }
    go _ (message w f) q = handed_either (λ a. outcome_of h a ≡ Err stream_too_big → SaysTooBig h) (fields_in h) (view 0 (length_in h)) (λ x. apart cc) (λ x. apart cc) q

pub brings : (h : List ℕ) → length h ≤ room → SaysTooBig h → judge_of h ≡ Err stream_too_big
brings h most x = says_too_big h most (record { six = x.six; three = x.version_3 }) x.above_buffer x.within_limit
