-- What stands before a body: the per-peer header, and that the body is its tail. Assumes nothing.
use Prim.Native.Nat.{ℕ, ◌≤◌}
use mathlib.Core.Path.{◌≡◌, refl, sym, ap, ◌∙◌, subst}
use mathlib.Core.List.{List}
use native.Mathlib.Omega.{arith}
use lib.ListN.{length}
use Rattle.std.specs.declared.result.Result.TheVariants.{Ok, Err}
use Rattle.wire.specs.Number as Number
use Rattle.wire.specs.Bytes.{Bytes}
use Rattle.per_peer_header.specs.Grammar.{Reading, join, Good}
use Rattle.per_peer_header.specs.Shown as Shown
use Rattle.per_peer_header.specs.Shown.{PerPeerHeaderResult, shown_header}
use Rattle.per_peer_header.specs.Read.{read_per_peer_header}
use Rattle.per_peer_header.specs.declared.PerPeerHeaderAnswer.{PerPeerHeaderAnswer}
use Rattle.per_peer_header.proofs.Laws.{length_join, parts_join, accepted, shows_parts}
use Rattle.per_peer_header.proofs.Promises.{sound, complete}
use Rattle.message_answer.specs.Answer.{number, body_answer, behind, peer_answer}
use Rattle.message_answer.specs.declared.PeerBody.{PeerBody}

-- the header's stop lies inside
pub stop_inside : (s : List ℕ) (a : PerPeerHeaderAnswer) → ◌≡◌ {A = PerPeerHeaderResult} (Ok a) (read_per_peer_header s) → a.stop ≤ length s
stop_inside s a e =
    let x = accepted s (ap (λ (y : PerPeerHeaderResult). (Shown.refusal_of y).number) (sym e)) in
    omega (arith, ap Shown.stop_of (e ∙ shows_parts s x), x.long)

-- ---- behind a good header the answer is that to its tail
module _ (b : PeerBody) where
  shown_body : (h : Reading) (g : Good h) → length (join h) ≤ Number.limit → peer_answer b (join h) ≡ body_answer b (shown_header h) h.tail
  shown_body h g short =
      ap (behind b (join h)) (complete h g tt short) ∙ ap (λ (q : Reading). body_answer b (shown_header h) q.tail) (parts_join h g)

  pub peer_ok : (h : Reading) → Good h → length (join h) ≤ Number.limit
      → (length h.tail ≤ Number.limit → body_answer b (shown_header h) h.tail ≡ Ok tt) → peer_answer b (join h) ≡ Ok tt
  peer_ok h g short e = let n = length_join h g in shown_body h g short ∙ e (omega arith)

  -- where its number is 0 the header has a good reading, and the tail's number is 0
  pub record Peer (s : List ℕ) : Type 0 where
    pub header : Reading
    pub header_good : Good header
    pub joined : join header ≡ s
    pub short : length s ≤ Number.limit
    pub tail_short : length header.tail ≤ Number.limit
    pub body-number : number (body_answer b (shown_header header) header.tail) ≡ Number.Good

  header_is_good : (s : List ℕ) (x : PerPeerHeaderResult) → number (behind b s x) ≡ Number.Good → (Shown.refusal_of x).number ≡ Number.Good
  header_is_good s (Ok a) e = refl
  header_is_good s (Err r) e = e

  pub peer_sound : (s : List ℕ) → Bytes s → number (peer_answer b s) ≡ Number.Good → Peer s
  peer_sound s p e =
      let good = header_is_good s (read_per_peer_header s) e in
      let x = sound s p good in
      let short = (accepted s good).short in
      let joined = x.1.reading.joined in
      let whole : length (join x.0) ≤ Number.limit = subst (λ (l : List ℕ). length l ≤ Number.limit) (sym joined) short in
      record {
        header = x.0;
        header_good = x.1.reading.is_good;
        joined = joined;
        short = short;
        tail_short = omega (arith, whole, length_join x.0 x.1.reading.is_good);
        body-number = ap number (sym (shown_body x.0 x.1.reading.is_good whole) ∙ ap (peer_answer b) joined) ∙ e;
      }
