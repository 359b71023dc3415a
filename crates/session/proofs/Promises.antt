-- What a collector relies on, over a whole session. Assumes nothing.
use mathlib.Core.Path.{◌≡◌, refl, sym, ap, ◌∙◌, subst}
use mathlib.Core.Bool.{true, false}
use mathlib.Core.List.{List, [], ◌++◌, append-nil, flatten}
use mathlib.Core.Logic.{◌↔◌}
use Prim.Native.Nat.{ℕ, ◌≤◌, ◌<◌}
use native.Mathlib.Omega.{arith}
use lib.ListN.{length, take, drop}
use Rattle.std.specs.declared.option.Option.TheVariants.{Some, None}
use Rattle.wire.specs.Walk.{tail, next}
use Rattle.wire.specs.declared.Refusal.{Refusal}
use Rattle.splitter.specs.Stream.{length_of, joined}
use Rattle.receiver.specs.Receive.{room, longest_piece, stream_too_big, SaysTooBig, judge_of, waiting}
use Rattle.session.specs.Session.{Session, begun, took, held_bytes, step, split, standing_at, Called, Pieces, Puts, Brings, Follows}
use Rattle.session.proofs.Taken.{took_waits, took_ends}
use Rattle.session.proofs.Since.{Now, waits, refuses, not_both, Since, began, called_since, held_waits}
use Rattle.session.proofs.Walked.{follows}
use Rattle.session.proofs.Fuel.{split_step, split_waits}
use Rattle.session.proofs.Cuts.{Leads, puts_lead, leads_follows, took_is, pieces_end, same_messages, same_held, same_state}
use Rattle.session.proofs.Faults.{brings, too_big_waits, says_so, said_big}

-- ---- a stream in pieces; the buffer that is lent may hold anything at first
leads : (b : List ℕ) → length b ≡ room → {ps : List (List ℕ)} {c : Session} → Puts (begun b) ps c → Leads c (flatten ps)
leads b size p = puts_lead [] (began b size) p

-- However a stream is cut into pieces, and each piece put again from where the call stopped, the messages handed out, in order, and the refusal that stands are those
-- of the splitter, asked at each boundary about the next bytes of the stream, at most 65,536.
pub however_cut : (b : List ℕ) → length b ≡ room → {ps : List (List ℕ)} {c : Session} → Puts (begun b) ps c → Follows c (flatten ps)
however_cut b size p = leads_follows _ _ (leads b size p)

-- Pieces of at most 4,096 bytes can always be put so.
pub pieces_put : (b : List ℕ) → length b ≡ room → (ps : List (List ℕ)) → Pieces ps → (c : Session) × Puts (begun b) ps c
pieces_put b size ps g = pieces_end ps g (begun b) [] (began b size)

-- Where no refusal stands, every byte has been taken: the messages and the bytes held are the stream.
pub all_taken : (b : List ℕ) → length b ≡ room → {ps : List (List ℕ)} {c : Session} → Puts (begun b) ps c → c.state.standing ≡ None
    → joined c.messages (held_bytes c) ≡ flatten ps
all_taken b size p free =
    let x = leads b size p in
    sym x.since.parts ∙ sym (append-nil x.taken) ∙ ap (λ (z : List ℕ). x.taken ++ z) (sym (x.left free)) ∙ x.all

-- Two ways of cutting one stream give the same, whatever stood in the buffers.
pub record Same (c d : Session) : Type 0 where
  pub messages : c.messages ≡ d.messages
  pub state : c.state ≡ d.state
  pub held : held_bytes c ≡ held_bytes d

pub two_cuts : (a b : List ℕ) → length a ≡ room → length b ≡ room → {ps qs : List (List ℕ)} {c d : Session} → Puts (begun a) ps c → Puts (begun b) qs d
    → flatten ps ≡ flatten qs → Same c d
two_cuts a b m n p q e =
    let x = subst (Leads _) e (leads a m p) in
    let y = leads b n q in
    record { messages = same_messages _ _ _ x y; state = same_state _ _ _ x y; held = same_held _ _ _ x y }

-- What `split` finds is its step, and then what it finds behind the message: how far the walk may go has no say.
pub split_on : (s : List ℕ) → split s ≡ next (step s) s (λ m. split (drop (length_of m) s))
split_on = split_step

-- ---- any calls, with any pieces
module _ (b : List ℕ) (size : length b ≡ room) {c : Session} {s : List ℕ} (calls : Called b c s) where
  -- What was handed out and what stands are the splitter's on the bytes that were taken.
  pub any_calls : Follows c s
  any_calls = subst (Follows c) (append-nil s) (follows c s (called_since size calls) [] (λ z. refl))

  -- After every call the bytes held are exactly those received since the last boundary: the messages, and then these, are all that was taken, and the state says how many.
  pub held_since : (joined c.messages (held_bytes c) ≡ s) × (length (held_bytes c) ≡ c.state.held)
  held_since = let x = called_since size calls in (sym x.parts, x.many)

  -- What stands is one of four refusals, and the bytes held are those that have brought it: a wrong version with the first, a length with the sixth.
  pub which_stands : (r : Refusal) → c.state.standing ≡ Some r → Brings r c.state.held
  which_stands r e = let x = called_since size calls in go x x.now
    where
      go : Since c s → Now (held_bytes c) c.state.standing → Brings r c.state.held
      go x (waits z w) = not_both z e
      go x (refuses q z j) =
          let same : q ≡ r = cc in
          subst (λ (d : Refusal). Brings d c.state.held) same (subst (Brings q) x.many (brings (held_bytes c) (omega (arith, x.many, x.fits)) q j x.before))

  -- A call takes bytes as long as those since the last boundary wait for more: the byte that brings a message or a refusal is the last one taken, and bytes are left
  -- only behind such a byte.
  pub last_byte : (xs : List ℕ) → length xs ≤ longest_piece → c.state.standing ≡ None
      → ((j : ℕ) → j < took c xs → waiting (judge_of (held_bytes c ++ take j xs)) ≡ true)
      × (took c xs < length xs → waiting (judge_of (held_bytes c ++ take (took c xs) xs)) ≡ false)
  last_byte xs short free =
      let x = called_since size calls in
      let w = held_waits c s x free in
      rw (took_is c s xs x short free w) (took_waits (held_bytes c) xs w, took_ends (held_bytes c) xs)

-- ---- StreamTooBig stands exactly where the header at a boundary says so: the splitter waits there, and the length is from 65,537 to 1,048,576.
pub fifteen : (c : Session) (s : List ℕ) → Follows c s → (c.state.standing ≡ Some stream_too_big) ↔ ((z : List ℕ) × ((split s).end ≡ tail z) × SaysTooBig z)
fifteen c s f = (
  λ e. let z = too_big_waits s (split s).end refl (sym f.standing_is ∙ e) in (z.0, z.1, says_so z.0 (split_waits s z.0 z.1) z.2),
  λ z. f.standing_is ∙ ap standing_at z.1 ∙ rw (said_big z.0 z.2),
)
