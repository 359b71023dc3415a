-- What a caller of the receiver relies on, call by call; over a whole session: the crate `session`. Assumes nothing.
use mathlib.Core.Path.{◌≡◌, refl, sym, ap, ap₂, ◌∙◌}
use mathlib.Core.Bool.{true, false, not}
use mathlib.Core.List.{List, [], ◌++◌, append-nil}
use mathlib.Core.Logic.{◌↔◌}
use Prim.Native.Nat.{ℕ, ◌-◌, ◌≤◌, ◌<◌}
use native.Mathlib.Omega.{arith}
use lib.Dec.{ltb, eqb}
use lib.ListN.{length, take}
use lib.Seq.{length-take-le}
use Rattle.std.specs.declared.result.Result.TheVariants.{Ok, Err}
use Rattle.std.specs.declared.option.Option.{Option}
use Rattle.std.specs.declared.option.Option.TheVariants.{Some, None}
use Rattle.wire.specs.Number as Number
use Rattle.wire.specs.Refusal.{refusal}
use Rattle.wire.specs.declared.Refusal.{Refusal}
use Rattle.wire.proofs.Determined.{determined}
use Rattle.wire.proofs.Refuses.{pick_in}
use Rattle.receiver.specs.Receive.{room, longest_piece, stream_too_big, SaysTooBig, judge_of, waiting, took_of, holding, fresh, settled_by, settled, taken, unfinished, refused, unless_standing, receive_of, buffer_of}
use Rattle.receiver.specs.declared.Outcome.{Outcome}
use Rattle.receiver.specs.declared.Receiver.{Receiver}
use Rattle.receiver.specs.declared.Received.{Received}
use Rattle.receiver.proofs.Runs as Runs
use Rattle.receiver.proofs.Sizes as Sizes
use Rattle.receiver.proofs.Calls as Calls
use Rattle.receiver.proofs.Missing as Missing

-- ---- the refusals that change nothing, in their order: what is given, and the buffer afterwards
module _ (b : List ℕ) (st : Receiver) (xs : List ℕ) where
  abbrev pub Leaves : Refusal → Type 0
  Leaves r = (receive_of b st xs ≡ refused st r) × (buffer_of b st xs ≡ b)

  leaves : (r : Refusal) → receive_of b st xs ≡ refused st r → Leaves r
  leaves r e = (e, sym (Calls.refused_so b st xs r (refused st r) e refl).1)

  -- A buffer of another size is NoRoom, whatever else is wrong.
  pub other_size : (length b ≡ room → ⊥) → Leaves (refusal Number.NoRoom 0)
  other_size n = leaves _ (Calls.other_size b st xs n)

  module _ (size : length b ≡ room) where
    -- Then a piece of more than 4,096 bytes is TooLong.
    pub too_long : longest_piece < length xs → Leaves (refusal Number.TooLong 0)
    too_long l = leaves _ (Calls.too_long b st xs size l)

    module _ (short : length xs ≤ longest_piece) where
      -- Then a refusal that stands is given again, as it was.
      pub stands : (r : Refusal) → st.standing ≡ Some r → Leaves r
      stands r e = leaves r (Calls.stands b st xs size short r e)

      -- Then held bytes that are not the start of an unfinished message are BadField: there are not so many, or they do not wait for more.
      pub bad_held : st.standing ≡ None → (st.held ≤ length b → waiting (judge_of (take st.held b)) ≡ false) → Leaves (refusal Number.BadField 0)
      bad_held free n = leaves _ (Calls.bad_held b st xs size short free n)

      -- Else the bytes decide, and only then: they are taken as long as those since the last boundary wait.
      pub goes_on : st.standing ≡ None → st.held ≤ length b → waiting (judge_of (take st.held b)) ≡ true
          → receive_of b st xs ≡ taken (take st.held b) xs
      goes_on free inside w = Calls.goes_on b st xs size short free inside w

  -- No more is taken than there is.
  pub took_within : (receive_of b st xs).took ≤ length xs
  unfolding receive_of
  took_within =
      pick_in P (not (eqb (length b) room)) (omega arith)
      (pick_in P (ltb longest_piece (length xs)) (omega arith)
      (unless st.standing _
      (pick_in P (not (unfinished b st.held)) (omega arith) (Runs.took_within (take st.held b) xs))))
    where
      P : Received → Type 0
      P a = a.took ≤ length xs

      unless : (s : Option Refusal) (a : Received) → P a → P (unless_standing st s a)
      unless (Some r) a x = omega arith
      unless None a x = x

-- A piece of no bytes, where it is not refused, takes nothing, brings nothing and leaves the state: what waits goes on waiting.
pub no_bytes : (b : List ℕ) (st : Receiver) (m : ℕ) → length b ≡ room → st.standing ≡ None → st.held ≤ length b → judge_of (take st.held b) ≡ Ok (Outcome.Waiting m)
    → receive_of b st [] ≡ record { took = 0; outcome = Ok (Outcome.Waiting m); state = holding st.held }
unfolding took_of
no_bytes b st m size free inside w =
    let all : take st.held b ++ [] ≡ take st.held b = append-nil (take st.held b) in
    Calls.goes_on b st [] size (omega arith) free inside (ap waiting w) ∙ ap (settled 0) all ∙ ap₂ (settled_by 0) (length-take-le st.held b inside) w

-- ---- StreamTooBig is brought by a header whose length field is from 65,537 to 1,048,576, and by nothing else.
pub too_big_exactly : (h : List ℕ) → length h ≤ room
    → (judge_of h ≡ Err stream_too_big) ↔ SaysTooBig h
too_big_exactly h most = (Sizes.says h most, Sizes.brings h most)

-- ---- What Waiting says: so many bytes are missing at least. With fewer the message waits for the rest of them.
pub missing_some : (h : List ℕ) (m : ℕ) → judge_of h ≡ Ok (Outcome.Waiting m) → 0 < m
missing_some = Missing.missing_some

pub fewer_wait : (h t : List ℕ) (m : ℕ) → length (h ++ t) ≤ room → judge_of h ≡ Ok (Outcome.Waiting m) → length t < m → judge_of (h ++ t) ≡ Ok (Outcome.Waiting (m - length t))
fewer_wait = Missing.fewer_wait

-- ---- any two answers, and any two buffers, that the contracts allow are equal
pub receive_determined : (b : List ℕ) (st : Receiver) (xs : List ℕ) (r q : Received) (b' b'' : List ℕ)
    → (r ≡ receive_of b st xs) × (b' ≡ buffer_of b st xs) → (q ≡ receive_of b st xs) × (b'' ≡ buffer_of b st xs) → (r ≡ q) × (b' ≡ b'')
receive_determined b st xs r q b' b'' e f = (determined e.0 f.0, determined e.1 f.1)

pub reset_determined : (r q : Receiver) → r ≡ fresh → q ≡ fresh → r ≡ q
reset_determined r q = determined
