-- What a call answers, by what it is given. Assumes nothing.
use mathlib.Core.Path.{◌≡◌, refl, sym, ap, ◌∙◌}
use mathlib.Core.Bool.{Bool, true, false}
use mathlib.Core.List.{List}
use Prim.Native.Nat.{ℕ, ◌≤◌, ◌<◌}
use borrow.Author.Tests.{ltb-true, ltb-false, eq-eqb, ne_eqb, lt-ltb, le-ltb}
use lib.Dec.{ltb}
use lib.ListN.{length, take}
use lib.Seq.{paste, paste-zero}
use Rattle.std.specs.declared.option.Option.TheVariants.{Some, None}
use Rattle.wire.specs.Number as Number
use Rattle.wire.specs.Refusal.{refusal}
use Rattle.wire.specs.declared.Refusal.{Refusal}
use Rattle.receiver.specs.Receive.{room, longest_piece, judge_of, waiting, taken, refused, receive_of, buffer_of}
use Rattle.receiver.specs.declared.Receiver.{Receiver}
use Rattle.receiver.specs.declared.Received.{Received}

module _ (b : List ℕ) (st : Receiver) (xs : List ℕ) where
  -- the answer and the buffer that the contract asks for
  abbrev pub Answers : Received → List ℕ → Type 0
  Answers a b' = (a ≡ receive_of b st xs) × (b' ≡ buffer_of b st xs)

  -- a call that is refused leaves the buffer as it was
  pub refused_so : (r : Refusal) (a : Received) → receive_of b st xs ≡ refused st r → a ≡ refused st r → Answers a b
  refused_so r a e f = (f ∙ sym e, paste-zero b st.held xs ∙ ap (λ (x : Received). paste b st.held xs x.took) (sym e))

  pub other_size : (length b ≡ room → ⊥) → receive_of b st xs ≡ refused st (refusal Number.NoRoom 0)
  unfolding receive_of
  other_size n = rw (ne_eqb (length b) room n)

  module _ (size : length b ≡ room) where
    pub too_long : longest_piece < length xs → receive_of b st xs ≡ refused st (refusal Number.TooLong 0)
    unfolding receive_of
    too_long l = rw (eq-eqb (length b) room size, lt-ltb longest_piece (length xs) l)

    module _ (short : length xs ≤ longest_piece) where
      pub stands : (r : Refusal) → st.standing ≡ Some r → receive_of b st xs ≡ refused st r
      unfolding receive_of
      stands r e = rw (eq-eqb (length b) room size, le-ltb longest_piece (length xs) short, e)

      module _ (free : st.standing ≡ None) where
        pub held_outside : length b < st.held → receive_of b st xs ≡ refused st (refusal Number.BadField 0)
        unfolding receive_of
        held_outside l = rw (eq-eqb (length b) room size, le-ltb longest_piece (length xs) short, free, lt-ltb (length b) st.held l)

        module _ (inside : st.held ≤ length b) where
          pub not_a_start : waiting (judge_of (take st.held b)) ≡ false → receive_of b st xs ≡ refused st (refusal Number.BadField 0)
          unfolding receive_of
          not_a_start w =
              rw (eq-eqb (length b) room size, le-ltb longest_piece (length xs) short, free, le-ltb (length b) st.held inside, w)

          pub goes_on : waiting (judge_of (take st.held b)) ≡ true → receive_of b st xs ≡ taken (take st.held b) xs
          unfolding receive_of
          goes_on w =
              rw (eq-eqb (length b) room size, le-ltb longest_piece (length xs) short, free, le-ltb (length b) st.held inside, w)

        -- one of the two: there are not so many, or they do not wait
        pub bad_held : (st.held ≤ length b → waiting (judge_of (take st.held b)) ≡ false) → receive_of b st xs ≡ refused st (refusal Number.BadField 0)
        bad_held n = go (ltb (length b) st.held) refl
          where
            go : (c : Bool) → ltb (length b) st.held ≡ c → receive_of b st xs ≡ refused st (refusal Number.BadField 0)
            go true c = held_outside (ltb-true (length b) st.held c)
            go false c = let l = ltb-false (length b) st.held c in not_a_start l (n l)
