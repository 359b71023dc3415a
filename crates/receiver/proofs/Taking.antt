-- Runs of a piece put into the lent buffer, and what is then held. Assumes nothing.
use mathlib.Core.Path.{◌≡◌, refl, sym, ap, ap₂, ◌∙◌, subst}
use mathlib.Core.Bool.{false}
use mathlib.Core.List.{List, [], ◌++◌, append_assoc}
use Prim.Native.Nat.{ℕ, ◌+◌, ◌-◌, ◌≤◌, ◌<◌, min}
use native.Mathlib.Omega.{arith}
use native.Mathlib.Nat.{add-zero}
use lib.ListN.{length, take, drop, length-append, length-drop}
use lib.Seq.{paste, take-paste, drop-paste, length-paste, length-take-le, take_all, take-length, take-take, take-add, drop-drop, sets-eq}
use Rattle.std.specs.declared.result.Result.TheVariants.{Ok, Err}
use Rattle.std.specs.declared.option.Option.TheVariants.{Some, None}
use Rattle.wire.specs.Bytes.{num_at}
use Rattle.writing.specs.Write.{put_at}
use Rattle.writing.proofs.Sets.{put_fits}
use Rattle.receiver.specs.Receive.{Judgement, room, longest_piece, judge_of, waiting, took_of, settled_by, settled, taken}
use Rattle.receiver.specs.Steps.{Held, missing_in, taken_after, first_run}
use Rattle.receiver.specs.declared.Outcome.{Outcome}
use Rattle.receiver.specs.declared.Received.{Received}
use Rattle.receiver.proofs.Judging.{Judged, in_header, in_body, refused, too-big, message, judged}
use Rattle.receiver.proofs.Runs.{grown, body_run, HeaderRun, header_run}
use Rattle.receiver.proofs.First.{First, first}
use Rattle.receiver.proofs.Missing.{fewer_wait}

-- ---- what the code learns of an outcome: how many bytes are missing where it waits, and else that it does not
pub waits_for : (o : Judgement) {m : ℕ} → missing_in o ≡ Some m → o ≡ Ok (Outcome.Waiting m)
waits_for (Ok (Outcome.Waiting n)) {m} e = let z : n ≡ m = cc in ap {B = Judgement} (λ (k : ℕ). Ok (Outcome.Waiting k)) z
waits_for (Ok (Outcome.Message header v)) e = let z : ◌≡◌ {A = ℕ} 0 1 = cc in absurd (omega (arith, z))
waits_for (Ok (Outcome.Skipped fields v)) e = let z : ◌≡◌ {A = ℕ} 0 1 = cc in absurd (omega (arith, z))
waits_for (Err r) e = let z : ◌≡◌ {A = ℕ} 0 1 = cc in absurd (omega (arith, z))

pub decided : (o : Judgement) → missing_in o ≡ None → waiting o ≡ false
decided (Ok (Outcome.Waiting n)) e = let z : ◌≡◌ {A = ℕ} 0 1 = cc in absurd (omega (arith, z))
decided (Ok (Outcome.Message header v)) e = refl
decided (Ok (Outcome.Skipped fields v)) e = refl
decided (Err r) e = refl

-- ---- one put: what then stands at the front
pub record Put (b : List ℕ) (at : ℕ) (run b' : List ℕ) : Type 0 where
  pub pasted : b' ≡ paste b at run (length run)
  pub many : length b' ≡ length b
  pub front : take (at + length run) b' ≡ take at b ++ run
  pub front_many : length (take (at + length run) b') ≡ at + length run

pub was_put : (b : List ℕ) (at : ℕ) (run b' : List ℕ) → at + length run ≤ length b → b' ≡ put_at b at run → Put b at run b'
was_put b at run b' h e =
    let is : b' ≡ paste b at run (length run) =
    e ∙ put_fits b at run (omega (arith, h)) ∙ sets-eq run b at h ∙ ap (λ (z : List ℕ). take at b ++ z ++ drop (at + length run) b) (sym (take-length run)) in
    let many : length b' ≡ length b = ap length is ∙ length-paste b at run (length run) h (omega arith) in
    record {
      pasted = is;
      many = many;
      front = ap (take (at + length run)) is ∙ take-paste b at run (length run) (omega (arith, h)) (omega arith) ∙ ap (λ (z : List ℕ). take at b ++ z) (take-length run);
      front_many = length-take-le (at + length run) b' (omega (arith, h, many));
    }

-- two pastes, one behind the other, are one
paste_then : (b : List ℕ) (at : ℕ) (xs : List ℕ) (k n : ℕ) → at + k ≤ length b → k ≤ length xs
    → paste (paste b at xs k) (at + k) (drop k xs) n ≡ paste b at xs (k + n)
paste_then b at xs k n fits within =
    let front : take (at + k) (paste b at xs k) ≡ take at b ++ take k xs = take-paste b at xs k (omega (arith, fits)) within in
    let sum : at + k + n ≡ at + (k + n) = omega arith in
    let back : drop (at + k + n) (paste b at xs k) ≡ drop (at + (k + n)) b =
    sym (drop-drop n (at + k) (paste b at xs k)) ∙ ap (drop n) (drop-paste b at xs k (omega (arith, fits)) within) ∙ drop-drop n (at + k) b
    ∙ ap (λ (i : ℕ). drop i b) sum in
    rw (front, back, take-add k n xs, append_assoc (take at b) (take k xs) (take n (drop k xs)))

module _ (b : List ℕ) (held : ℕ) (size : length b ≡ room) (xs : List ℕ) (k : ℕ) (within : k ≤ length xs) (fits : held + k ≤ room) where
  pub then_many : length (take held b ++ take k xs) ≡ held + k
  then_many = grown (take held b) xs k within ∙ ap (λ (n : ℕ). n + k) (length-take-le held b (omega (arith, size, fits)))

  -- what is judged is settled
  settled-by : (n : ℕ) (o : Judgement) → o ≡ judge_of (take held b ++ take k xs) → settled_by n (held + k) o ≡ settled n (take held b ++ take k xs)
  settled-by n o e = ap₂ (settled_by n) (sym then_many) e

  -- the first k bytes of the piece, put behind those held
  pasted : paste b held (take k xs) (length (take k xs)) ≡ paste b held xs k
  pasted =
      let many : length (take k xs) ≡ k = length-take-le k xs within in
      rw many (ap (λ (z : List ℕ). take held b ++ z ++ drop (held + k) b) (take-take k k xs (omega arith)))

  pub size_then : length (paste b held xs k) ≡ room
  size_then = length-paste b held xs k (omega (arith, size, fits)) within ∙ size

  pub front_then : take (held + k) (paste b held xs k) ≡ take held b ++ take k xs
  front_then = take-paste b held xs k (omega (arith, size, fits)) within

-- ---- at a boundary, the piece's first run
module _ (b : List ℕ) (size : length b ≡ room) (xs : List ℕ) (short : length xs ≤ longest_piece) where
  piece_fits : length xs ≤ room
  piece_fits = omega (arith, short)

  module _ (o : Judgement) (j : o ≡ judge_of xs) (run : ℕ) (is : run ≡ first_run o (length xs)) where
    firsts : First xs run o
    firsts = subst (λ (k : ℕ). First xs k o) (sym is) (subst (λ (p : Judgement). First xs (first_run p (length xs)) p) (sym j) (first xs piece_fits))

    pub first_within : run ≤ length xs
    first_within = firsts.within

    pub first_taken : (r : Received) (b' : List ℕ) → b' ≡ put_at b 0 (take run xs) → r ≡ settled_by run run o → (r ≡ taken [] xs) × (b' ≡ paste b 0 xs r.took)
    first_taken r b' e s =
        let many = length-take-le run xs first_within in
        let fits : 0 + run ≤ room = omega (arith, first_within, piece_fits) in
        let put = was_put b 0 (take run xs) b' (omega (arith, many, fits, size)) e in
        let all : r ≡ settled run (take run xs) = s ∙ ap₂ (settled_by run) (sym many) (sym firsts.judged_so) in
        (all ∙ ap (λ (k : ℕ). settled k (take k xs)) (sym firsts.took), put.pasted ∙ pasted b 0 size xs run first_within fits ∙ ap (paste b 0 xs) (sym (ap (λ (x : Received). x.took) all)))

-- ---- the body's rest, in one run
module _ (b : List ℕ) (held missing : ℕ) (lent : Held b held missing) (xs : List ℕ) (behind : 0 < length xs → 6 ≤ held) where
  held_there : length (take held b) ≡ held
  held_there = length-take-le held b (omega (arith, lent.size, lent.fits))

  taking : (took_of (take held b) xs ≡ min missing (length xs)) × (length (take held b) + min missing (length xs) ≤ room)
  taking = body_run (take held b) xs missing (omega (arith, held_there, lent.fits)) lent.waits (λ p. let six = behind p in omega (arith, six, held_there))

  module _ (run : ℕ) (is : min missing (length xs) ≡ run) where
    within : run ≤ length xs
    within = omega (arith, is)

    body_fits : held + run ≤ room
    body_fits = let f = taking.1 in omega (arith, f, held_there, is)

    body_taken : (before : ℕ) (o : Judgement) (r : Received) (b' : List ℕ) → o ≡ judge_of (take held b ++ take run xs)
        → b' ≡ paste b held xs run → r ≡ settled_by (before + run) (held + run) o
        → (r ≡ taken_after before (take held b) xs) × (b' ≡ paste b held xs (r.took - before))
    body_taken before o r b' j e s =
        let n : run ≡ took_of (take held b) xs = sym is ∙ sym taking.0 in
        let all : r ≡ settled (before + run) (take held b ++ take run xs) = s ∙ settled-by b held lent.size xs run within body_fits (before + run) o j in
        let took : r.took - before ≡ run = (let t : r.took ≡ before + run = ap (λ (x : Received). x.took) all in omega (arith, t)) in
        (all ∙ ap (λ (k : ℕ). settled (before + k) (take held b ++ take k xs)) n, e ∙ ap (paste b held xs) (sym took))

  -- there are fewer bytes than the message lacks: all are taken, and it waits for the rest of them
  module _ (few : length xs < missing) where
    pub few_fit : held + length xs ≤ room
    few_fit = body_fits (length xs) (omega (arith, few))

    pub still_waits : (before : ℕ) (r : Received) (b' : List ℕ) → b' ≡ put_at b held xs → r ≡ settled_by (before + length xs) (held + length xs) (Ok (Outcome.Waiting (missing - length xs)))
        → (r ≡ taken_after before (take held b) xs) × (b' ≡ paste b held xs (r.took - before))
    still_waits before r b' e s =
        let put = was_put b held xs b' (omega (arith, few_fit, lent.size)) e in
        let many : length (take held b ++ xs) ≤ room = (let n = length-append (take held b) xs in omega (arith, n, held_there, few_fit)) in
        let waits = fewer_wait (take held b) xs missing many lent.waits few in
        body_taken (length xs) (omega (arith, few)) before _ r b' (sym (ap (λ (z : List ℕ). judge_of (take held b ++ z)) (take-length xs) ∙ waits)) put.pasted s

  -- there are as many, or more: what it lacks is taken
  module _ (enough : missing ≤ length xs) where
    pub all_fit : held + missing ≤ room
    all_fit = body_fits missing (omega (arith, enough))

    pub body_ends : (before : ℕ) (o : Judgement) (r : Received) (b' : List ℕ) → o ≡ judge_of (take held b ++ take missing xs)
        → b' ≡ paste b held (take missing xs) (length (take missing xs)) → r ≡ settled_by (before + missing) (held + missing) o
        → (r ≡ taken_after before (take held b) xs) × (b' ≡ paste b held xs (r.took - before))
    body_ends before o r b' j e s =
        body_taken missing (omega (arith, enough)) before o r b' j (e ∙ pasted b held lent.size xs missing enough all_fit) s

-- ---- the header's rest, and what then waits
module _ (b : List ℕ) (held missing : ℕ) (lent : Held b held missing) (xs : List ℕ) (one : 0 < held) (few : held < 6) (short : length xs ≤ longest_piece) where
  abbrev h : List ℕ
  h = take held b

  head_there : length h ≡ held
  head_there = length-take-le held b (omega (arith, lent.size, lent.fits))

  three : num_at 1 h 0 ≡ 3
  three = go (judge_of h) (judged h (omega (arith, head_there, lent.fits))) lent.waits
    where
      go : (o : Judgement) → Judged h o → o ≡ Ok (Outcome.Waiting missing) → num_at 1 h 0 ≡ 3
      go _ (in_header m l v u) q = v (omega (arith, head_there, one))
      go _ (in_body w l m f) q = w.three
      go _ (refused r s c p b) q = let z : ◌≡◌ {A = ℕ} 0 1 = cc in absurd (omega (arith, z))
      go _ (too-big w l m) q = w.three
      go _ (message w f) q = w.three

  module _ (run : ℕ) (is : run ≡ min (6 - held) (length xs)) where
    goes : HeaderRun h xs run
    goes =
        subst (HeaderRun h xs) (ap (λ (n : ℕ). min (6 - n) (length xs)) head_there ∙ sym is)
        (header_run h xs (omega (arith, head_there, one)) (omega (arith, head_there, few)) three)

    pub head_within : run ≤ length xs
    head_within = goes.within

    pub head_fits : held + run ≤ 6
    head_fits = let f = goes.fits in omega (arith, f, head_there)

    fits : held + run ≤ room
    fits = omega (arith, head_fits)

    module _ (o : Judgement) (b' : List ℕ) (j : o ≡ judge_of (h ++ take run xs)) (e : b' ≡ paste b held (take run xs) (length (take run xs))) where
      put : b' ≡ paste b held xs run
      put = e ∙ pasted b held lent.size xs run head_within fits

      -- the header's last byte has ended it
      pub head_ended : waiting o ≡ false → (r : Received) → r ≡ settled_by run (held + run) o → (r ≡ taken h xs) × (b' ≡ paste b held xs r.took)
      head_ended w r s =
          let took : took_of h xs ≡ run = goes.took ∙ rw (sym j, w) (add-zero run) in
          let all : r ≡ settled run (h ++ take run xs) = s ∙ settled-by b held lent.size xs run head_within fits run o j in
          (all ∙ ap (λ (k : ℕ). settled k (h ++ take k xs)) (sym took), put ∙ ap (paste b held xs) (sym (ap (λ (x : Received). x.took) all)))

      module _ (m : ℕ) (w : o ≡ Ok (Outcome.Waiting m)) where
        front : take (held + run) b' ≡ h ++ take run xs
        front = ap (take (held + run)) put ∙ front_then b held lent.size xs run head_within fits

        -- the rest of the piece, as the code takes it
        rest_is : take (length xs - run) (drop run xs) ≡ drop run xs
        rest_is = let d = length-drop run xs in take_all (length xs - run) (drop run xs) (omega (arith, d))

        -- the body has gone on from there
        went_on : (r : Received) (b'' : List ℕ) → r ≡ taken_after run (take (held + run) b') (drop run xs)
            → b'' ≡ paste b' (held + run) (drop run xs) (r.took - run) → (r ≡ taken h xs) × (b'' ≡ paste b held xs r.took)
        went_on r b'' t f =
            let n = took_of (h ++ take run xs) (drop run xs) in
            let took : took_of h xs ≡ run + n = goes.took ∙ rw (sym j, w) in
            let parts : (h ++ take run xs) ++ take n (drop run xs) ≡ h ++ take (run + n) xs =
            append_assoc h (take run xs) (take n (drop run xs)) ∙ ap (λ (z : List ℕ). h ++ z) (sym (take-add run n xs)) in
            let all : r ≡ settled (run + n) (h ++ take (run + n) xs) = t ∙ ap (λ (z : List ℕ). taken_after run z (drop run xs)) front ∙ ap (settled (run + n)) parts in
            let took_is : r.took ≡ run + n = ap (λ (x : Received). x.took) all in
            let rest : r.took - run ≡ n = omega (arith, took_is) in (
              all ∙ ap (λ (k : ℕ). settled k (h ++ take k xs)) (sym took),
              f ∙ ap₂ (λ (z : List ℕ) (k : ℕ). paste z (held + run) (drop run xs) k) put rest
                  ∙ paste_then b held xs run n (omega (arith, lent.size, fits)) head_within ∙ ap (paste b held xs) (sym took_is),
            )

        pub head_on : (r : Received) (b'' : List ℕ) → r ≡ taken_after run (take (held + run) b') (take (length xs - run) (drop run xs))
            → b'' ≡ paste b' (held + run) (take (length xs - run) (drop run xs)) (r.took - run) → (r ≡ taken h xs) × (b'' ≡ paste b held xs r.took)
        head_on r b'' t f = went_on r b'' (t ∙ ap (taken_after run (take (held + run) b')) rest_is) (f ∙ ap (λ (z : List ℕ). paste b' (held + run) z (r.took - run)) rest_is)
