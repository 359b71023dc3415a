-- What a user of the splitter relies on. There is no table, so every good reading fits. Assumes nothing.
use mathlib.Core.Path.{◌≡◌, sym, ap, ◌∙◌, subst}
use mathlib.Core.List.{List, ◌++◌}
use Prim.Native.Nat.{ℕ, ◌+◌, ◌-◌, ◌≤◌}
use native.Mathlib.Omega.{arith}
use lib.Dec.{ltb, eqb}
use lib.ListN.{length, take, length-append}
use lib.Seq.{length-take-le}
use Rattle.wire.specs.Number as Number
use Rattle.wire.specs.Bytes.{has, num_at, Bytes}
use Rattle.wire.specs.View.{view, viewed}
use Rattle.wire.proofs.Bytes.{num_part}
use Rattle.wire.proofs.Refuses.{pick_in}
use Rattle.wire.proofs.Views.{viewed_inside}
use Rattle.wire.proofs.Determined.{determined}
use Rattle.wire.specs.Refuses.{Refuses}
use Rattle.wire.specs.Waits.{Waits, MissingTells}
use Rattle.wire.specs.Exactly.{Sound, Complete, Told, Unique}
use Rattle.common_header.specs.Grammar as Header
use Rattle.common_header.specs.Fields.{CommonFieldsAnswer, parts_of, fields_of, shown, read_fields, read_common_fields}
use Rattle.common_header.proofs.Laws.{length_join}
use Rattle.common_header.proofs.Promises.{fields_sound, fields_complete, fields_unique}
use Rattle.splitter.specs.Grammar.{header_of, join, grammar}
use Rattle.splitter.specs.Shown.{SplitAnswer, refusal_of, message_of, fields_in, ByItsType}
use Rattle.splitter.specs.Read.{after_fields, split_of, reader}
use Rattle.splitter.proofs.Laws.{Fitting, fitting_shown, judged_good, fields_accepted, hands_out, cut-at, header_cut, cut_header}
use Rattle.splitter.proofs.Cases as Cases
use Rattle.splitter.proofs.Told as ToldProofs
use Rattle.splitter.proofs.Refusals as Refusals
use Rattle.splitter.proofs.Waits as Waiting

-- What the splitter accepts is a whole message and the rest of the stream, and it shows that message.
pub sound : Sound reader
sound s p e =
    let x = fields_sound s p (fields_accepted (length s) (read_common_fields s) e) in
    let h = x.0 in
    let f : Fitting (length s) h.length =
    judged_good (length s) (fields_of h)
    (subst (λ (a : CommonFieldsAnswer). (refusal_of (after_fields (length s) a)).number ≡ Number.Good) x.1.shown_so e) in
    let n : length s ≡ 6 + length h.tail = ap length (sym x.1.reading.joined) ∙ length_join h in
    let long : length (take (h.length - 6) h.tail) ≡ h.length - 6 = length-take-le (h.length - 6) h.tail (omega (arith, f.all_there, n)) in (
      cut-at h,
      record {
        reading =
            record {
              is_good =
                  record {
                    any-type = subst Header.AnyType (sym (header_cut h)) x.1.reading.is_good;
                    length_is = omega (arith, long, f.least);
                    short_enough = f.most;
                  };
              fits = tt;
              joined = ap Header.join (header_cut h) ∙ x.1.reading.joined;
            };
        shown_so = ap (after_fields (length s)) x.1.shown_so ∙ fitting_shown (length s) (fields_of h) f;
      },
    )

-- Every good reading is accepted, and shown.
pub complete : Complete reader
complete r g _ short =
    let n = length_join (header_of r) in
    let f : Fitting (length (join r)) r.length =
    record {
      least = omega (arith, g.length_is);
      most = g.short_enough;
      all_there = omega (arith, n, g.length_is, length-append r.body r.rest);
    } in
    ap (after_fields (length (join r))) (fields_complete (header_of r) g.any-type tt short)
    ∙ fitting_shown (length (join r)) (fields_of (header_of r)) f

-- Every good reading is told by the answer that shows it.
pub told_back : Told reader
told_back = ToldProofs.told_back

-- A refusal shows nothing but itself, and has one of the reader's numbers; each of these is given for some input.
pub refuses : Refuses reader
refuses = Refusals.refuses

-- Who waits for as many bytes as a Cut says are missing waits neither too long nor in vain.
pub waits : Waits reader
waits = Waiting.waits

-- Bytes are missing exactly where the refusal is a Cut.
pub missing_tells : MissingTells reader
missing_tells = Waiting.missing_tells

-- No stream has two first messages.
pub unique : Unique grammar
unique r q g h e =
    sym (cut_header r g.length_is) ∙ ap cut-at (fields_unique (header_of r) (header_of q) g.any-type h.any-type e)
    ∙ cut_header q h.length_is

-- Where the splitter is good, the message that it hands out or skips is the first bytes of the stream, as many as the header's length says.
pub first_bytes : (s : List ℕ) → Bytes s → (refusal_of (split_of s)).number ≡ Number.Good
    → (viewed s (message_of (split_of s)) ≡ take (fields_in (split_of s)).msg_len s) × (length (viewed s (message_of (split_of s))) ≡ (fields_in (split_of s)).msg_len)
first_bytes s p e =
    let x = sound s p e in
    let r = x.0 in
    let g = x.1.reading.is_good in
    let out = hands_out (fields_of (header_of r)) (view 0 r.length) in
    let n : length s ≡ 6 + length (r.body ++ r.rest) = ap length (sym x.1.reading.joined) ∙ length_join (header_of r) in
    let there : r.length ≤ length s = omega (arith, n, g.length_is, length-append r.body r.rest) in
    let v : viewed s (view 0 r.length) ≡ take r.length s = viewed_inside s (view 0 r.length) (omega (arith, there)) in
    rw (x.1.shown_so, out.view_is, out.fields_are) (v, ap length v ∙ length-take-le r.length s there)

-- The byte at 5 decides: up to 6 a message is handed out with the name of that type, and above that it is skipped with that type.
pub by_its_type : (s : List ℕ) → ByItsType (num_at 1 s 5) (split_of s)
unfolding read_fields
by_its_type s =
    pick_in P (ltb Number.limit (length s)) tt
    (pick_in P (has 1 s 0) (pick_in P (eqb (num_at 1 s 0) 3) (pick_in P (has 4 s 1) (pick_in P (has 1 s 5) good tt) tt) tt) tt)
  where
    P : CommonFieldsAnswer → Type 0
    P a = ByItsType (num_at 1 s 5) (after_fields (length s) a)

    Q : SplitAnswer → Type 0
    Q = ByItsType (num_at 1 s 5)

    n : ℕ
    n = num_at 4 s 1

    good : P (shown (parts_of s))
    good = pick_in Q (ltb n 6) tt (pick_in Q (ltb Number.limit n) tt (pick_in Q (ltb (length s) n) tt (hands_out (fields_of (parts_of s)) (view 0 n)).by_its_type))

-- The answer goes by the six bytes of the header and by how many there are in all: what a message holds is not read, skipped or not.
pub header_decides : (s t : List ℕ) → take 6 s ≡ take 6 t → length s ≡ length t → split_of s ≡ split_of t
unfolding read_fields
header_decides s t e l =
    let same : (w at : ℕ) → at + w ≤ 6 → num_at w s (0 + at) ≡ num_at w t (0 + at) = λ w at h.
    sym (num_part w at 6 s 0 h) ∙ ap (λ (x : List ℕ). num_at w x at) e ∙ num_part w at 6 t 0 h in
    rw (l, same 1 0 (omega arith), same 4 1 (omega arith), same 1 5 (omega arith))

-- What is no Cut stays what it is, whatever comes behind it.
pub stays : (s t : List ℕ) → length (s ++ t) ≤ Number.limit → ((refusal_of (split_of s)).number ≡ Number.Cut → ⊥) → split_of (s ++ t) ≡ split_of s
stays = Cases.stays

-- ---- any two answers that the contract allows are equal
pub split_determined : (s : List ℕ) (a b : SplitAnswer) → a ≡ split_of s → b ≡ split_of s → a ≡ b
split_determined s a b = determined
