-- One step of the walk by its cases; what it says of the bytes, and what `step_at` answers in each. Assumes nothing.
use mathlib.Core.Path.{◌≡◌, refl, sym, ap, ◌∙◌, subst}
use mathlib.Core.List.{List}
use mathlib.Core.Logic.{inl, inr}
use mathlib.Core.Bool.{Bool, true, false}
use Prim.Native.Nat.{ℕ, ◌+◌, ◌-◌, ◌≤◌, ◌<◌}
use native.Mathlib.Omega.{arith}
use Rattle.std.proofs.Common.{◌≢◌}
use native.Mathlib.Nat.{add-zero}
use borrow.Author.Tests.{lt-leb, le-leb, lt-ltb, le-ltb, leb-true, leb-false, ltb-true, ltb-false, eqb-true, eqb-false}
use lib.Dec.{leb, ltb, eqb}
use lib.ListN.{length, drop, length-drop}
use Rattle.std.specs.declared.result.Result.TheVariants.{Ok, Err}
use Rattle.wire.specs.Number as Number
use Rattle.wire.specs.Bytes.{pick, num_at}
use Rattle.wire.specs.Refusal.{refusal, cut_at}
use Rattle.cursor.specs.Read.{cursor, read}
use Rattle.wire.specs.Walk as Walk
use Rattle.wire.specs.Walk.{stop, bad, item}
use Rattle.wire.specs.declared.Refusal.{Refusal}
use Rattle.cursor.specs.declared.Cursor.{Cursor}
use Rattle.wire.proofs.Needs.{cut_from}
use Rattle.wire.proofs.Tlv.{NoTlv}
use Rattle.std.specs.declared.option.Option.TheVariants.{Some, None}
use Rattle.cursor.proofs.Reading.{was_got, was_cut, was_in}
use Rattle.tlv_head.specs.Head.{head_at}
use Rattle.tlv_head.specs.declared.TlvHead.{TlvHead}
use Rattle.tlv_head.proofs.Heads.{Head, was_found, was_short}
use Rattle.termination_message.specs.Grammar.{Tlv, size_of}
use Rattle.termination_message.specs.Shown.{entry}
use Rattle.termination_message.specs.Read.{string_in, reason_in, step, stop_behind, StepAnswer, step_at}
use Rattle.termination_message.specs.declared.TerminationTlv.{TerminationTlv}
use Rattle.walk.specs.Lent.{step_of}
use Rattle.walk.specs.declared.lent.Step.TheVariants.{Stop, Whole}

-- bytes that begin with a TLV of this type, whose length does not exceed what follows it
pub record Begun (s : List ℕ) (kind : ℕ) : Type 0 where
  pub long : 4 < length s
  pub kind_is : num_at 2 s 0 ≡ kind
  pub there : num_at 2 s 2 ≤ length s - 4

pub data Seen (s : List ℕ) : Walk.Step Tlv → Type 0 where
  none : NoTlv s → (4 < length s → num_at 2 s 0 ≤ 1) → Seen s stop
  strange : 4 < length s → 1 < num_at 2 s 0 → Seen s (bad (refusal Number.UnknownKind 0))
  text : Begun s 0 → Seen s (item (string_in s))
  lacking : Begun s 1 → length s - 4 < 2 → Seen s (bad (cut_at (length s) 4 2))
  unknown : Begun s 1 → 2 ≤ length s - 4 → 4 < num_at 2 s 4 → Seen s (bad (refusal Number.UnknownKind 4))
  known : Begun s 1 → 2 ≤ length s - 4 → num_at 2 s 4 ≤ 4 → Seen s (item (reason_in s))

see : (s : List ℕ) → Seen s (step s)
unfolding step
see s =
    go (leb (length s) 4) refl (ltb 1 (num_at 2 s 0)) refl (ltb (length s - 4) (num_at 2 s 2)) refl (eqb (num_at 2 s 0) 0) refl
    (ltb (length s - 4) 2) refl (ltb 4 (num_at 2 s 4)) refl
  where
    one : 4 < length s → ltb 1 (num_at 2 s 0) ≡ false → eqb (num_at 2 s 0) 0 ≡ false → ltb (length s - 4) (num_at 2 s 2) ≡ false → Begun s 1
    one h p q r =
        let l = ltb-false 1 (num_at 2 s 0) p in
        let m = eqb-false (num_at 2 s 0) 0 q in
        record { long = h; kind_is = omega arith; there = ltb-false (length s - 4) (num_at 2 s 2) r }

    go : (a : Bool) → leb (length s) 4 ≡ a → (b : Bool) → ltb 1 (num_at 2 s 0) ≡ b → (c : Bool) → ltb (length s - 4) (num_at 2 s 2) ≡ c
        → (d : Bool) → eqb (num_at 2 s 0) 0 ≡ d → (e : Bool) → ltb (length s - 4) 2 ≡ e → (f : Bool) → ltb 4 (num_at 2 s 4) ≡ f
        → Seen s (pick a stop (pick b (bad (refusal Number.UnknownKind 0)) (pick c stop (pick d (item (string_in s))
        (pick e (bad (cut_at (length s) 4 2)) (pick f (bad (refusal Number.UnknownKind 4)) (item (reason_in s))))))))
    go true ha b hb c hc d hd e he f hf = let h = leb-true (length s) 4 ha in none (inl h) (λ k. absurd (omega arith))
    go false ha true hb c hc d hd e he f hf = strange (leb-false (length s) 4 ha) (ltb-true 1 (num_at 2 s 0) hb)
    go false ha false hb true hc d hd e he f hf =
        none (inr (leb-false (length s) 4 ha, ltb-true (length s - 4) (num_at 2 s 2) hc)) (λ k. ltb-false 1 (num_at 2 s 0) hb)
    go false ha false hb false hc true hd e he f hf =
        text (record { long = leb-false (length s) 4 ha; kind_is = eqb-true (num_at 2 s 0) 0 hd; there = ltb-false (length s - 4) (num_at 2 s 2) hc })
    go false ha false hb false hc false hd true he f hf = lacking (one (leb-false (length s) 4 ha) hb hd hc) (ltb-true (length s - 4) 2 he)
    go false ha false hb false hc false hd false he true hf =
        unknown (one (leb-false (length s) 4 ha) hb hd hc) (ltb-false (length s - 4) 2 he) (ltb-true 4 (num_at 2 s 4) hf)
    go false ha false hb false hc false hd false he false hf =
        known (one (leb-false (length s) 4 ha) hb hd hc) (ltb-false (length s - 4) 2 he) (ltb-false 4 (num_at 2 s 4) hf)

-- the tests that a TLV of a known type passes
begun_step : (s : List ℕ) (kind : ℕ) → kind ≤ 1 → Begun s kind
    → step s
    ≡ pick (eqb kind 0) (item (string_in s)) (pick (ltb (length s - 4) 2) (bad (cut_at (length s) 4 2)) (pick (ltb 4 (num_at 2 s 4)) (bad (refusal Number.UnknownKind 4)) (item (reason_in s))))
unfolding step
begun_step s kind h b =
    rw (lt-leb (length s) 4 b.long, b.kind_is, le-ltb 1 kind h, le-ltb (length s - 4) (num_at 2 s 2) b.there)

pub of : (s : List ℕ) {x : Walk.Step Tlv} → Seen s x → step s ≡ x
unfolding step
of s (none (inl h) k) = rw (le-leb (length s) 4 h)
of s (none (inr h) k) = rw (lt-leb (length s) 4 h.0, le-ltb 1 (num_at 2 s 0) (k h.0), lt-ltb (length s - 4) (num_at 2 s 2) h.1)
of s (strange h k) = rw (lt-leb (length s) 4 h, lt-ltb 1 (num_at 2 s 0) k)
of s (text b) = begun_step s 0 (omega arith) b
of s (lacking b l) = begun_step s 1 (omega arith) b ∙ rw (lt-ltb (length s - 4) 2 l)
of s (unknown b l m) = begun_step s 1 (omega arith) b ∙ rw (le-ltb (length s - 4) 2 l, lt-ltb 4 (num_at 2 s 4) m)
of s (known b l m) = begun_step s 1 (omega arith) b ∙ rw (le-ltb (length s - 4) 2 l, le-ltb 4 (num_at 2 s 4) m)

-- ---- what the step's answer says of the bytes
pub stopped : (s : List ℕ) → step s ≡ stop → NoTlv s × (4 < length s → num_at 2 s 0 ≤ 1)
stopped s e = go (see s) e
  where
    go : {x : Walk.Step Tlv} → Seen s x → x ≡ stop → NoTlv s × (4 < length s → num_at 2 s 0 ≤ 1)
    go (none h k) q = (h, k)
    go (strange h k) q = absurd cc
    go (text b) q = absurd cc
    go (lacking b l) q = absurd cc
    go (unknown b l m) q = absurd cc
    go (known b l m) q = absurd cc

pub faulty : (s : List ℕ) (r : Refusal) → step s ≡ bad r → 0 < r.number
faulty s r e = go (see s) e
  where
    some : (d : Refusal) → 0 < d.number → ◌≡◌ {A = Walk.Step Tlv} (bad d) (bad r) → 0 < r.number
    some d h q = let y : d ≡ r = cc in subst (λ (j : Refusal). 0 < j.number) y h

    go : {x : Walk.Step Tlv} → Seen s x → x ≡ bad r → 0 < r.number
    go (none h k) q = absurd cc
    go (strange h k) q = some _ (omega arith) q
    go (text b) q = absurd cc
    go (lacking b l) q = some _ (omega arith) q
    go (unknown b l m) q = some _ (omega arith) q
    go (known b l m) q = absurd cc

-- what holds of a String and of a Reason that the step finds holds of the TLV that it found
pub by_item : (s : List ℕ) (P : Tlv → Type 0) → (Begun s 0 → P (string_in s)) → (Begun s 1 → 2 ≤ length s - 4 → num_at 2 s 4 ≤ 4 → P (reason_in s))
    → (t : Tlv) → step s ≡ item t → P t
by_item s P f g t e = go (see s) e
  where
    go : {x : Walk.Step Tlv} → Seen s x → x ≡ item t → P t
    go (none h k) q = absurd cc
    go (strange h k) q = absurd cc
    go (text b) q = let y : string_in s ≡ t = cc in subst P y (f b)
    go (lacking b l) q = absurd cc
    go (unknown b l m) q = absurd cc
    go (known b l m) q = let y : reason_in s ≡ t = cc in subst P y (g b l m)

-- ---- each answer of `step_at`, by the head and the number that were read
module _ (s : List ℕ) (at : ℕ) (o : TerminationTlv) where
  pub brief_at : head_at 1 s at ≡ None → ◌≡◌ {A = StepAnswer} (Ok (Stop at), o) (step_at s at o)
  brief_at e =
      let h = was_short 1 s at refl (sym e) in
      let l : length (drop at s) ≤ 4 = simp length-drop (omega arith) in
      rw (of (drop at s) (none (inl l) (λ k. absurd (omega arith))), le-leb (length (drop at s)) 4 l)

  module _ (h : TlvHead) (e : head_at 1 s at ≡ Some h) where
    head : Head 1 s at h
    head = was_found 1 s at e refl

    long : 4 < length (drop at s)
    long = let w = head in simp length-drop (omega arith)

    pub strange_at : 1 < h.kind → ◌≡◌ {A = StepAnswer} (Err (refusal Number.UnknownKind at), o) (step_at s at o)
    strange_at k = let w = head in rw (of (drop at s) (strange long (rw w.kind_is k)), add-zero at)

    pub beyond_at : h.kind ≤ 1 → length s < h.value.at + h.length → ◌≡◌ {A = StepAnswer} (Ok (Stop h.value.at), o) (step_at s at o)
    beyond_at k l =
        let w = head in
        rw (of (drop at s) (none (inr (long, rw (length-drop, w.size_is) (omega arith))) (λ m. rw w.kind_is k)), lt-leb (length (drop at s)) 4 long, w.next)

    module _ (fits : h.value.at + h.length ≤ length s) where
      begun : (k : ℕ) → h.kind ≡ k → Begun (drop at s) k
      begun k e = let w = head in record { long = long; kind_is = w.kind_is ∙ e; there = rw (length-drop, w.size_is) (omega arith) }

      pub string_at : h.kind ≡ 0
          → ◌≡◌ {A = StepAnswer} (Ok (Whole (cursor (h.value.at + h.length))), record { kind = h.kind; info_len = h.length; number = h.value.at }) (step_at s at o)
      string_at k =
          let w = head in
          let there : at + (4 + num_at 2 (drop at s) 2) ≡ h.value.at + h.length = omega arith in
          sym (ap (step_of entry size_of stop_behind at (drop at s) o) (of (drop at s) (text (begun 0 k)))
          ∙ (λ i. (Ok (Whole (cursor (there i))), record { kind = sym k i; info_len = w.size_is i; number = sym w.next i })))

      pub lacking_at : h.kind ≢ 0 → h.kind ≤ 1 → (r : Refusal) → read 2 s h.value.at ≡ Err r → ◌≡◌ {A = StepAnswer} (Err r, o) (step_at s at o)
      lacking_at m n r q =
          let w = head in
          let lacked = was_cut 2 s h.value.at q refl in
          sym (ap (step_of entry size_of stop_behind at (drop at s) o) (of (drop at s) (lacking (begun 1 (omega arith)) (rw length-drop (omega (arith, lacked.few)))))
          ∙ ap (λ (r : Refusal). (Err r, o)) (cut_from s at 4 h.value.at 2 w.next ∙ sym lacked.cut_is))

      module _ (m : h.kind ≢ 0) (n : h.kind ≤ 1) (code : ℕ) (c : Cursor) (q : read 2 s h.value.at ≡ Ok (code, c)) where
        pub unknown_at : 4 < code → ◌≡◌ {A = StepAnswer} (Err (refusal Number.UnknownKind h.value.at), o) (step_at s at o)
        unknown_at l =
            let w = head in
            let g = was_got 2 s h.value.at q refl in
            rw (of (drop at s) (unknown (begun 1 (omega arith)) (rw length-drop (omega arith)) (rw (was_in at 4 w.next g) l)), w.next)

        pub known_at : code ≤ 4
            → ◌≡◌ {A = StepAnswer} (Ok (Whole c), record { kind = h.kind; info_len = h.length; number = code }) (step_at s at o)
        known_at l =
            let w = head in
            let g = was_got 2 s h.value.at q refl in
            let code_is = was_in at 4 w.next g in
            let one : h.kind ≡ 1 = omega arith in
            let there : at + 6 ≡ c.at = omega arith in
            sym (ap (step_of entry size_of stop_behind at (drop at s) o) (of (drop at s) (known (begun 1 one) (rw length-drop (omega arith)) (rw code_is l)))
            ∙ (λ i. (Ok (Whole (cursor (there i))), record { kind = sym one i; info_len = w.size_is i; number = code_is i })))

-- those that it finds by itself
pub ruleset answers = (brief_at, strange_at, beyond_at, lacking_at, unknown_at)
