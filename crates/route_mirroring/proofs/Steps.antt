-- One step of the walk by its cases; what it says of the bytes, and what `step_at` answers in each. Assumes nothing.
use mathlib.Core.Path.{◌≡◌, refl, sym, ap, ◌∙◌, subst}
use mathlib.Core.List.{List}
use mathlib.Core.Bool.{Bool, true, false}
use Prim.Native.Nat.{ℕ, ◌+◌, ◌-◌, ◌≤◌, ◌<◌}
use native.Mathlib.Omega.{arith}
use native.Mathlib.Nat.{add-zero}
use borrow.Author.Tests.{lt-leb, le-leb, lt-ltb, le-ltb, eq-eqb, ne_eqb, leb-true, leb-false, ltb-false, eqb-true, eqb-false}
use lib.Dec.{leb, ltb, eqb}
use lib.ListN.{length, drop, length-drop}
use Rattle.wire.specs.Number as Number
use Rattle.wire.specs.Bytes.{pick, num_at}
use Rattle.wire.specs.Refusal.{refusal, cut_at, need_at}
use Rattle.cursor.specs.Read.{cursor, read}
use Rattle.wire.specs.Walk as Walk
use Rattle.wire.specs.Walk.{stop, bad, item}
use Rattle.wire.specs.declared.Refusal.{Refusal}
use Rattle.std.specs.declared.result.Result.TheVariants.{Ok, Err}
use Rattle.std.specs.declared.option.Option.TheVariants.{Some, None}
use Rattle.cursor.proofs.Reading as Reading
use Rattle.cursor.proofs.Reading.{Was, was_got, was_in}
use Rattle.tlv_head.specs.Head.{head_at}
use Rattle.tlv_head.specs.declared.TlvHead.{TlvHead}
use Rattle.tlv_head.proofs.Heads.{Head, was_found, was_short}
use Rattle.wire.proofs.Needs.{was_met, was_cut, cut_from}
use Rattle.cursor.specs.declared.Cursor.{Cursor}
use Rattle.route_mirroring.specs.Grammar.{Tlv, size_of}
use Rattle.route_mirroring.specs.Shown.{entry}
use Rattle.route_mirroring.specs.Read.{message_of, information_of, message_step, information_step, step, stop_at, Stepped, stepped, step_at}
use Rattle.route_mirroring.specs.declared.RouteMirroringTlv.{RouteMirroringTlv}
use Rattle.walk.specs.Lent.{step_of}
use Rattle.walk.specs.declared.lent.Step.TheVariants.{Stop, Whole}

-- a whole TLV of each type at the front of the bytes
pub record Message (s : List ℕ) : Type 0 where
  pub long : 4 < length s
  pub kind_is : num_at 2 s 0 ≡ 0
  pub has-header : 19 ≤ num_at 2 s 2
  pub there : num_at 2 s 2 ≤ length s - 4

pub record Info (s : List ℕ) : Type 0 where
  pub kind_is : num_at 2 s 0 ≡ 1
  pub there : 2 ≤ length s - 4
  pub known : num_at 2 s 4 ≤ 1

pub data Seen (s : List ℕ) : Walk.Step Tlv → Type 0 where
  none : length s ≤ 4 → Seen s stop
  fault : (r : Refusal) → 0 < r.number → Seen s (bad r)
  message : Message s → Seen s (item (message_of s))
  info : Info s → Seen s (item (information_of s))

see_message : (s : List ℕ) → 4 < length s → num_at 2 s 0 ≡ 0 → Seen s (message_step s)
unfolding message_step
see_message s l k = go (ltb (num_at 2 s 2) 19) refl (ltb (length s - 4) (num_at 2 s 2)) refl
  where
    go : (a : Bool) → ltb (num_at 2 s 2) 19 ≡ a → (b : Bool) → ltb (length s - 4) (num_at 2 s 2) ≡ b
        → Seen s (pick a (bad (refusal Number.BgpLength 2)) (pick b (bad (cut_at (length s) 4 (num_at 2 s 2))) (item (message_of s))))
    go true ha b hb = fault (refusal Number.BgpLength 2) (omega arith)
    go false ha true hb = fault (cut_at (length s) 4 (num_at 2 s 2)) (omega arith)
    go false ha false hb = message (record { long = l; kind_is = k; has-header = ltb-false _ _ ha; there = ltb-false _ _ hb })

see_information : (s : List ℕ) → num_at 2 s 0 ≡ 1 → Seen s (information_step s)
unfolding information_step
see_information s k = go (ltb (length s - 4) 2) refl (ltb 1 (num_at 2 s 4)) refl
  where
    go : (a : Bool) → ltb (length s - 4) 2 ≡ a → (b : Bool) → ltb 1 (num_at 2 s 4) ≡ b
        → Seen s (pick a (bad (cut_at (length s) 4 2)) (pick b (bad (refusal Number.UnknownKind 4)) (item (information_of s))))
    go true ha b hb = fault (cut_at (length s) 4 2) (omega arith)
    go false ha true hb = fault (refusal Number.UnknownKind 4) (omega arith)
    go false ha false hb = info (record { kind_is = k; there = ltb-false _ _ ha; known = ltb-false _ _ hb })

pub see : (s : List ℕ) → Seen s (step s)
unfolding step
see s = go (leb (length s) 4) refl (ltb 1 (num_at 2 s 0)) refl (eqb (num_at 2 s 0) 0) refl
  where
    go : (a : Bool) → leb (length s) 4 ≡ a → (b : Bool) → ltb 1 (num_at 2 s 0) ≡ b → (c : Bool) → eqb (num_at 2 s 0) 0 ≡ c
        → Seen s (pick a stop (pick b (bad (refusal Number.BadTlvType 0)) (pick c (message_step s) (information_step s))))
    go true ha b hb c hc = none (leb-true _ _ ha)
    go false ha true hb c hc = fault (refusal Number.BadTlvType 0) (omega arith)
    go false ha false hb true hc = see_message s (leb-false _ _ ha) (eqb-true _ _ hc)
    go false ha false hb false hc =
        let low = ltb-false 1 (num_at 2 s 0) hb in
        let some = eqb-false (num_at 2 s 0) 0 hc in
        see_information s (omega arith)

-- ---- and the step by its case
pub none_of : (s : List ℕ) → length s ≤ 4 → step s ≡ stop
unfolding step
none_of s h = rw (le-leb (length s) 4 h)

pub message-of : (s : List ℕ) → 4 < length s → num_at 2 s 0 ≡ 0 → step s ≡ message_step s
unfolding step
message-of s l k = rw (lt-leb (length s) 4 l, le-ltb 1 (num_at 2 s 0) (omega arith), eq-eqb (num_at 2 s 0) 0 k)

pub information-of : (s : List ℕ) → 4 < length s → num_at 2 s 0 ≡ 1 → step s ≡ information_step s
unfolding step
information-of s l k = rw (lt-leb (length s) 4 l, le-ltb 1 (num_at 2 s 0) (omega arith), ne_eqb (num_at 2 s 0) 0 (omega arith))

pub whole_message : (s : List ℕ) → Message s → step s ≡ item (message_of s)
unfolding message_step
whole_message s m =
    message-of s m.long m.kind_is
    ∙ rw (le-ltb (num_at 2 s 2) 19 m.has-header, le-ltb (length s - 4) (num_at 2 s 2) m.there)

pub whole_info : (s : List ℕ) → Info s → step s ≡ item (information_of s)
unfolding information_step
whole_info s i =
    information-of s (omega (arith, i.there)) i.kind_is
    ∙ rw (le-ltb (length s - 4) 2 i.there, le-ltb 1 (num_at 2 s 4) i.known)

-- ---- what the step's answer says of the bytes
pub data Found (s : List ℕ) : Tlv → Type 0 where
  found_message : Message s → Found s (message_of s)
  found_info : Info s → Found s (information_of s)

pub found : (s : List ℕ) (t : Tlv) {x : Walk.Step Tlv} → Seen s x → x ≡ item t → Found s t
found s t (none h) q = absurd cc
found s t (fault r h) q = absurd cc
found s t (message m) q = let e : message_of s ≡ t = cc in subst (Found s) e (found_message m)
found s t (info i) q = let e : information_of s ≡ t = cc in subst (Found s) e (found_info i)

pub stopped : (s : List ℕ) {x : Walk.Step Tlv} → Seen s x → x ≡ stop → length s ≤ 4
stopped s (none h) q = h
stopped s (fault r h) q = absurd cc
stopped s (message m) q = absurd cc
stopped s (info i) q = absurd cc

pub numbered : (s : List ℕ) (r : Refusal) {x : Walk.Step Tlv} → Seen s x → x ≡ bad r → 0 < r.number
numbered s r (none h) q = absurd cc
numbered s r (fault d h) q = let e : d ≡ r = cc in subst (λ (j : Refusal). 0 < j.number) e h
numbered s r (message m) q = absurd cc
numbered s r (info i) q = absurd cc

-- ---- each answer of `step_at`, by the head that was read
module _ (s : List ℕ) (at : ℕ) (o : RouteMirroringTlv) where
  pub brief_at : head_at 1 s at ≡ None → ◌≡◌ {A = Stepped} (Ok (Stop at), o) (step_at s at o)
  brief_at e =
      let h = was_short 1 s at refl (sym e) in
      sym (ap (step_of entry size_of stop_at at (drop at s) o) (none_of (drop at s) (simp length-drop (omega arith))))

  module _ (h : TlvHead) (e : head_at 1 s at ≡ Some h) where
    head : Head 1 s at h
    head = was_found 1 s at e refl

    long : 4 < length (drop at s)
    long = let w = head in simp length-drop (omega arith)

    -- and what `message_at` and `information_at` are told of it
    pub asked : (h.length ≡ num_at 2 (drop at s) 2) × (h.value.at ≡ at + 4)
    asked = let w = head in (sym w.size_is, w.next)

    pub strange_at : 1 < h.kind → ◌≡◌ {A = Stepped} (Err (refusal Number.BadTlvType at), o) (step_at s at o)
    unfolding step
    strange_at k = let w = head in rw (lt-leb (length (drop at s)) 4 long, w.kind_is, lt-ltb 1 h.kind k, add-zero at)

    pub message-at : h.kind ≡ 0 → stepped message_step s at o ≡ step_at s at o
    message-at k = let w = head in sym (ap (step_of entry size_of stop_at at (drop at s) o) (message-of (drop at s) long (w.kind_is ∙ k)))

    pub information-at : h.kind ≡ 1 → stepped information_step s at o ≡ step_at s at o
    information-at k = let w = head in sym (ap (step_of entry size_of stop_at at (drop at s) o) (information-of (drop at s) long (w.kind_is ∙ k)))

-- ---- each answer of `message_at` and of `information_at`, where the value starts at a place
module _ (s : List ℕ) (at size place : ℕ) (o : RouteMirroringTlv) (asked_for : (size ≡ num_at 2 (drop at s) 2) × (place ≡ at + 4)) where
  size_is : size ≡ num_at 2 (drop at s) 2
  size_is = asked_for.0

  pub small_at : size < 19 → ◌≡◌ {A = Stepped} (Err (refusal Number.BgpLength (at + 2)), o) (stepped message_step s at o)
  unfolding message_step
  small_at h = rw (← size_is, lt-ltb size 19 h)

  pub cut-at : 19 ≤ size → (r : Refusal) → need_at (length s) place size ≡ Err r → ◌≡◌ {A = Stepped} (Err r, o) (stepped message_step s at o)
  unfolding message_step
  cut-at h r q =
      let lacked = was_cut (length s) place size q refl in
      rw (← size_is, le-ltb size 19 h, lt-ltb (length (drop at s) - 4) size (simp length-drop (omega (arith, asked_for.1, lacked.few))))
      (ap (λ (r : Refusal). (Err r, o)) (lacked.cut_is ∙ sym (cut_from s at 4 place size asked_for.1)))

  pub message_there : 19 ≤ size → (u : Unit {0}) → need_at (length s) place size ≡ Ok u
      → ◌≡◌ {A = Stepped} (Ok (Whole (cursor (place + size))), record { kind = 0; info_len = size; number = place }) (stepped message_step s at o)
  unfolding message_step
  message_there h u q =
      let met = was_met (length s) place size q refl in
      let end_is : place + size ≡ at + (4 + size) = omega (arith, asked_for.1) in
      rw (← size_is, le-ltb size 19 h, le-ltb (length (drop at s) - 4) size (simp length-drop (omega (arith, asked_for.1))))
      (λ i. (Ok (Whole (cursor (end_is i))), record { kind = 0; info_len = size; number = asked_for.1 i }))

  pub short_at : (r : Refusal) → read 2 s place ≡ Err r → ◌≡◌ {A = Stepped} (Err r, o) (stepped information_step s at o)
  unfolding information_step
  short_at r q =
      let lacked = Reading.was_cut 2 s place q refl in
      rw (lt-ltb (length (drop at s) - 4) 2 (simp length-drop (omega (arith, asked_for.1, lacked.few))))
      (ap (λ (r : Refusal). (Err r, o)) (lacked.cut_is ∙ sym (cut_from s at 4 place 2 asked_for.1)))

  module _ (code : ℕ) (c : Cursor) (q : read 2 s place ≡ Ok (code, c)) where
    got : Was 2 s place code c
    got = was_got 2 s place q refl

    there : 2 ≤ length (drop at s) - 4
    there = let g = got in simp length-drop (omega (arith, asked_for.1, g.left))

    pub unknown_at : 1 < code → ◌≡◌ {A = Stepped} (Err (refusal Number.UnknownKind place), o) (stepped information_step s at o)
    unfolding information_step
    unknown_at h = rw (le-ltb (length (drop at s) - 4) 2 there, was_in at 4 asked_for.1 got, lt-ltb 1 code h, asked_for.1)

    pub information_there : code ≤ 1
        → ◌≡◌ {A = Stepped} (Ok (Whole c), record { kind = 1; info_len = size; number = code }) (stepped information_step s at o)
    unfolding information_step
    information_there h =
        let g = got in
        let end_is : at + 6 ≡ c.at = omega (arith, asked_for.1, g.next) in
        rw (le-ltb (length (drop at s) - 4) 2 there, was_in at 4 asked_for.1 g, le-ltb 1 code h, ← size_is, end_is)

-- those that each of the three finds by itself
pub ruleset step_answers = (brief_at, asked, strange_at)

pub ruleset message_answers = (small_at, cut-at, message_there)

pub ruleset information_answers = (short_at, unknown_at, information_there)
