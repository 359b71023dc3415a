-- The reader and the grammar: an input taken apart and joined again, both ways. Assumes nothing.
use mathlib.Core.Path.{◌≡◌, refl, sym, ap, ◌∙◌, subst}
use mathlib.Core.Bool.{Bool, true, false}
use mathlib.Core.List.{List, [], ◌∷◌, ◌++◌, append-nil}
use mathlib.Core.Logic.{inl, inr}
use Prim.Native.Nat.{ℕ, zero, suc, ◌+◌, ◌-◌, ◌≤◌}
use native.Mathlib.Omega.{arith}
use borrow.Author.Tests.{leb-true, ltb-true, ltb-false, lt-ltb, le-ltb, le-leb}
use lib.Dec.{ltb}
use lib.ListN.{length, drop, length-drop, take}
use Rattle.wire.specs.Number as Number
use Rattle.wire.specs.Bytes.{pick, has, be, num_at, Bytes, none}
use Rattle.wire.specs.Refusal.{refusal, cut_at}
use Rattle.wire.specs.View.{view}
use Rattle.wire.proofs.Bytes.{value_be, num_back, bytes_drop}
use Rattle.peer_down_notification.specs.Grammar.{Data, absent, present, Reading, data_bytes, join, Follows, the_rest, some_rest, no_rest, no_data, Good}
use Rattle.peer_down_notification.specs.Shown.{PeerDownAnswer, reason_of, shown, refusal_of, shown_data, data_of}
use Rattle.peer_down_notification.specs.Read.{has_data, apart, parts_of, good_of, read_peer_down}
use Rattle.std.specs.declared.option.Option.TheVariants.{Some, None}
use Rattle.std.specs.declared.result.Result.TheVariants.{Ok, Err}
use lib.Seq.{take_at}
use Rattle.wire.proofs.Views.{viewed_part}

-- ---- the grammar's rule and the reader's test
abbrev pub There : Data → Bool
There absent = false
There (present b) = true

pub test_of : (k : ℕ) (d : Data) (z : List ℕ) → Follows k d z → has_data k (length (data_bytes d ++ z)) ≡ There d
unfolding has_data
test_of k _ _ (the_rest (inl e) b) = rw e
test_of k _ _ (the_rest (inr (inl e)) b) = rw e
test_of k _ _ (the_rest (inr (inr (inl e))) b) = rw e
test_of k _ _ (the_rest (inr (inr (inr e))) b) = rw e
test_of k _ _ (some_rest e b h) = rw (e, append-nil b) (lt-ltb 0 (length b) h)
test_of k _ _ (no_rest e) = rw e
test_of k _ z (no_data (inl e) _) = rw e
test_of k _ z (no_data (inr e) _) = rw e

pub known_of : (k : ℕ) (d : Data) (z : List ℕ) → Follows k d z → k ≤ 6
known_of k _ _ (the_rest (inl e) b) = omega arith
known_of k _ _ (the_rest (inr (inl e)) b) = omega arith
known_of k _ _ (the_rest (inr (inr (inl e))) b) = omega arith
known_of k _ _ (the_rest (inr (inr (inr e))) b) = omega arith
known_of k _ _ (some_rest e b h) = omega arith
known_of k _ _ (no_rest e) = omega arith
known_of k _ z (no_data (inl e) _) = omega arith
known_of k _ z (no_data (inr e) _) = omega arith

nothing_left : (z : List ℕ) → ltb 0 (length z) ≡ false → z ≡ []
nothing_left [] e = refl
nothing_left (x ∷ z) e = let h = ltb-false 0 (length (x ∷ z)) e in absurd (omega arith)

pub with_data : (k : ℕ) → k ≤ 6 → (b : List ℕ) → has_data k (length b) ≡ true → Follows k (present b) []
unfolding has_data
with_data zero h b e = some_rest refl b (ltb-true 0 (length b) e)
with_data (suc zero) h b e = the_rest (inl refl) b
with_data (suc (suc zero)) h b e = the_rest (inr (inl refl)) b
with_data (suc (suc (suc zero))) h b e = the_rest (inr (inr (inl refl))) b
with_data (suc (suc (suc (suc zero)))) h b e = let z : ◌≡◌ {A = ℕ} 0 1 = cc in absurd (omega arith)
with_data (suc (suc (suc (suc (suc zero))))) h b e = let z : ◌≡◌ {A = ℕ} 0 1 = cc in absurd (omega arith)
with_data (suc (suc (suc (suc (suc (suc zero)))))) h b e = the_rest (inr (inr (inr refl))) b
with_data (suc (suc (suc (suc (suc (suc (suc k))))))) h b e = absurd (omega arith)

pub without_data : (k : ℕ) → k ≤ 6 → (z : List ℕ) → has_data k (length z) ≡ false → Follows k absent z
unfolding has_data
without_data zero h z e = subst (Follows 0 absent) (sym (nothing_left z e)) (no_rest refl)
without_data (suc zero) h z e = let q : ◌≡◌ {A = ℕ} 0 1 = cc in absurd (omega arith)
without_data (suc (suc zero)) h z e = let q : ◌≡◌ {A = ℕ} 0 1 = cc in absurd (omega arith)
without_data (suc (suc (suc zero))) h z e = let q : ◌≡◌ {A = ℕ} 0 1 = cc in absurd (omega arith)
without_data (suc (suc (suc (suc zero)))) h z e = no_data (inl refl) z
without_data (suc (suc (suc (suc (suc zero))))) h z e = no_data (inr refl) z
without_data (suc (suc (suc (suc (suc (suc zero)))))) h z e = let q : ◌≡◌ {A = ℕ} 0 1 = cc in absurd (omega arith)
without_data (suc (suc (suc (suc (suc (suc (suc k))))))) h z e = absurd (omega arith)

-- ---- joined, then taken apart
rest_back : (d : Data) (z : List ℕ) → (There d ≡ true → z ≡ []) → (k : ℕ) → apart (There d) k (data_bytes d ++ z) ≡ record { reason = k; data_part = d; tail = z }
rest_back absent z h k = refl
rest_back (present b) z h k =
    let e = h refl in
    λ i. record { reason = k; data_part = present ((ap (λ (y : List ℕ). b ++ y) e ∙ append-nil b) i); tail = sym e i }

no_tail : (k : ℕ) (d : Data) (z : List ℕ) → Follows k d z → There d ≡ true → z ≡ []
no_tail k _ _ (the_rest w b) e = refl
no_tail k _ _ (some_rest w b h) e = refl
no_tail k _ _ (no_rest w) e = refl
no_tail k _ z (no_data w _) e = let q : ◌≡◌ {A = ℕ} 0 1 = cc in absurd (omega arith)

pub reason_there : (r : Reading) → Good r → num_at 1 (join r) 0 ≡ r.reason
unfolding be
reason_there r g = value_be 1 r.reason (omega (arith, known_of r.reason r.data_part r.tail g.follows))

pub parts_join : (r : Reading) → Good r → parts_of (join r) ≡ r
unfolding be
parts_join r g =
    let k = reason_there r g in
    let t = test_of r.reason r.data_part r.tail g.follows in
    let n : length (join r) - 1 ≡ length (data_bytes r.data_part ++ r.tail) = omega arith in
    rw (k, n, t) (rest_back r.data_part r.tail (no_tail r.reason r.data_part r.tail g.follows) r.reason)

-- ---- taken apart, then joined
pub record Accepted (s : List ℕ) : Type 0 where
  pub short : length s ≤ Number.limit
  pub one : 1 ≤ length s
  pub known : num_at 1 s 0 ≤ 6

pub parts_good : (s : List ℕ) → Bytes s → Accepted s → Good (parts_of s) × (join (parts_of s) ≡ s)
parts_good s p a = go (has_data (num_at 1 s 0) (length s - 1)) refl
  where
    n : length (drop 1 s) ≡ length s - 1
    n = length-drop 1 s

    go : (b : Bool) → has_data (num_at 1 s 0) (length s - 1) ≡ b
        → Good (apart b (num_at 1 s 0) (drop 1 s)) × (join (apart b (num_at 1 s 0) (drop 1 s)) ≡ s)
    go true h = (
      record { follows = with_data (num_at 1 s 0) a.known (drop 1 s) (rw n h); data-bytes = bytes_drop 1 p; tail_bytes = none },
      ap (λ (l : List ℕ). be 1 (num_at 1 s 0) ++ l) (append-nil (drop 1 s)) ∙ num_back 1 0 p (omega (arith, a.one)),
    )
    go false h = (
      record { follows = without_data (num_at 1 s 0) a.known (drop 1 s) (rw n h); data-bytes = none; tail_bytes = bytes_drop 1 p },
      num_back 1 0 p (omega (arith, a.one)),
    )

-- ---- what the reader accepts, and how it shows it
pub accepted : (s : List ℕ) → (refusal_of (read_peer_down s)).number ≡ Number.Good → Accepted s
accepted s e = go (ltb Number.limit (length s)) refl (has 1 s 0) refl (ltb 6 (num_at 1 s 0)) refl e
  where
    no : {k : ℕ} → suc k ≡ 0 → Accepted s
    no q = absurd (omega arith)

    go : (a : Bool) → ltb Number.limit (length s) ≡ a → (b : Bool) → has 1 s 0 ≡ b → (c : Bool) → ltb 6 (num_at 1 s 0) ≡ c
        → (refusal_of (pick a (Err (refusal Number.TooLong 0))
        (pick b (pick c (Err (refusal Number.UnknownKind 0)) (good_of (num_at 1 s 0) (length s - 1))) (Err (cut_at (length s) 0 1))))).number ≡ Number.Good
        → Accepted s
    go true ha b hb c hc q = no q
    go false ha false hb c hc q = no q
    go false ha true hb true hc q = no q
    go false ha true hb false hc q =
        let h = leb-true 1 (length s - 0) hb in
        record { short = ltb-false Number.limit (length s) ha; one = omega arith; known = ltb-false 6 (num_at 1 s 0) hc }

pub shows_parts : (s : List ℕ) → Accepted s → read_peer_down s ≡ shown (parts_of s)
shows_parts s a =
    rw (le-ltb Number.limit (length s) a.short, le-leb 1 (length s - 0) (omega (arith, a.one)), le-ltb 6 (num_at 1 s 0) a.known)
    (go (has_data (num_at 1 s 0) (length s - 1)))
  where
    n : length s - 1 ≡ length (drop 1 s)
    n = sym (length-drop 1 s)

    k : ℕ
    k = num_at 1 s 0

    go : (b : Bool)
        → ◌≡◌ {A = PeerDownAnswer} (pick b (Ok (record { reason = reason_of k; «data» = Some (view 1 (length s - 1)) }, 1 + (length s - 1)))
        (Ok (record { reason = reason_of k; «data» = None }, 1)))
        (shown (apart b k (drop 1 s)))
    go true = λ i. Ok (record { reason = reason_of k; «data» = Some (view 1 (n i)) }, 1 + n i)
    go false = refl

-- ---- what is shown of a reading's data is that data
pub data_shown : (k : ℕ) (d : Data) (z : List ℕ) → data_of (be 1 k ++ (data_bytes d ++ z)) (shown_data d) ≡ d
unfolding be
data_shown k absent z = refl
data_shown k (present b) z =
    let s = be 1 k ++ (b ++ z) in
    let part : take (length b) (drop 1 s) ≡ b = take_at b z (length b) refl in
    ap present (viewed_part s (view 1 (length b)) (ap length part) ∙ part)
