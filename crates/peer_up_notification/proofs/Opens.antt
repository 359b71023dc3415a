-- A BGP message: joined and taken apart, both ways; and what `open_at` answers. Assumes nothing.
use mathlib.Core.Path.{◌≡◌, refl, sym, ap, ap₂, ◌∙◌, subst}
use mathlib.Core.Bool.{Bool, true, false}
use mathlib.Core.List.{List, ◌++◌, append_assoc}
use Prim.Native.Nat.{ℕ, ◌+◌, ◌-◌, ◌≤◌, ◌<◌}
use native.Mathlib.Omega.{arith}
use borrow.Author.Tests.{lt-ltb, le-ltb, ltb-false}
use lib.Dec.{ltb}
use lib.ListN.{length, take, drop, length-append, length-drop, take-append-drop}
use lib.Seq.{take_at, drop_at, drop-drop}
use Rattle.wire.specs.Number as Number
use Rattle.wire.specs.Bytes.{pick, be, value, num_at, number_at, Bytes}
use Rattle.wire.specs.Refusal.{refusal, cut_at, need_at}
use Rattle.cursor.specs.Read.{cursor}
use Rattle.wire.specs.View.{view, viewed}
use Rattle.wire.specs.declared.Refusal.{Refusal}
use Rattle.std.specs.declared.result.Result.TheVariants.{Ok, Err}
use Rattle.cursor.specs.declared.Cursor.{Cursor}
use Rattle.wire.specs.declared.View.{View}
use Rattle.wire.proofs.Bytes.{bytes_append, bytes_be, bytes_take, bytes_drop, value_be, num_lt, number_is, num_back, part_back, num_drop, num_part}
use Rattle.wire.proofs.Needs.{was_met, was_cut}
use Rattle.wire.proofs.Views.{length_part, viewed_part, octets_part}
use Rattle.layout.specs.Layout.{cut_in}
use Rattle.models.specs.declared.Afi.{Afi}
use Rattle.per_peer_type.specs.declared.BmpPeerType.{BmpPeerType}
use Rattle.peer_up_notification.specs.Grammar.{widths, Message, message_bytes, GoodMessage}
use Rattle.peer_up_notification.specs.Shown.{sent_at, refused_answer}
use Rattle.peer_up_notification.specs.Told.{open_of}
use Rattle.peer_up_notification.specs.Read.{Open, BothOpens, open_at, behind_sent, both_opens, opens_of, with_received, with_sent, with_opens, read_peer_up}

-- ---- a good message
module _ (m : Message) (g : GoodMessage m) where
  pub message_long : length (message_bytes m) ≡ m.size
  unfolding be
  message_long = length-append m.marker (be 2 m.size ++ m.rest) ∙ omega (arith, g.marker_fits.many, g.size_is)

  pub message-bytes : Bytes (message_bytes m)
  message-bytes = bytes_append g.marker_fits.are_bytes (bytes_append (bytes_be 2 m.size) g.rest-bytes)

  -- its length, where r follows it
  pub message_size : (r : List ℕ) → num_at 2 (message_bytes m ++ r) 16 ≡ m.size
  unfolding be
  message_size r =
      ap (λ (l : List ℕ). num_at 2 l 16) (append_assoc m.marker (be 2 m.size ++ m.rest) r)
      ∙ ap (λ (l : List ℕ). value (take 2 l)) (drop_at m.marker (be 2 m.size ++ (m.rest ++ r)) 16 g.marker_fits.many)
      ∙ value_be 2 m.size g.size_fits

  pub open_join : open_of (message_bytes m) ≡ m
  unfolding be
  open_join =
      let behind = be 2 m.size ++ m.rest in
      let marker-is : take 16 (message_bytes m) ≡ m.marker = take_at m.marker behind 16 g.marker_fits.many in
      let at16 : drop 16 (message_bytes m) ≡ behind = drop_at m.marker behind 16 g.marker_fits.many in
      let size_is : num_at 2 (message_bytes m) 16 ≡ m.size = ap (λ (l : List ℕ). value (take 2 l)) at16 ∙ value_be 2 m.size g.size_fits in
      let rest_is : drop 18 (message_bytes m) ≡ m.rest = sym (drop-drop 2 16 (message_bytes m)) ∙ ap (drop 2) at16 in
      λ i. record { marker = marker-is i; size = size_is i; rest = rest_is i }

-- ---- bytes that are one
pub record OneMessage (x : List ℕ) : Type 0 where
  pub are_bytes : Bytes x
  pub has-header : 19 ≤ length x
  pub size_is : num_at 2 x 16 ≡ length x

module _ (x : List ℕ) (o : OneMessage x) where
  pub open_good : GoodMessage (open_of x)
  open_good =
      let h = o.has-header in
      let n = o.size_is in
      record {
        marker_fits = octets_part o.are_bytes 0 16 (omega arith);
        size_fits = num_lt 2 16 o.are_bytes;
        has-header = omega arith;
        size_is = omega (arith, length-drop 18 x);
        rest-bytes = bytes_drop 18 o.are_bytes;
      }

  pub open_back : message_bytes (open_of x) ≡ x
  open_back =
      let h = o.has-header in
      ap (λ (l : List ℕ). take 16 x ++ l) (num_back 2 16 o.are_bytes (omega arith)) ∙ take-append-drop 16 x

-- and a good message is one
pub one_message : (m : Message) → GoodMessage m → OneMessage (message_bytes m)
one_message m g =
    let n = message_long m g in
    record {
      are_bytes = message-bytes m g;
      has-header = omega (arith, g.has-header);
      size_is = ap (λ (k : Message). k.size) (open_join m g) ∙ sym n;
    }

-- ---- a message that is all there
pub whole_at : (s : List ℕ) (at : ℕ) → 19 ≤ length s - at → (size : ℕ) → num_at 2 s (at + 16) ≡ size → 19 ≤ size → size ≤ length s - at
    → open_at s at ≡ Ok (view at size, cursor (at + size))
unfolding open_at
whole_at s at long size size_is h l = rw (le-ltb (length s - at) 19 long, size_is, le-ltb size 19 h, le-ltb (length s - at) size l)

-- ---- each answer of `open_at`, by what it needed and the length that it read
module _ (s : List ℕ) (at : ℕ) where
  pub brief_at : (r : Refusal) → need_at (length s) at 19 ≡ Err r → ◌≡◌ {A = Open} (Err r) (open_at s at)
  unfolding open_at
  brief_at r e =
      let lacked = was_cut (length s) at 19 e refl in
      rw (lt-ltb (length s - at) 19 lacked.few) (ap Err lacked.cut_is)

  module _ (u : Unit {0}) (e : need_at (length s) at 19 ≡ Ok u) where
    long : 19 ≤ length s - at
    long = was_met (length s) at 19 e refl

    abbrev size : ℕ
    size = number_at 2 s (at + 16)

    size_is : num_at 2 s (at + 16) ≡ size
    size_is = let l = long in sym (number_is 2 s (at + 16) (omega arith))

    pub small_at : number_at 2 s (at + 16) < 19 → ◌≡◌ {A = Open} (Err (refusal Number.BgpLength (at + 16))) (open_at s at)
    unfolding open_at
    small_at h = rw (le-ltb (length s - at) 19 long, size_is, lt-ltb size 19 h)

    pub cut-at : 19 ≤ number_at 2 s (at + 16) → (r : Refusal) → need_at (length s) at (number_at 2 s (at + 16)) ≡ Err r
        → ◌≡◌ {A = Open} (Err r) (open_at s at)
    unfolding open_at
    cut-at h r q =
        let lacked = was_cut (length s) at size q refl in
        rw (le-ltb (length s - at) 19 long, size_is, le-ltb size 19 h, lt-ltb (length s - at) size lacked.few) (ap Err lacked.cut_is)

    pub found_at : 19 ≤ number_at 2 s (at + 16) → (v : Unit {0}) → need_at (length s) at (number_at 2 s (at + 16)) ≡ Ok v
        → ◌≡◌ {A = Open} (Ok (view at (number_at 2 s (at + 16)), cursor (at + number_at 2 s (at + 16)))) (open_at s at)
    found_at h v q = sym (whole_at s at long size size_is h (was_met (length s) at size q refl))

-- those that it finds by itself
pub ruleset answers = (brief_at, small_at, cut-at, found_at)

-- ---- and the other way: a message was found at a place, and c stands behind it
pub record WasFound (s : List ℕ) (at : ℕ) (v : View) (c : Cursor) : Type 0 where
  pub has-header : 19 ≤ v.length
  pub there : v.length ≤ length s - at
  pub size_is : num_at 2 s (at + 16) ≡ v.length
  pub place_is : v.place ≡ at
  pub next_is : c.at ≡ at + v.length

abbrev Judged : List ℕ → ℕ → Open → Type 0
Judged s at (Err r) = 0 < r.number
Judged s at (Ok x) = WasFound s at x.0 x.1

judged : (s : List ℕ) (at : ℕ) → Judged s at (open_at s at)
unfolding open_at
judged s at = go (ltb (length s - at) 19) (ltb size 19) refl (ltb (length s - at) size) refl
  where
    size : ℕ
    size = num_at 2 s (at + 16)

    go : (a b : Bool) → ltb size 19 ≡ b → (d : Bool) → ltb (length s - at) size ≡ d
        → Judged s at (pick a (Err (cut_at (length s) at 19)) (pick b (Err (refusal Number.BgpLength (at + 16)))
        (pick d (Err (cut_at (length s) at size)) (Ok (view at size, cursor (at + size))))))
    go true b hb d hd = omega arith
    go false true hb d hd = omega arith
    go false false hb true hd = omega arith
    go false false hb false hd =
        record { has-header = ltb-false _ _ hb; there = ltb-false _ _ hd; size_is = refl; place_is = refl; next_is = refl }

pub was_found : (s : List ℕ) (at : ℕ) (v : View) (c : Cursor) → open_at s at ≡ Ok (v, c) → WasFound s at v c
was_found s at v c e = subst (Judged s at) e (judged s at)

pub broken_number : (s : List ℕ) (at : ℕ) (r : Refusal) → open_at s at ≡ Err r → 0 < r.number
broken_number s at r e = subst (Judged s at) e (judged s at)

-- the bytes of a message that was found
pub found_one : {s : List ℕ} → Bytes s → (at : ℕ) (v : View) (c : Cursor) → WasFound s at v c → OneMessage (take v.length (drop at s))
found_one {s} p at v c w =
    let h = w.has-header in
    let n : length (take v.length (drop at s)) ≡ v.length = length_part s at v.length (omega (arith, w.there)) in
    record {
      are_bytes = bytes_take v.length (bytes_drop at p);
      has-header = omega arith;
      size_is = num_part 2 16 v.length s at (omega arith) ∙ w.size_is ∙ sym n;
    }

-- and they are written again in front of what follows them
pub message_back : {s : List ℕ} → Bytes s → (at : ℕ) (v : View) (c : Cursor) → WasFound s at v c → (t : List ℕ) → t ≡ drop c.at s
    → message_bytes (open_of (take v.length (drop at s))) ++ t ≡ drop at s
message_back {s} p at v c w t e =
    ap₂ ◌++◌ (open_back (take v.length (drop at s)) (found_one p at v c w)) (e ∙ ap (λ (k : ℕ). drop k s) w.next_is)
    ∙ part_back v.length s at

-- ---- a good message at a place of s, and r behind it
pub record MessageAt (s : List ℕ) (at : ℕ) (m : Message) (r : List ℕ) : Type 0 where
  pub found_is : open_at s at ≡ Ok (view at m.size, cursor (at + m.size))
  pub viewed_is : viewed s (view at m.size) ≡ message_bytes m
  pub behind_is : drop (at + m.size) s ≡ r

pub message-at : (s : List ℕ) (at : ℕ) (m : Message) (r : List ℕ) → GoodMessage m → drop at s ≡ message_bytes m ++ r → MessageAt s at m r
message-at s at m r g e =
    let n = message_long m g in
    let long : length s - at ≡ m.size + length r = sym (length-drop at s) ∙ ap length e ∙ length-append (message_bytes m) r ∙ omega arith in
    let size_is : num_at 2 s (at + 16) ≡ m.size = sym (num_drop 2 16 s at) ∙ ap (λ (l : List ℕ). num_at 2 l 16) e ∙ message_size m g r in
    let part : take m.size (drop at s) ≡ message_bytes m = ap (take m.size) e ∙ take_at (message_bytes m) r m.size n in
    record {
      found_is = whole_at s at (omega (arith, g.has-header)) m.size size_is g.has-header (omega arith);
      viewed_is = viewed_part s (view at m.size) (ap length part ∙ n) ∙ part;
      behind_is = sym (drop-drop m.size at s) ∙ ap (drop m.size) e ∙ drop_at (message_bytes m) r m.size n;
    }

-- ---- two good messages in front of bytes that are equal
pub split_same : (a b x y : List ℕ) → length a ≡ length b → a ++ x ≡ b ++ y → (a ≡ b) × (x ≡ y)
split_same a b x y n e = (
  sym (take_at a x (length a) refl) ∙ ap (take (length a)) e ∙ take_at b y (length a) (sym n),
  sym (drop_at a x (length a) refl) ∙ ap (drop (length a)) e ∙ drop_at b y (length a) (sym n),
)

pub same_message : (m n : Message) (x y : List ℕ) → GoodMessage m → GoodMessage n → message_bytes m ++ x ≡ message_bytes n ++ y → (m ≡ n) × (x ≡ y)
same_message m n x y g h e =
    let size : m.size ≡ n.size = sym (message_size m g x) ∙ ap (λ (l : List ℕ). num_at 2 l 16) e ∙ message_size n h y in
    let s = split_same (message_bytes m) (message_bytes n) x y (message_long m g ∙ size ∙ sym (message_long n h)) e in
    (sym (open_join m g) ∙ ap open_of s.0 ∙ open_join n h, s.1)

-- ---- both messages, and what the reader makes of them
pub opens_then : (afi : Afi) (peer : BmpPeerType) (s : List ℕ) → read_peer_up afi peer s ≡ with_opens afi peer s (opens_of s)
opens_then afi peer s = go (ltb Number.limit (length s)) (ltb (length s) sent_at) (open_at s sent_at)
  where
    received : (v : View) (o : Open) → with_received afi peer s v o ≡ with_opens afi peer s (behind_sent v o)
    received v (Err r) = refl
    received v (Ok x) = refl

    go : (a b : Bool) (o : Open)
        → pick a (refused_answer (refusal Number.TooLong 0)) (pick b (refused_answer (cut_in widths 0 (length s))) (with_sent afi peer s o))
        ≡ with_opens afi peer s (pick a (Err (refusal Number.TooLong 0)) (pick b (Err (cut_in widths 0 (length s))) (both_opens s o)))
    go true b o = refl
    go false true o = refl
    go false false (Err r) = refl
    go false false (Ok x) = received x.0 (open_at s x.1.at)

-- where both are found, the input is not too long
pub opens_short : (s : List ℕ) (v w : View) (at : ℕ) → opens_of s ≡ Ok (v, w, at) → length s ≤ Number.limit
opens_short s v w at e = go (ltb Number.limit (length s)) refl (pick (ltb (length s) sent_at) (Err (cut_in widths 0 (length s))) (both_opens s (open_at s sent_at))) e
  where
    go : (a : Bool) → ltb Number.limit (length s) ≡ a → (o : BothOpens) → pick a (Err (refusal Number.TooLong 0)) o ≡ Ok (v, w, at) → length s ≤ Number.limit
    go true h o q = absurd cc
    go false h o q = ltb-false _ _ h
