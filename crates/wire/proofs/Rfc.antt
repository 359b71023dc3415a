-- What the RFCs have one after the other, as the grammars join it. Assumes nothing.
use mathlib.Core.Path.{◌≡◌, refl, sym, ap, ◌∙◌, subst}
use mathlib.Core.List.{List, [], ◌∷◌, ◌++◌, map, append_assoc, append-nil}
use mathlib.Core.Logic.{◌⊎◌, inl, inr}
use Prim.Native.Nat.{ℕ, ◌+◌, ◌<◌}
use native.Mathlib.Omega.{arith}
use lib.ListN.{length, replicate, length-append}
use Rattle.wire.specs.Bytes.{be, Bytes, none}
use Rattle.wire.specs.Parts.{join_all, EachGood}
use Rattle.wire.specs.Tlv.{put_tlv, GoodTlv}
use Rattle.wire.specs.Rfc.{together, Each, Last, Information, information_bytes, InformationFits, as_tlv, BgpMessage, bgp_length, bgp_bytes, IsBgp}
use Rattle.wire.proofs.Bytes.{bytes_append, bytes_be}
use Rattle.wire.proofs.Refuses.{bytes_are}

-- ---- an information TLV
pub information_put : (t : Information) (r : List ℕ) → InformationFits t → put_tlv (as_tlv t) r ≡ information_bytes t ++ r
unfolding be
information_put t r f = refl

pub information_good : (t : Information) → InformationFits t → GoodTlv (as_tlv t)
information_good t f = record { kind_fits = f.kind_fits; size_fits = f.value_fits; size_is = refl; value-bytes = f.value-bytes }

-- ---- things of the RFC one after the other, each of which a grammar has as an item where P holds of it
module _ {A B : Type 0} (P : B → Type 0) (put : A → List ℕ → List ℕ) (item : B → A) (bytes : B → List ℕ)
    (put_item : (b : B) (r : List ℕ) → P b → put (item b) r ≡ bytes b ++ r) where
  pub join_together : (l : List B) (z : List ℕ) → Each P l → join_all put (map item l) z ≡ together bytes l ++ z
  join_together [] z h = refl
  join_together (b ∷ l) z h =
      ap (put (item b)) (join_together l z h.1) ∙ put_item b (together bytes l ++ z) h.0 ∙ sym (append_assoc (bytes b) (together bytes l) z)

  -- each is good in front of what follows it, where it is so whatever follows
  pub each_together : (G : A → List ℕ → Type 0) → ((b : B) (r : List ℕ) → P b → G (item b) r)
      → (l : List B) (z : List ℕ) → Each P l → EachGood put G (map item l) z
  each_together G good [] z h = tt
  each_together G good (b ∷ l) z h = (good b (join_all put (map item l) z) h.0, each_together G good l z h.1)

  -- or where something follows or it is not empty: then what is asked of the last of them is enough
  pub each_but_last : (Q : B → Type 0) (G : A → List ℕ → Type 0) → ((b : B) → 0 < length (bytes b))
      → ((b : B) (r : List ℕ) → P b → Q b ⊎ (0 < length r) → G (item b) r)
      → (l : List B) (z : List ℕ) → Each P l → Last Q l ⊎ (0 < length z) → EachGood put G (map item l) z
  each_but_last Q G some good [] z h e = tt
  each_but_last Q G some good (b ∷ []) z h e = (good b z h.0 e, tt)
  each_but_last Q G some good (b ∷ (c ∷ l)) z h e =
      let r = join_all put (map item (c ∷ l)) z in
      let long : length r ≡ length (bytes c) + (length (together bytes l) + length z) =
      ap length (join_together (c ∷ l) z h.1) ∙ length-append (bytes c ++ together bytes l) z
      ∙ ap (λ (n : ℕ). n + length z) (length-append (bytes c) (together bytes l)) ∙ omega arith in
      (good b r h.0 (inr (omega (arith, some c, long))), each_but_last Q G some good (c ∷ l) z h.1 e)

-- one of two numbers is enough for their sum: `omega` reads no choice
pub some_of : {m n : ℕ} → (0 < m) ⊎ (0 < n) → 0 < m + n
some_of (inl h) = omega arith
some_of (inr h) = omega arith

-- ---- some, and then one more
pub together_last : {A : Type 0} (bytes : A → List ℕ) (l : List A) (a : A) → together bytes (l ++ (a ∷ [])) ≡ together bytes l ++ bytes a
together_last bytes [] a = append-nil (bytes a)
together_last bytes (b ∷ l) a = ap (λ (r : List ℕ). bytes b ++ r) (together_last bytes l a) ∙ sym (append_assoc (bytes b) (together bytes l) (bytes a))

pub each_last : {A : Type 0} (P : A → Type 0) (l : List A) (a : A) → Each P (l ++ (a ∷ [])) → Each P l × P a
each_last P [] a h = (tt, h.0)
each_last P (b ∷ l) a h = let r = each_last P l a h.1 in ((h.0, r.0), r.1)

-- ---- items in two parts
module _ {A : Type 0} (put : A → List ℕ → List ℕ) where
  pub join_parts : (l m : List A) (z : List ℕ) → join_all put (l ++ m) z ≡ join_all put l (join_all put m z)
  join_parts [] m z = refl
  join_parts (a ∷ l) m z = ap (put a) (join_parts l m z)

  pub good_parts : (G : A → List ℕ → Type 0) (l m : List A) (z : List ℕ)
      → EachGood put G l (join_all put m z) → EachGood put G m z → EachGood put G (l ++ m) z
  good_parts G [] m z g h = h
  good_parts G (a ∷ l) m z g h = (subst (G a) (sym (join_parts l m z)) g.0, good_parts G l m z g.1 h)

-- ---- what the RFCs put together are bytes
pub information-bytes : (t : Information) → InformationFits t → Bytes (information_bytes t)
information-bytes t f = bytes_append (bytes_be 2 t.kind) (bytes_append (bytes_be 2 (length t.value)) f.value-bytes)

pub bgp-bytes : (kind : ℕ) (m : BgpMessage) → IsBgp kind m → Bytes (bgp_bytes m)
bgp-bytes kind m f =
    bytes_append (bytes_are (replicate 16 0xFF) refl)
    (bytes_append (bytes_be 2 (bgp_length m)) (bytes_append (bytes_be 1 m.kind) f.contents_bytes))

pub together_bytes : {A : Type 0} (P : A → Type 0) (write : A → List ℕ) → ((a : A) → P a → Bytes (write a)) → (l : List A) → Each P l
    → Bytes (together write l)
together_bytes P write each [] h = none
together_bytes P write each (a ∷ l) h = bytes_append (each a h.0) (together_bytes P write each l h.1)
