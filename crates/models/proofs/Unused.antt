-- Octets that an address does not use: they are all zero, or one of them is not. Assumes nothing.
use Prim.Native.Nat.{ℕ, zero, suc}
use mathlib.Core.Path.{◌≡◌, refl, sym, ap, ap₂, ◌∙◌}
use mathlib.Core.Bool.{Bool, true, false}
use mathlib.Core.List.{List, [], ◌∷◌, ◌++◌}
use mathlib.Core.Logic.{◌⊎◌, inl, inr, ◌↔◌}
use native.Mathlib.Omega.{arith}
use borrow.Author.Tests.{eqb-true, eqb-false}
use lib.Dec.{eqb}
use lib.ListN.{length, take, drop, get_or, replicate, length-drop, take-append-drop}
use lib.Seq.{length-take-le, drop_at}
use Rattle.models.specs.Address.{unspecified, OneNotZero}
use Rattle.models.specs.declared.Afi.TheVariants.{Ipv4}
use Rattle.models.specs.declared.IpAddr.{IpAddr}

zeros_or : (l : List ℕ) → (l ≡ replicate (length l) 0) ⊎ OneNotZero l
zeros_or [] = inl refl
zeros_or (x ∷ l) = go (eqb x 0) refl (zeros_or l)
  where
    go : (c : Bool) → eqb x 0 ≡ c → (l ≡ replicate (length l) 0) ⊎ OneNotZero l → (x ∷ l ≡ replicate (suc (length l)) 0) ⊎ OneNotZero (x ∷ l)
    go true h (inl e) = inl (ap₂ ◌∷◌ (eqb-true x 0 h) e)
    go true h (inr u) = inr (suc u.0, omega (arith, u.1), u.2)
    go false h u = inr (0, omega arith, (let n = eqb-false x 0 h in omega arith))

zero_there : (n i : ℕ) → ◌≡◌ {A = ℕ} (get_or (replicate n 0) i 0) 0
zero_there zero i = refl
zero_there (suc n) zero = refl
zero_there (suc n) (suc i) = zero_there n i

pub not_zeros : (n : ℕ) (l : List ℕ) → l ≡ replicate n 0 → OneNotZero l → ⊥
not_zeros n l e u = let z = ap (λ (k : List ℕ). get_or k u.0 0) e ∙ zero_there n u.0 in omega (arith, z, u.2)

-- ---- the IPv4 address that some of sixteen octets show, with zeros for the others, is another one exactly where one of the others is not zero
abbrev ip : List ℕ → IpAddr
ip octets = record { octets = octets; afi = Ipv4 }

-- where n octets are not all zeros, one of them is not zero
one_of : (n : ℕ) (l : List ℕ) → length l ≡ n → (replicate n 0 ≡ l → ⊥) → OneNotZero l
one_of n l many not_so = go (zeros_or l)
  where
    go : (l ≡ replicate (length l) 0) ⊎ OneNotZero l → OneNotZero l
    go (inl z) = absurd (not_so (sym (z ∙ ap (λ (k : ℕ). replicate k 0) many)))
    go (inr u) = u

module _ (octets : List ℕ) (sixteen : length octets ≡ 16) where
  pub none_shown : (unspecified ≡ ip octets → ⊥) ↔ OneNotZero octets
  none_shown = (λ other. one_of 16 octets sixteen (λ z. other (ap ip z)), λ u p. not_zeros 16 octets (ap (λ (a : IpAddr). a.octets) (sym p)) u)

  pub last_four_shown : (ip (replicate 12 0 ++ drop 12 octets) ≡ ip octets → ⊥) ↔ OneNotZero (take 12 octets)
  last_four_shown = (forth, λ u p. not_zeros 12 (take 12 octets) (ap (λ (a : IpAddr). take 12 a.octets) (sym p)) u)
    where
      forth : (ip (replicate 12 0 ++ drop 12 octets) ≡ ip octets → ⊥) → OneNotZero (take 12 octets)
      forth other =
          one_of 12 (take 12 octets) (length-take-le 12 octets (omega (arith, sixteen)))
          (λ z. other (ap ip (ap (λ (l : List ℕ). l ++ drop 12 octets) z ∙ take-append-drop 12 octets)))

  pub first_four_shown : (ip (take 4 octets ++ replicate 12 0) ≡ ip octets → ⊥) ↔ OneNotZero (drop 4 octets)
  first_four_shown = (forth, back)
    where
      forth : (ip (take 4 octets ++ replicate 12 0) ≡ ip octets → ⊥) → OneNotZero (drop 4 octets)
      forth other =
          one_of 12 (drop 4 octets) (length-drop 4 octets ∙ omega (arith, sixteen))
          (λ z. other (ap ip (ap (λ (l : List ℕ). take 4 octets ++ l) z ∙ take-append-drop 4 octets)))

      back : OneNotZero (drop 4 octets) → ip (take 4 octets ++ replicate 12 0) ≡ ip octets → ⊥
      back u p =
          let behind = drop_at (take 4 octets) (replicate 12 0) 4 (length-take-le 4 octets (omega (arith, sixteen))) in
          not_zeros 12 (drop 4 octets) (ap (λ (a : IpAddr). drop 4 a.octets) (sym p) ∙ behind) u
