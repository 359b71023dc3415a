-- Where a text ends, and hexadecimal digits put two by two. Assumes nothing.
use Rattle.std.proofs.Common.{◌≡◌, ℕ, suc, ◌+◌, ◌-◌, ◌*◌, ◌/◌, ◌%◌, ◌<◌, ◌≤◌, List, [], ◌∷◌, length, get_or, drop, set, sym, refl, ◌∙◌, add-one, arith, drop_of_length-le, drop-cons, le-leb}
use borrow.Author.Tests.{lt-leb}
use lib.Seq.{sets}
use Rattle.writing.specs.Write.{put_at}
use Rattle.writing.proofs.Sets.{put_fits}
use Rattle.trial_forms.specs.Text.{place_after, hex_digit, hex}

pub after_fits : (l : List ℕ) (at : ℕ) (t : List ℕ) → length t ≤ length l - at → place_after l at t ≡ at + length t
after_fits l at t h = rw (le-leb (length t) (length l - at) h)

pub after_nothing : (l : List ℕ) (at : ℕ) (t : List ℕ) → length l - at < length t → place_after l at t ≡ at
after_nothing l at t h = rw (lt-leb (length t) (length l - at) h)

pub length_hex : (l : List ℕ) → length (hex l) ≡ 2 * length l
length_hex [] = refl
length_hex (b ∷ l) = omega (arith, length_hex l)

-- the two digits of one more byte
pub hex_more : (out bytes : List ℕ) (at i : ℕ) → i < length bytes
    → sets out (at + 2 * i) (hex (drop i bytes)) ≡ sets (set (set out (at + 2 * i) (hex_digit (get_or bytes i 0 / 16))) (at + 2 * i + 1) (hex_digit (get_or bytes i 0 % 16))) (at + 2 * (i + 1)) (hex (drop (i + 1) bytes))
hex_more out bytes at i h =
    let k : at + 2 * (i + 1) ≡ suc (suc (at + 2 * i)) = omega arith in
    rw (k, add-one (at + 2 * i), add-one i, drop-cons bytes i 0 h)

-- with no byte left, all digits stand there
pub hex_done : (l out bytes : List ℕ) (at k i : ℕ) → length bytes ≤ i → 2 * length bytes ≤ length l - at
    → sets l at (hex bytes) ≡ sets out k (hex (drop i bytes)) → out ≡ put_at l at (hex bytes)
hex_done l out bytes at k i end fits e =
    let n = length_hex bytes in
    let none : sets out k (hex (drop i bytes)) ≡ out = rw (drop_of_length-le bytes end) in
    sym (e ∙ none) ∙ sym (put_fits l at (hex bytes) (omega arith))
