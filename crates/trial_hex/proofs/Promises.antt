-- What a user of this crate relies on: any two answers, and any two buffers, that a contract allows are equal. Assumes nothing.
use mathlib.Core.Path.{◌≡◌}
use mathlib.Core.List.{List}
use Prim.Native.Nat.{ℕ}
use lib.ListN.{length}
use lib.Seq.{sets}
use Rattle.wire.proofs.Determined.{determined}
use Rattle.trial_hex.specs.Hex.{Unhexed, place_of, times_from, unhexed, unhexed_into, repeated, untouched}

pub place_of_determined : (s : List ℕ) (b r q : ℕ) → r ≡ place_of b s → q ≡ place_of b s → r ≡ q
place_of_determined s b r q = determined

pub number_of_determined : (t : List ℕ) (r q : ℕ) → r ≡ times_from 0 t → q ≡ times_from 0 t → r ≡ q
number_of_determined t r q = determined

pub unhex_determined : (t out : List ℕ) (r q : Unhexed) → r ≡ unhexed t (length out) → q ≡ unhexed t (length out) → r ≡ q
unhex_determined t out r q = determined

pub unhex_buffer_determined : (t out out' out'' : List ℕ) → out' ≡ unhexed_into t out → out'' ≡ unhexed_into t out → out' ≡ out''
unhex_buffer_determined t out out' out'' = determined

pub put_untouched_determined : (out out' out'' : List ℕ) → out' ≡ sets out 0 (repeated untouched 0 (length out)) → out'' ≡ sets out 0 (repeated untouched 0 (length out)) → out' ≡ out''
put_untouched_determined out out' out'' = determined
