-- Each answer of `read_fields`, by what the cursor found. Assumes nothing.
use mathlib.Core.Path.{◌≡◌}
use mathlib.Core.List.{List}
use Prim.Native.Nat.{ℕ, ◌-◌, ◌≤◌, ◌<◌}
use borrow.Author.Tests.{le-leb, lt-leb, eq-eqb, ne_eqb}
use lib.ListN.{length}
use Rattle.std.specs.declared.result.Result.TheVariants.{Err}
use Rattle.wire.specs.Number as Number
use Rattle.wire.specs.Bytes.{num_at}
use Rattle.wire.specs.Refusal.{refusal, cut_at}
use Rattle.common_header.specs.Fields.{parts_of, shown, read_fields}

module _ (s : List ℕ) where
  pub no_version : length s - 0 < 1 → read_fields s ≡ Err (cut_at (length s) 0 1)
  unfolding read_fields
  no_version h = rw (lt-leb 1 (length s - 0) h)

  module _ (one : 1 ≤ length s - 0) where
    pub other_version : (num_at 1 s 0 ≡ 3 → ⊥) → read_fields s ≡ Err (refusal Number.BadVersion 0)
    unfolding read_fields
    other_version h = rw (le-leb 1 (length s - 0) one, ne_eqb (num_at 1 s 0) 3 h)

    module _ (three : num_at 1 s 0 ≡ 3) where
      pub no_length : length s - 1 < 4 → read_fields s ≡ Err (cut_at (length s) 1 4)
      unfolding read_fields
      no_length h = rw (le-leb 1 (length s - 0) one, eq-eqb (num_at 1 s 0) 3 three, lt-leb 4 (length s - 1) h)

      module _ (five : 4 ≤ length s - 1) where
        pub no_kind : length s - 5 < 1 → read_fields s ≡ Err (cut_at (length s) 5 1)
        unfolding read_fields
        no_kind h =
            rw (le-leb 1 (length s - 0) one, eq-eqb (num_at 1 s 0) 3 three, le-leb 4 (length s - 1) five, lt-leb 1 (length s - 5) h)

        pub whole : 1 ≤ length s - 5 → read_fields s ≡ shown (parts_of s)
        unfolding read_fields
        whole h =
            rw (le-leb 1 (length s - 0) one, eq-eqb (num_at 1 s 0) 3 three, le-leb 4 (length s - 1) five, le-leb 1 (length s - 5) h)
