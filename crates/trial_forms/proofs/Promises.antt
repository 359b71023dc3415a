-- What a user of this crate relies on: any two answers that a contract allows are equal. Assumes nothing.
use Rattle.std.proofs.Common.{◌≡◌, ℕ, Bool}
use Rattle.wire.proofs.Determined.{determined}
use Rattle.trial_forms.specs.Kinds.{kind_at}
use Rattle.trial_forms.specs.Shown.{is_refusal, begins_table, refusal_at, table_at, of_five, bare, refused_as, judged_as}
use Rattle.trial_forms.specs.declared.Form.{Form}
use Rattle.trial_forms.specs.declared.Kind.{Kind}
use Rattle.trial_forms.specs.declared.Shown.{Shown}
use Rattle.wire.specs.declared.Refusal.{Refusal}

-- Two kinds that kind_at may tell of the same number are equal.
pub kind_at_determined : (n : ℕ) (r q : Kind) → r ≡ kind_at n → q ≡ kind_at n → r ≡ q
kind_at_determined n r q = determined

-- Two answers of the same question about a form, or about the form that has a number, are equal.
pub is_refusal_determined : (form : Form) (r q : Bool) → r ≡ is_refusal form → q ≡ is_refusal form → r ≡ q
is_refusal_determined form r q = determined

pub begins_table_determined : (form : Form) (r q : Bool) → r ≡ begins_table form → q ≡ begins_table form → r ≡ q
begins_table_determined form r q = determined

pub refusal_at_determined : (form : ℕ) (r q : Bool) → r ≡ refusal_at form → q ≡ refusal_at form → r ≡ q
refusal_at_determined form r q = determined

pub table_at_determined : (form : ℕ) (r q : Bool) → r ≡ table_at form → q ≡ table_at form → r ≡ q
table_at_determined form r q = determined

-- Two answers made of the same numbers, or in place of the same refusal, are equal.
pub of_five_determined : (form count a b c d e : ℕ) (r q : Shown) → r ≡ of_five form count a b c d e → q ≡ of_five form count a b c d e → r ≡ q
of_five_determined form count a b c d e r q = determined

pub bare_determined : (form : ℕ) (r q : Shown) → r ≡ bare form → q ≡ bare form → r ≡ q
bare_determined form r q = determined

pub refused_determined : (x : Refusal) (r q : Shown) → r ≡ refused_as x → q ≡ refused_as x → r ≡ q
refused_determined x r q = determined

pub judged_determined : (x : Refusal) (shown r q : Shown) → r ≡ judged_as x shown → q ≡ judged_as x shown → r ≡ q
judged_determined x shown r q = determined
