-- Answers that are a form and a few numbers.
use Rattle.std.specs.Prelude.{ℕ, Bool, true, false, [], ◌∷◌, ◌==◌}
use Rattle.wire.specs.Number as Number
use Rattle.wire.specs.Bytes.{pick}
use Rattle.wire.specs.declared.Refusal.{Refusal}
use Rattle.trial_forms.specs.declared.Form.{Form}
use Rattle.trial_forms.specs.declared.Form.TheVariants.{Refused, Cut, PeerUp, Stats, Tlvs}
use Rattle.trial_forms.specs.declared.Shown.{Shown}

-- the forms of refusals
abbrev pub is_refusal : Form → Bool
is_refusal Refused = true
is_refusal Cut = true
is_refusal form = false

-- the forms of records whose table follows, entry by entry
abbrev pub begins_table : Form → Bool
begins_table PeerUp = true
begins_table Stats = true
begins_table Tlvs = true
begins_table form = false

-- the same by their numbers
abbrev pub refusal_at : ℕ → Bool
refusal_at form = pick (form == 0) true (form == 1)

abbrev pub table_at : ℕ → Bool
table_at form = pick (form == 17) true (pick (form == 18) true (form == 19))

abbrev pub of_five : ℕ → ℕ → ℕ → ℕ → ℕ → ℕ → ℕ → Shown
of_five form count a b c d e =
    record {
      form = form;
      count = count;
      numbers = a ∷ b ∷ c ∷ d ∷ e ∷ 0 ∷ 0 ∷ 0 ∷ 0 ∷ 0 ∷ 0 ∷ 0 ∷ 0 ∷ 0 ∷ 0 ∷ 0 ∷ [];
    }

-- a form without numbers
abbrev pub bare : ℕ → Shown
bare form = of_five form 0 0 0 0 0 0

-- a Cut is form 1, any other refusal form 0
abbrev pub refused_form : ℕ → ℕ
refused_form number = pick (number == Number.Cut) 1 0

-- a refusal with its number, its place, and what is missing
abbrev pub refused_as : Refusal → Shown
refused_as r = of_five (refused_form r.number) 0 r.number r.place r.missing 0 0

-- a good answer, or the refusal in its place
abbrev pub judged_as : Refusal → Shown → Shown
judged_as r shown = pick (r.number == Number.Good) shown (refused_as r)
