use native.Mathlib.Omega.{arith}
use mathlib.Core.Path.{refl, ◌∙◌}
use Rattle.wire.proofs.Bytes.{number_is}
use Rattle.stats_data.proofs.Values.{value_4, value_8, value_11, value_raw, data_good}
use Rattle.stats_data.proofs.whole_data.Goals as goal

pub returns-in-4 : goal.returns-in-4
returns-in-4 c =
    let a = c.args in
    let s = a.s.now in
    data_good a.size s a.at _ (value_4 a.size s a.at c.in-4.is) _ _ _ c.requires refl refl
    (c.read_at.ensures ∙ number_is 4 s a.at (omega arith))

pub returns-in-8 : goal.returns-in-8
returns-in-8 c =
    let a = c.args in
    let s = a.s.now in
    data_good a.size s a.at _ (value_8 a.size s a.at c.in-8.is) _ _ _ c.requires refl refl
    (c.read_at-in-8.ensures ∙ number_is 8 s a.at (omega arith))

pub returns-in-11 : goal.returns-in-11
returns-in-11 c =
    let a = c.args in
    let s = a.s.now in
    data_good a.size s a.at _ (value_11 a.size s a.at c.in-11.is) _ _ _ c.requires
    (c.read_at-in-11.ensures ∙ number_is 2 s a.at (omega arith))
    (c.read_at-in-11-2.ensures ∙ number_is 1 s _ (omega arith))
    (c.read_at-in-11-3.ensures ∙ number_is 8 s _ (omega arith))

pub returns-in_default : goal.returns-in_default
returns-in_default c =
    let a = c.args in
    let s = a.s.now in
    let raw = value_raw a.size s a.at c.in_default.in_default-own.rest.0.0.1 c.in_default.in_default-own.rest.0.1 c.in_default.in_default-own.rest.1 in
    data_good a.size s a.at _ raw _ _ _ c.requires refl refl refl
