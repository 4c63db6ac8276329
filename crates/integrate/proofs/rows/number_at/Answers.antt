-- `integrate::rows::number_at`: the number at the key's place is the one found by the key. Assumes nothing.
use Rattle.std.proofs.Common.{◌≡◌, ℕ, get_or, ap, sym, ◌∙◌, rules}
use Rattle.std.specs.Prelude.{Some}
use lib.Ieee.{nan}
use mir.Syntax.{w64}
use mir.Val.{to_z, of_z}
use Rattle.slices.specs.Slices.{lookup}
use Rattle.integrate.specs.RowsBySecond.{values_in}
use Rattle.integrate.proofs.RowsBySecond.{row_found, row_missing}
use Rattle.integrate.proofs.rows.number_at.Goals as goal

pub returns-in_err-place : goal.returns-in_err-place
unfolding values_in
returns-in_err-place c =
    let a = c.args in
    let same : to_z w64 (of_z w64 a.second.0) ≡ a.second.0 = search rules in
    λ h. c.from_residual.ensures
    ∙ sym (row_missing (λ (i : ℕ). get_or a.numbers.values.now i nan) a.numbers.keys.now a.second.0
    (ap (lookup a.numbers.keys.now) (sym same) ∙ sym (c.find.ensures h) ∙ c.in_err-place.was))

pub returns : goal.returns
unfolding values_in
returns c =
    let a = c.args in
    let same : to_z w64 (of_z w64 a.second.0) ≡ a.second.0 = search rules in
    λ h. ap Some c.element.ensures
    ∙ sym (row_found (λ (i : ℕ). get_or a.numbers.values.now i nan) a.numbers.keys.now a.second.0 c.in_ok-place.place
    (ap (lookup a.numbers.keys.now) (sym same) ∙ sym (c.find.ensures h) ∙ c.in_ok-place.was))
