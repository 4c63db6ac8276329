-- `integrate::rows::state_at`: the key's place lies in the list, and the row there is the one found by the key. Assumes nothing.
use Rattle.std.proofs.Common.{◌≡◌, ℕ, ◌*◌, ap, sym, ◌∙◌, arith, rules}
use Rattle.std.specs.Prelude.{Some}
use mir.Syntax.{w64}
use mir.Val.{to_z, of_z}
use Rattle.slices.specs.Slices.{lookup}
use Rattle.integrate.specs.Room.{state_in}
use Rattle.integrate.specs.RowsBySecond.{states_in}
use Rattle.integrate.proofs.RowsBySecond.{row_found, row_missing, found_below}
use Rattle.integrate.proofs.rows.state_at.Goals as goal

pub returns-in_err-place : goal.returns-in_err-place
unfolding states_in
returns-in_err-place c =
    let a = c.args in
    let same : to_z w64 (of_z w64 a.second.0) ≡ a.second.0 = search rules in
    λ h. c.from_residual.ensures
    ∙ sym (row_missing (λ (i : ℕ). state_in a.states.values.now (6 * i)) a.states.keys.now a.second.0
    (ap (lookup a.states.keys.now) (sym same) ∙ sym (c.find.ensures h) ∙ c.in_err-place.was))

pub returns : goal.returns
unfolding states_in
returns c =
    let a = c.args in
    let same : to_z w64 (of_z w64 a.second.0) ≡ a.second.0 = search rules in
    λ h.
    let place : lookup a.states.keys.now a.second.0 ≡ Some c.in_ok-place.place =
    ap (lookup a.states.keys.now) (sym same) ∙ sym (c.find.ensures h) ∙ c.in_ok-place.was in
    let below = found_below a.states.keys.now a.second.0 c.in_ok-place.place place in
    let six : c.saturating_mul.result ≡ 6 * c.in_ok-place.place = omega arith in
    ap Some c.state_in.ensures
    ∙ ap (λ (k : ℕ). Some (state_in a.states.values.now k)) six
    ∙ sym (row_found (λ (i : ℕ). state_in a.states.values.now (6 * i)) a.states.keys.now a.second.0 c.in_ok-place.place place)
