-- `fitted_orbits::fitted_orbits`: refused, counted and handed out, or not finite and cleared, each by its law of proofs/Answers.antt. Assumes nothing.
use mathlib.Core.Path.{sym, refl, ◌∙◌}
use Prim.Native.Nat.{◌-◌}
use lib.ListN.{length}
use Rattle.inputs.specs.Lent.{model_of, keyed_of}
use Rattle.fitted_orbits.specs.Calls.{given, outputs}
use Rattle.fitted_orbits.proofs.Answers.{fit_is, usable, ends, long, orbits_unfit}
use Rattle.fitted_orbits.proofs.fitted_orbits.Goals as goal
use Rattle.fitted_orbits.proofs.fitted_orbits.Goals.{else-all_finite-via-then-all_finite+else-all_finite-2, else-all_finite-via-else-all_finite}

pub fill-done-requires : goal.fill-done-requires
fill-done-requires c =
    let s = c.args in
    let g = given (model_of s.model) (keyed_of s.states) s.nodes.now in
    let o = outputs s.outkeys.now s.outstates.now s.rms.now in
    let ef = fit_is g o (length s.scratch.now) _ _ c.places_fit-places.ensures c.lengths_fit-fit.ensures in
    let z = sym c.refusal.ensures ∙ c.in_ok-refusal.was in
    let l = long g o (length s.scratch.now) _ ef z in
    (usable g o (length s.scratch.now) _ ef z, ends g o (length s.scratch.now) _ ef z, l.keys, l.states, l.rms)

pub returns : goal.returns
returns c =
    let s = c.args in
    let g = given (model_of s.model) (keyed_of s.states) s.nodes.now in
    let o = outputs s.outkeys.now s.outstates.now s.rms.now in
    let ef = fit_is g o (length s.scratch.now) _ _ c.places_fit-places.ensures c.lengths_fit-fit.ensures in
    let z = sym c.refusal.ensures ∙ c.in_ok-refusal.was in
    let l = long g o (length s.scratch.now) _ ef z in
    let k = c.fill-done.auto in
    orbits_unfit g o s.scratch.now _ ef z _ _ c.fill-done.ensures _ _ c.clear.ensures k.s _
    (c.clear_outputs.ensures (length s.nodes.now - 1) (k.outkeys ∙ l.keys) (k.outstates ∙ l.states) (k.rms ∙ l.rms))
    (elim c.else-all_finite.branch [
      | else-all_finite-via-then-all_finite+else-all_finite-2 w ↦ rw (sym c.all_finite.ensures ∙ w.if-all_finite.true) (sym w.all_finite-then-all_finite.ensures ∙ w.if-all_finite-2.false)
      | else-all_finite-via-else-all_finite w ↦ rw (sym c.all_finite.ensures ∙ w.if-all_finite.false) refl
    ])
