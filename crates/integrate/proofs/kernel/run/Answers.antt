-- `integrate::kernel::run` meets its contract. Assumes nothing.
use Rattle.std.proofs.Common.{◌≡◌, sym, ◌∙◌, arith}
use Rattle.inputs.specs.Inputs.{front_size}
use Rattle.inputs.specs.Lent.{model_of}
use Rattle.integrate.proofs.ForceAndStep.{fits_parts, ran, not_ran}
use Rattle.integrate.proofs.kernel.run.Goals as goal

pub invariant_of-flight : goal.invariant_of-flight
invariant_of-flight c = record {
  behind_front = c.front_size.ensures.0 (fits_parts _ _ _ (sym c.run_fits.ensures ∙ c.if-run_fits.true)).0;
}

pub fly-requires : goal.fly-requires
fly-requires c =
    let fits = fits_parts _ _ _ (sym c.run_fits.ensures ∙ c.if-run_fits.true) in
    let e : c.front_size.result ≡ front_size c.args.model.degree = c.front_size.ensures.0 fits.0 in
    record { few = fits.1; small = c.front_size.ensures.1; room = omega (arith, fits.2) }

pub returns-then-run_fits : goal.returns-then-run_fits
returns-then-run_fits c =
    let s = c.args in
    let fits = fits_parts _ _ _ (sym c.run_fits.ensures ∙ c.if-run_fits.true) in
    ran s.force (model_of s.model) s.parameters s.w.now _ s.arc _ _ c.run_fits.ensures _ _ c.if-run_fits.true
    (c.front_size.ensures.0 fits.0) c.strengths.ensures c.state_in.ensures c.fly.ensures

pub returns-else-run_fits : goal.returns-else-run_fits
returns-else-run_fits c =
    let s = c.args in
    not_ran s.force (model_of s.model) s.parameters s.w.now s.w.now s.arc 0 _ c.run_fits.ensures c.if-run_fits.false
