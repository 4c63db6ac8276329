-- `residuals::filling::fill`: from blank outputs and an opened work slice, the loop over the observations. Assumes nothing.
use mathlib.Core.Path.{refl, ◌≡◌, ◌∙◌}
use native.Mathlib.Omega.{arith}
use lib.ListN.{length}
use Rattle.inputs.specs.Inputs.{front_size}
use Rattle.inputs.specs.Lent.{model_of}
use Rattle.residuals.specs.Calls.{epoch_columns}
use Rattle.residuals.proofs.Turns.{blank_is}
use Rattle.residuals.proofs.filling.fill.Goals as goal

pub fill_from-requires : goal.fill_from-requires
fill_from-requires c =
    let s = c.args in
    let p = c.requires in
    let e : _ ≡ front_size s.inputs.model.degree = c.front_size-base.ensures.0 p.0.degree in (
      e,
      record {
        outputs = c.clear_lists.ensures ∙ blank_is (length s.samples.observed.times.now)
            (epoch_columns s.outtimes.now s.outresiduals.now s.outterms.now s.outmids.now s.outvels.now) p.1;
        room = omega (arith, e, p.0.room, c.«open».ensures.only.long);
        usable = c.«open».ensures.usable e (omega (arith, e, p.0.room)) (model_of s.inputs.model) refl;
      },
    )

pub invariant_of-fill_from : goal.invariant_of-fill_from
invariant_of-fill_from c =
    let p = c.requires.0 in
    record { states_c = p.states_c; states_d = p.states_d; accs_c = p.acc_c; accs_d = p.acc_d }
