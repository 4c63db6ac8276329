-- `integrate::states_of`: the states of the run, copied out of scratch, are the definition's list, by `states_are` of proofs/Calls.antt. Assumes nothing.
use Rattle.integrate.proofs.Calls.{states_are}
use Rattle.integrate.proofs.Calls.{ran_long}
use Rattle.integrate.specs.Force.{attraction_of, run_of}
use Rattle.std.proofs.Common.{arith}
use Rattle.inputs.specs.Lent.{model_of}
use Rattle.integrate.proofs.states_of.Goals as goal

pub slice_bounds-copy-end : goal.slice_bounds-copy-end
slice_bounds-copy-end c =
    let s = c.args in omega (
      arith,
      ran_long s.model.degree s.arc.steps s.scratch.now _ _ c.requires.0 c.requires.1 c.requires.2 c.run.ensures,
      c.front_size-base.ensures.0 c.requires.0,
      c.requires.1,
      c.requires.2,
    )

pub returns : goal.returns
returns c =
    let s = c.args in
    states_are s.model.degree s.arc.steps _ s.scratch.now _ s.out.now _ (run_of (attraction_of s.force (model_of s.model)) s.arc s.p) c.requires.0 c.requires.1
    c.requires.2 c.requires.3 c.run.ensures c.front_size-base.ensures c.copy.ensures
