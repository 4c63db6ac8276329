-- The modules' own work obeys the laws that the theorem on final entries asks of its stages. Assumes nothing.
use mathlib.Core.Path.{◌≡◌}
use mathlib.Core.List.{List}
use lib.Ieee.{Float}
use Rattle.inputs.specs.Inputs.{Fixed}
use Rattle.finality.proofs.Assembled.{LawfulKernels}
use Rattle.integrate.specs.declared.kernel.State.{State}
use Rattle.windows.specs.Stage.{field_gravity}
use Rattle.windows.proofs.Lawful.{lawful_fit}
use Rattle.epoch.proofs.Records.{epoch_time}
use Rattle.detrend.proofs.RevolutionFit.{length_revolved}
use Rattle.filter.proofs.Seam.{pass_length}
use Rattle.sheet.specs.Stages.{epoch_under, epoch_stage, kernels}

stage_time : (S : Fixed) (t v : Float) (f : List Float) (x y : State) (p q : Float) → (epoch_stage S t v f x y p q).t ≡ t
unfolding epoch_under
stage_time S t v f x y p q = epoch_time (field_gravity S f) t v x.position x.velocity y.position y.velocity p q

pub lawful_kernels : (S : Fixed) → LawfulKernels (kernels S)
lawful_kernels S = record {
  fits = lawful_fit S;
  epoch_time = stage_time S;
  revolution_length = length_revolved;
  pass_length = pass_length;
}
