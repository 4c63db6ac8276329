-- Laws of one epoch's record. Assumes nothing.
use mathlib.Core.Path.{◌≡◌, refl}
use lib.Ieee.{Float}
use Rattle.vectors.specs.declared.Vector.{Vector}
use Rattle.inputs.specs.Inputs.{Model}
use Rattle.integrate.specs.declared.kernel.State.{State}
use Rattle.integrate.proofs.Published.{Sized, Published, published_at, gravity_published}
use Rattle.epoch.specs.Epoch.{record_of, epoch_with}
use Rattle.epoch.specs.Kept.{record_at}

-- an epoch keeps its time
pub epoch_time : (gravity : Vector → Vector) (t observed : Float) (rc vc rd vd : Vector) (axc axd : Float) → (epoch_with gravity t observed rc vc rd vd axc axd).t ≡ t
unfolding epoch_with record_of
epoch_time gravity t observed rc vc rd vd axc axd = refl

-- with the tables that `Legendre::new` fills, its gravity is that of the published series of the field at its time
pub record_published : (m : Model) → Sized m → Published m → (t observed : Float) (c d : State) (axc axd : Float) →
    record_at m t observed c d axc axd ≡ epoch_with (published_at m t) t observed c.position c.velocity d.position d.velocity axc axd
unfolding record_at
record_published m sized tables t observed c d axc axd =
    λ i. epoch_with (λ x. gravity_published m sized tables t x i) t observed c.position c.velocity d.position d.velocity axc axd
