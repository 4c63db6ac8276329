-- `model::kernel::Kind::blend_rows` meets its contract. Assumes nothing.
use mathlib.Core.Path.{◌≡◌}
use lib.ListN.{length, take}
use Rattle.laws.specs.Tables.{tri, rows}
use Rattle.model.specs.Model.{blended}
use Rattle.model.proofs.kernel.Kind.blend_rows.Given as goal

abbrev pub invariant-loop-n : goal.invariant-loop-n
invariant-loop-n l = (length l.out ≡ length l.initial.out) × (take (tri l.n) l.out ≡ rows (blended l.self.start l.w l.field l.a l.b) l.n)
