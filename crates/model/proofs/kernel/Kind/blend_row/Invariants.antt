-- `model::kernel::Kind::blend_row` meets its contract. Assumes nothing.
use mathlib.Core.Path.{◌≡◌}
use mathlib.Core.List.{◌++◌}
use Prim.Native.Nat.{◌+◌}
use lib.ListN.{take}
use Rattle.laws.specs.Tables.{row}
use Rattle.model.specs.Model.{blended}
use Rattle.model.proofs.kernel.Kind.blend_row.Given as goal

abbrev pub invariant-loop-m : goal.invariant-loop-m
invariant-loop-m l = take (l.k + l.m) l.out ≡ take l.k l.initial.out ++ row (blended l.self.start l.w l.field l.a l.b l.n) l.m
