-- `integrate::kernel::same_bits`: two numbers that are no NaN and have the same bits are equal; where a test fails nothing is claimed. Assumes nothing.
use Rattle.std.proofs.Common.{T, sym, subst, eqb-true}
use Rattle.laws.specs.SameBits.{value_of_bits}
use Rattle.integrate.proofs.kernel.same_bits.Goals as goal

pub returns-then-b : goal.returns-then-b
returns-then-b c = λ h. value_of_bits _ _ (subst T (sym c.well_formed.0.1) tt) (subst T (sym c.well_formed.1.0.1) tt) (eqb-true _ _ h)
