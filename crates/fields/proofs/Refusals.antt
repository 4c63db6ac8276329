-- What holds where nothing is refused. Assumes nothing.
use Rattle.std.specs.Prelude.{◌≡◌, ℕ, ◌*◌, ◌≤◌, Bool, true, cond, ◌&&◌, eqb, leb, Ok, Err}
use Rattle.std.proofs.Common.{sym}
use borrow.Author.Tests.{leb-true, eqb-true}
use Rattle.laws.specs.Bools.{both_true}
use Rattle.laws.specs.Checks.{degree_fine}
use Rattle.slices.specs.Calls.{accepted}
use Rattle.slices.specs.declared.refusal.Refusal.TheVariants.{Degree, Length, Value}
use Rattle.slices.proofs.Calls.{cond_passes}
use Rattle.legendre.specs.Field.{size, Fits}
use Rattle.fields.specs.Calls.{two_tables, four_tables, unfit, refusal_of}

pub record Passed (N : ℕ) (shape values : Bool) : Type 0 where
  pub low : 2 ≤ N
  pub high : N ≤ 180
  pub shaped : shape ≡ true
  pub valued : values ≡ true

pub passed : {u : Unit {0}} (N : ℕ) (shape values : Bool) → Ok u ≡ refusal_of N shape values → Passed N shape values
passed N shape values h =
    let a = cond_passes (degree_fine N) (unfit shape values) Degree (sym h) in
    let b = cond_passes shape (cond values accepted (Err Value)) Length a.1 in
    let c = cond_passes values accepted Value b.1 in
    let d = both_true (leb 2 N) (leb N 180) a.0 in
    record { low = leb-true 2 N d.0; high = leb-true N 180 d.1; shaped = b.0; valued = c.0 }

pub two_say : (N x y scratch : ℕ) → N ≤ 180 → two_tables (size N) x y scratch ≡ true → Fits N x y scratch
two_say N x y scratch h e =
    let a = both_true (eqb x (size N)) (eqb y (size N) && leb (8 * size N) scratch) e in
    let b = both_true (eqb y (size N)) (leb (8 * size N) scratch) a.1 in
    record { degree = h; a = eqb-true x (size N) a.0; b = eqb-true y (size N) b.0; work = leb-true (8 * size N) scratch b.1 }

pub four_say : (N a b p dp scratch : ℕ) → N ≤ 180 → four_tables (size N) a b p dp scratch ≡ true → Fits N a b scratch × Fits N p dp scratch
four_say N a b p dp scratch h e =
    let q = both_true (two_tables (size N) a b scratch) (two_tables (size N) p dp scratch) e in
    (two_say N a b scratch h q.0, two_say N p dp scratch h q.1)
