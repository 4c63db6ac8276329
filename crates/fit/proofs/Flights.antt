-- A run by the kernel, in the form that a fit uses. Assumes nothing.
use Rattle.std.proofs.Common.{◌≡◌, ℕ, ◌+◌, ◌≤◌, true, List, length, sym, subst, arith, le-leb}
use lib.Ieee.{Float}
use Rattle.inputs.specs.Inputs.{front_size}
use Rattle.integrate.specs.Force.{run_fits}
use Rattle.integrate.specs.Room.{run_size, Run, Only, Orbit}
use Rattle.integrate.specs.Work.{Ran}

fits_here : (N steps room : ℕ) → N ≤ 180 → steps ≤ 5302 → front_size N + run_size ≤ room → run_fits N steps room ≡ true
unfolding run_fits
fits_here N steps room h k l = simp (le-leb N 180 h, le-leb steps 5302 k, le-leb (front_size N + run_size) room l)

pub flew : (N steps base : ℕ) (w w' : List Float) (run : Run) → Ran (run_fits N steps (length w)) w w' (front_size N) steps run → steps ≤ 5302 → base + run_size ≤ length w → N ≤ 180
    → base ≡ front_size N →
    Orbit w' base run (steps + 1) × Only 0 (base + run_size) w w'
flew N steps base w w' run r k l h e =
    let f = r.flown (fits_here N steps (length w) h k (omega arith)) in
    (subst (λ (n : ℕ). Orbit w' n run (steps + 1)) (sym e) f.states, subst (λ (n : ℕ). Only 0 (n + run_size) w w') (sym e) f.only)
