-- `slots::fill`: the windows of C and then of D, each in its slots, where the slices serve both; by `both_fit` of proofs/Fits.antt. Assumes nothing.
use Rattle.std.proofs.Common.{ℕ, Bool, ◌&&◌, length, sym, ap}
use Rattle.inputs.specs.Inputs.{front_size}
use Rattle.inputs.specs.Lent.{model_of, keyed_of}
use Rattle.windows.specs.Windows.{states_left, windows_serve}
use Rattle.slots.proofs.Fits.{both_fit}
use Rattle.slots.proofs.fill.Goals as goal

pub returns-then-c : goal.returns-then-c
returns-then-c c =
    let a = c.args in
    both_fit (windows_serve a.model.degree a.states.c.keys.now (length a.states.c.values.now) a.nodes.now 0 (length a.s.now))
    (λ (n : ℕ). windows_serve a.model.degree a.states.d.keys.now (length a.states.d.values.now) a.nodes.now 1 n)
    (states_left (model_of a.model) (keyed_of a.states.c)) (states_left (model_of a.model) (keyed_of a.states.d))
    a.nodes.now a.s.now _ _ (front_size a.model.degree) _ _ c.fit_windows-c.ensures c.fit_windows-d.ensures _ (sym (ap (λ (b : Bool). b && c.fit_windows-d.result) c.if-c.true))
