-- The arc of a window shorter than 7,000 s. Assumes nothing.
use Rattle.std.proofs.Common.{◌≡◌, Bool, true, false, ◌&&◌, T, sym, refl, ◌∙◌, subst}
use lib.Ieee.{Float, lt, le, of_bits}
use lib.Ieee.Fits.{and_l, and_r, and_i}
use lib.Ieee.Bits.{is_true}
use Rattle.laws.specs.Floats.{zero64, ◌⊖◌}
use Rattle.laws.specs.Checks.{is_time, latest, time_says}
use Rattle.laws.specs.Times.{Time}
use Rattle.finality.specs.Arcs.{longest, start, steps, arc_of}
use Rattle.windows.specs.Stage.{arc_struct}
use Rattle.windows.specs.Windows.{window_fine, arc_between, Ends}

time_is : (t : Float) → Time t → T (is_time t)
unfolding is_time of_bits
time_is t h = and_i (le zero64 t) (le t latest) h.from_zero h.to_bound

fine : (a b : Float) → Ends a b → T (lt (b ⊖ a) longest) → window_fine a b ≡ true
unfolding window_fine
fine a b e short =
    is_true ((is_time a && is_time b) && (lt a b && lt (b ⊖ a) longest))
    (and_i (is_time a && is_time b) (lt a b && lt (b ⊖ a) longest) (and_i (is_time a) (is_time b) (time_is a e.from) (time_is b e.to)) (and_i (lt a b) (lt (b ⊖ a) longest) e.order short))

pub arc_between_law : (a b : Float) → Ends a b → T (lt (b ⊖ a) longest) → arc_between a b ≡ arc_struct (arc_of a b)
unfolding arc_between
arc_between_law a b e short = rw (fine a b e short) refl

-- ---- what the guard says

pub record Fine (a b : Float) : Type 0 where
  pub ends : Ends a b
  pub short : T (lt (b ⊖ a) longest)

pub fine_says : (a b : Float) → window_fine a b ≡ true → Fine a b
unfolding window_fine
fine_says a b h =
    let t = subst T (sym h) tt in
    let times = and_l (is_time a && is_time b) (lt a b && lt (b ⊖ a) longest) t in
    let rest = and_r (is_time a && is_time b) (lt a b && lt (b ⊖ a) longest) t in
    record {
      ends = record { from = time_says a (and_l (is_time a) (is_time b) times); to = time_says b (and_r (is_time a) (is_time b) times); order = and_l (lt a b) (lt (b ⊖ a) longest) rest };
      short = and_r (lt a b) (lt (b ⊖ a) longest) rest;
    }

pub arc_fine : (a b t0 : Float) (n : Prim.Native.Nat.ℕ) (g : Bool) → g ≡ window_fine a b → g ≡ true → t0 ≡ start a → n ≡ steps a b
    → record { t0 = t0; steps = n; node = a; period = b ⊖ a } ≡ arc_between a b
unfolding arc_between
arc_fine a b t0 n g eg h et en = rw (sym eg ∙ h) (λ i. record { t0 = et i; steps = en i; node = a; period = b ⊖ a })

pub arc_none : (a b : Float) (g : Bool) → g ≡ window_fine a b → g ≡ false → record { t0 = zero64; steps = 0; node = zero64; period = zero64 } ≡ arc_between a b
unfolding arc_between
arc_none a b g eg h = rw (sym eg ∙ h) refl
