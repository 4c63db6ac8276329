-- The fit of the second satellite leaves the slots of the first alone. Assumes nothing.
use Rattle.std.proofs.Common.{◌≡◌, ℕ, ◌+◌, ◌-◌, ◌*◌, Bool, true, ◌&&◌, T, List, length, get_or, sym, ap, ◌∙◌, subst, arith}
use lib.Ieee.{Float, nan}
use lib.Ieee.Fits.{and_l, and_r}
use lib.Ieee.Bits.{is_true}
use Rattle.laws.specs.Bools.{by}
use Rattle.finality.specs.Tables.{Table}
use Rattle.integrate.specs.declared.kernel.State.{State}
use Rattle.windows.specs.Slots.{Slot}
use Rattle.windows.specs.Windows.{slot_at, Filled, WindowsFit}
use Rattle.windows.proofs.Filling.{slot_same}
use Rattle.slots.specs.LookUp.{BothFit}
use Rattle.inputs.specs.Inputs.{window_room}

fit_long : (serves : Bool) (window : Float → Float → Table State) (nodes s s' : List Float) (base satellite : ℕ) (r : Bool) → WindowsFit serves window nodes s s' base satellite r
    → length s' ≡ length s
fit_long serves window nodes s s' base satellite r f = by serves (λ e. (f.filled e).long) (λ e. ap length (f.unfit e))

module _ (serve_c : Bool) (serve_d : ℕ → Bool) (window_c window_d : Float → Float → Table State) (nodes s s₁ s₂ : List Float) (base : ℕ) (c d : Bool) (f : WindowsFit serve_c window_c nodes s s₁ base 0 c)
    (g : WindowsFit (serve_d (length s₁)) window_d nodes s₁ s₂ base 1 d) where
  first_long : length s₁ ≡ length s
  first_long = fit_long serve_c window_c nodes s s₁ base 0 c f

  serves_d : serve_d (length s₁) ≡ serve_d (length s)
  serves_d = ap serve_d first_long

  filled_c : serve_c && serve_d (length s) ≡ true → Filled window_c nodes (length nodes - 1) s s₁ base (slot_at base 0 0)
  filled_c e = f.filled (is_true serve_c (and_l serve_c (serve_d (length s)) (subst T (sym e) tt)))

  filled_d : serve_c && serve_d (length s) ≡ true → Filled window_d nodes (length nodes - 1) s₁ s₂ base (slot_at base 1 0)
  filled_d e = g.filled (serves_d ∙ is_true (serve_d (length s)) (and_r serve_c (serve_d (length s)) (subst T (sym e) tt)))

  pub both_fit : (r : Bool) → r ≡ c && d → BothFit (serve_c && serve_d (length s)) window_c window_d nodes s s₂ base r
  both_fit r er = record {
    long = fit_long (serve_d (length s₁)) window_d nodes s₁ s₂ base 1 d g ∙ first_long;
    says = er ∙ (λ i. f.says i && (g.says ∙ serves_d) i);
    slots_c = λ e w l.
        let at : slot_at base 0 0 + window_room * w ≡ slot_at base 0 w = omega arith in
        slot_same (slot_at base 0 w) s₁ s₂ (window_c (get_or nodes w nan) (get_or nodes (w + 1) nan)) ((filled_c e).few w l)
        (λ k p q. (filled_d e).same k (omega arith) (λ v h x y. omega arith))
        (subst (λ (m : ℕ). Slot s₁ m (window_c (get_or nodes w nan) (get_or nodes (w + 1) nan))) at ((filled_c e).slots w l));
    slots_d = λ e w l.
        let at : slot_at base 1 0 + window_room * w ≡ slot_at base 1 w = omega arith in
        subst (λ (m : ℕ). Slot s₂ m (window_d (get_or nodes w nan) (get_or nodes (w + 1) nan))) at ((filled_d e).slots w l);
    few_c = λ e w l. (filled_c e).few w l;
    few_d = λ e w l. (filled_d e).few w l;
  }
