-- What the tests of the call say. Assumes nothing.
use Rattle.std.specs.Prelude.{◌≡◌, refl, ℕ, ◌*◌, ◌/◌, ◌≤◌, Bool, ◌&&◌, List, [], ◌∷◌, length, leb, Float}
use Rattle.std.proofs.Common.{ap, leb-true, arith}
use Rattle.std.specs.Float.Ieee.{lt}
use Rattle.laws.specs.Checks.{ascending, rising}
use Rattle.slices.specs.Calls.{accepted}
use Rattle.slices.specs.declared.refusal.Refusal.TheVariants.{Count, Length}
use Rattle.slices.proofs.Calls.{cond_passes}
use Rattle.epoch_record.specs.EpochRecord.{times_of}
use Rattle.epoch_record.specs.declared.Epoch.{Epoch}
use Rattle.record_detrending.specs.Calls.{remove_refusal}

-- records in the order of their times
pub rising_times : (es : List Epoch) → ascending (λ (a b : Epoch). lt a.t b.t) es ≡ rising (times_of es)
rising_times [] = refl
rising_times (a ∷ []) = refl
rising_times (a ∷ b ∷ es) = ap (λ (r : Bool). lt a.t b.t && r) (rising_times (b ∷ es))

pub remove_large : (es : List Epoch) (ns : List Float) (room : ℕ) → remove_refusal es ns room ≡ accepted → 8 * length es ≤ room
unfolding remove_refusal
remove_large es ns room h =
    let a = cond_passes (leb (length es) 100000) _ Count h in
    let b = cond_passes (leb (length ns) 64) _ Count a.1 in
    omega (arith, leb-true (length es) (room / 8) (cond_passes (leb (length es) (room / 8)) _ Length b.1).0)
