-- Document 01's starred instances hold: computed from the definitions, or proved by their module. Assumes nothing.
use mathlib.Core.List.{List, [], ◌∷◌, ◌++◌}
use lib.Ieee.{add, sub, mul, div, neg, lt, le, eq, of_bits, of_int, is_nan, to_bits, size, units, of_fields, round, sum}
use Rattle.laws.specs.WholeNumbers.{number}
use Rattle.laws.specs.Times.{end}
use Rattle.root.specs.Root.{sqrt, root_of_units, isqrt, digits}
use Rattle.numbers.specs.Numbers.{magnitude, carried_in, carried, horner, horner_from, alternating, factorial, sines, cosines, odds, near, rounded, quarter, sine_near, cosine_near, rest}
use Rattle.numbers.specs.Numbers.{sine_at, cosine_at, sine, cosine, angle_near, angle, eighth, left, below, arctangent}
use Rattle.model.specs.Model.{bracket, weight}
use Rattle.finality.specs.Brackets.{covers}
use Rattle.fields.proofs.Instances.{index_2_1, index_180_180}
use Rattle.filter.proofs.Instances.{three_joins, above_splits, sixty_four, sixty_five}
use Rattle.least_squares.proofs.Instances.{fits, refused}
use Rattle.finality.proofs.Instances.{all_16804, all_16803}
use Rattle.instances.specs.Instances.{Instance, Every, roots, angles, powers, brackets, filtered, solutions, horizons, instances}

joined : (is js : List Instance) → Every is → Every js → Every (is ++ js)
joined [] js a b = b
joined (i ∷ is) js a b = (a.0, joined is js a.1 b)

roots_hold : Every roots
unfolding sqrt root_of_units isqrt digits size units number of_int of_bits to_bits
roots_hold = (tt, (tt, (tt, tt)))

angles_hold : Every angles
unfolding near horner horner_from alternating factorial sines cosines odds magnitude rounded quarter sine_near cosine_near rest sine_at cosine_at sine cosine angle_near angle eighth left below arctangent
    number add sub mul div neg lt le eq of_bits of_int is_nan to_bits
angles_hold = (tt, (tt, (tt, (tt, tt))))

powers_hold : Every powers
unfolding carried carried_in number mul of_bits of_int to_bits
powers_hold = (tt, (index_2_1, (index_180_180, tt)))

brackets_hold : Every brackets
unfolding covers end bracket weight number add sub mul div neg lt le of_bits of_int of_fields to_bits round sum
brackets_hold = (tt, (tt, (tt, (tt, tt))))

filtered_hold : Every filtered
filtered_hold = (three_joins, (above_splits, (sixty_four, (sixty_five, tt))))

solutions_hold : Every solutions
solutions_hold = (fits, (refused, tt))

horizons_hold : Every horizons
horizons_hold = (all_16804, (all_16803, tt))

pub instances_hold : Every instances
instances_hold =
    joined roots (angles ++ (powers ++ (brackets ++ (filtered ++ (solutions ++ horizons))))) roots_hold
    (joined angles (powers ++ (brackets ++ (filtered ++ (solutions ++ horizons)))) angles_hold
    (joined powers (brackets ++ (filtered ++ (solutions ++ horizons))) powers_hold
    (joined brackets (filtered ++ (solutions ++ horizons)) brackets_hold
    (joined filtered (solutions ++ horizons) filtered_hold
    (joined solutions horizons solutions_hold horizons_hold)))))
