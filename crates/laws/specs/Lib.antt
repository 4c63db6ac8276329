-- Laws and shared definitions that more than one crate needs; no code.
--
-- want                                                                  look in         names
-- ⊕ ⊖ ⊗ ⊘ over binary64; a literal as `bits`; 0.0, 1.0, 2.0             Floats          ◌⊕◌ ◌⊖◌ ◌⊗◌ ◌⊘◌, bits, zero64, one64, two64, zero⁺, zero_bits
-- by the cases of a Bool; both sides of a && b ≡ true                    Bools           by, both_true, left_true, right_true, holds, fails, no, clash
-- a property of each element; map over ++; Bool, `cond`                 Lists           All, all_append, all_left, all_right, all_map, all_images,
--                                                                                       map_append, map_map,
--                                                                                       cond_ind, decide, same_bool, put_length
-- order of floats: transitive, total; NaN and infinities apart          Order           le_tr, lt_tr, lt_le_tr, le_lt_tr, le_or_lt, lt→nle, le_rfl,
--                                                                                       le_antisym, neg_le
-- rounding is monotone: sums, differences, quotients by 2               Order           add_mono_l, add_mono_r, sub_mono_l, sub_anti_r, round_signed;
--                                                                                       half_mono in WholeNumbers
-- a finite value as a signed fraction (below Order; rarely needed)      Signed          p, n, d, Order, order_of_le, le_of_order
-- 0 < b - a; 0 ≤ x / y ≤ 1                                              Quotient        sub_positive, quotient_in
-- the weight of a blend lies from 0 to 1, both included                 Weight          weight_between, difference_finite
-- whole numbers up to 2^53 are exact; ceil and floor; squeezing         WholeNumbers    number, Is, is_le, is_lt, add_int, sub_int, half_int, ceil, floor,
--                                                                                       ceil_le, Floored,
--                                                                                       between
-- times 0 to 2^31, whole seconds as ℤ, rising lists, last and appended  Times           Time, step, step_time, second, second_time, second_is, second_le,
--                                                                                       whole_second_law, Rising,
--                                                                                       RisingSeconds, end, reaches, appended
-- what a call tests of its lists, as Bools                              Checks          is_time, is_key, degree_fine, ascending, rising, rising_seconds
-- what those tests say of each element                                  Checks          all_says_each, all_says, time_says, times_say_each, times_say,
--                                                                                       rising_says, rising_times_say, seconds_say
-- one turn of a loop that fills, copies or clears a list                Loops           head_at, turn, turn_done, take_set, fill_turn, fill_done, copy_turn,
--                                                                                       copy_done, cleared, same_cleared, clear_turn, clear_done
-- values at the front of m places, one more value; +0.0 or 0 in the rest Loops           filled_up, filled_length, filled_front, filled_none, filled_set
-- one turn of a loop that tests elements or neighbours                  Loops           all_goes, all_stops, all_done, all_goes_each, all_stops_each,
--                                                                                       all_done_each, each_holds, ascending_goes, ascending_stops,
--                                                                                       ascending_done, ascending_none
-- a triangular table as a list: index, rows, filling by rows            Tables          tri, row, rows, tri_next, tri_mono, row_at, rows_at, row_none,
--                                                                                       row_turn, rows_turn,
--                                                                                       rows_done
-- sums from +0.0 in order, one term more, equal terms                   Sums            sum_to, sum_more, sum_same
-- runs of a list of times, a list passed run by run, the seam           Runs            splits, runs_of, passed, ends_run, seam, front
-- equal bits make one value; x ≠ x is NaN                                SameBits        value_of_bits, ne_is_nan, same_sign
pub mod Floats
pub mod Bools
pub mod Lists
pub mod Signed
pub mod Order
pub mod Quotient
pub mod WholeNumbers
pub mod Times
pub mod Weight
pub mod Checks
pub mod Loops
pub mod Tables
pub mod Sums
pub mod Runs
pub mod SameBits
