-- The factors of the recursion and of the derivative up to degree 3, by their bits. Assumes nothing.
use Rattle.laws.specs.WholeNumbers.{number}
use mathlib.Core.Path.{◌≡◌, refl}
use lib.Ieee.{round, add, sub, mul, div, of_bits, of_int}
use Rattle.root.specs.Root.{digits, isqrt, root_of_units, sqrt}
use Rattle.laws.specs.Floats.{bits}
use Rattle.legendre.specs.Legendre.{a_of, b_of, diagonal, lower_of, upper_of}

pub a_1_0 : a_of 1 0 ≡ bits 0x3ffbb67ae8584caa
unfolding a_of digits isqrt root_of_units sqrt add sub mul div round of_bits number of_int
a_1_0 = refl

pub a_2_0 : a_of 2 0 ≡ bits 0x3ffefbdeb14f4eda
unfolding a_of digits isqrt root_of_units sqrt add sub mul div round of_bits number of_int
a_2_0 = refl

pub a_2_1 : a_of 2 1 ≡ bits 0x4001e3779b97f4a8
unfolding a_of digits isqrt root_of_units sqrt add sub mul div round of_bits number of_int
a_2_1 = refl

pub a_3_0 : a_of 3 0 ≡ bits 0x3fff8d6bc21a583c
unfolding a_of digits isqrt root_of_units sqrt add sub mul div round of_bits number of_int
a_3_0 = refl

pub a_3_1 : a_of 3 1 ≡ bits 0x4000bbb307acafdb
unfolding a_of digits isqrt root_of_units sqrt add sub mul div round of_bits number of_int
a_3_1 = refl

pub a_3_2 : a_of 3 2 ≡ bits 0x40052a7fa9d2f8ea
unfolding a_of digits isqrt root_of_units sqrt add sub mul div round of_bits number of_int
a_3_2 = refl

pub b_1_0 : b_of 1 0 ≡ bits 0x0000000000000000
unfolding b_of digits isqrt root_of_units sqrt add sub mul div round of_bits number of_int
b_1_0 = refl

pub b_2_0 : b_of 2 0 ≡ bits 0x3ff1e3779b97f4a8
unfolding b_of digits isqrt root_of_units sqrt add sub mul div round of_bits number of_int
b_2_0 = refl

pub b_2_1 : b_of 2 1 ≡ bits 0x0000000000000000
unfolding b_of digits isqrt root_of_units sqrt add sub mul div round of_bits number of_int
b_2_1 = refl

pub b_3_0 : b_of 3 0 ≡ bits 0x3ff04b298812c5cc
unfolding b_of digits isqrt root_of_units sqrt add sub mul div round of_bits number of_int
b_3_0 = refl

pub b_3_1 : b_of 3 1 ≡ bits 0x3fedeeea11683f49
unfolding b_of digits isqrt root_of_units sqrt add sub mul div round of_bits number of_int
b_3_1 = refl

pub b_3_2 : b_of 3 2 ≡ bits 0x0000000000000000
unfolding b_of digits isqrt root_of_units sqrt add sub mul div round of_bits number of_int
b_3_2 = refl

pub diag_0 : diagonal 0 ≡ bits 0x05cd0b15a491eb84
unfolding diagonal digits isqrt root_of_units sqrt add sub mul div round of_bits number of_int
diag_0 = refl

pub diag_1 : diagonal 1 ≡ bits 0x05d926f8db162108
unfolding diagonal digits isqrt root_of_units sqrt add sub mul div round of_bits number of_int
diag_1 = refl

pub diag_2 : diagonal 2 ≡ bits 0x05dc1efd59df15b3
unfolding diagonal digits isqrt root_of_units sqrt add sub mul div round of_bits number of_int
diag_2 = refl

pub diag_3 : diagonal 3 ≡ bits 0x05de5fcc2b75c5ec
unfolding diagonal digits isqrt root_of_units sqrt add sub mul div round of_bits number of_int
diag_3 = refl

pub lower_1_1 : lower_of 1 1 ≡ bits 0x4000000000000001
unfolding lower_of digits isqrt root_of_units sqrt add sub mul div round of_bits number of_int
lower_1_1 = refl

pub lower_2_1 : lower_of 2 1 ≡ bits 0x400bb67ae8584caa
unfolding lower_of digits isqrt root_of_units sqrt add sub mul div round of_bits number of_int
lower_2_1 = refl

pub lower_2_2 : lower_of 2 2 ≡ bits 0x4000000000000000
unfolding lower_of digits isqrt root_of_units sqrt add sub mul div round of_bits number of_int
lower_2_2 = refl

pub lower_3_1 : lower_of 3 1 ≡ bits 0x4013988e1409212f
unfolding lower_of digits isqrt root_of_units sqrt add sub mul div round of_bits number of_int
lower_3_1 = refl

pub lower_3_2 : lower_of 3 2 ≡ bits 0x40094c583ada5b53
unfolding lower_of digits isqrt root_of_units sqrt add sub mul div round of_bits number of_int
lower_3_2 = refl

pub lower_3_3 : lower_of 3 3 ≡ bits 0x4003988e1409212e
unfolding lower_of digits isqrt root_of_units sqrt add sub mul div round of_bits number of_int
lower_3_3 = refl

pub upper_1_0 : upper_of 1 0 ≡ bits 0x3ff0000000000000
unfolding upper_of digits isqrt root_of_units sqrt add sub mul div round of_bits number of_int
upper_1_0 = refl

pub upper_2_0 : upper_of 2 0 ≡ bits 0x3ffbb67ae8584caa
unfolding upper_of digits isqrt root_of_units sqrt add sub mul div round of_bits number of_int
upper_2_0 = refl

pub upper_2_1 : upper_of 2 1 ≡ bits 0x4000000000000000
unfolding upper_of digits isqrt root_of_units sqrt add sub mul div round of_bits number of_int
upper_2_1 = refl

pub upper_3_0 : upper_of 3 0 ≡ bits 0x4003988e1409212e
unfolding upper_of digits isqrt root_of_units sqrt add sub mul div round of_bits number of_int
upper_3_0 = refl

pub upper_3_1 : upper_of 3 1 ≡ bits 0x40094c583ada5b53
unfolding upper_of digits isqrt root_of_units sqrt add sub mul div round of_bits number of_int
upper_3_1 = refl

pub upper_3_2 : upper_of 3 2 ≡ bits 0x4003988e1409212e
unfolding upper_of digits isqrt root_of_units sqrt add sub mul div round of_bits number of_int
upper_3_2 = refl
