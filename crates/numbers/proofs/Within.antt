-- A number stands within the text, and has a byte at least.
-- Each form ends at a byte that is in the text, or at the end of a run of digits, which is no longer than the text. Assumes nothing.
use mathlib.Core.Bool.{Bool}
use mathlib.Core.List.{List}
use Prim.Native.Nat.{ℕ, ◌+◌, ◌≤◌, ◌<◌, max}
use native.Mathlib.Omega.{arith}
use borrow.Author.Tests.{ltb-true}
use lib.Dec.{ltb}
use lib.ListN.{length, drop, length-drop}
use Rattle.std.proofs.lemmas.Bool.Decides.{nat_tests}
use Rattle.kinds.specs.Kinds as kinds
use Rattle.text.specs.Bytes.{at, run, digit, octal, hexadecimal, wordly}
use Rattle.text.specs.Numbers.{decimal_integer, octal_integer, hexadecimal_integer, integer}
use Rattle.text.specs.Numbers.{pointed, mantissa, sign, exponent, floating, fixed, followed, longest, number}
use Rattle.text.proofs.Choices.{choose}
use Rattle.text.proofs.Rests.{byte_inside}
use Rattle.text.proofs.Runs.{run_within}
use Rattle.text.proofs.Sizes.{Sized}

-- a run that starts n bytes on
run_behind : (class : ℕ → Bool) (bs : List ℕ) (n : ℕ) → n ≤ length bs → n + run class (drop n bs) ≤ length bs
run_behind class bs n h = omega (arith, run_within class (drop n bs), length-drop n bs)

run_some : (class : ℕ → Bool) (bs : List ℕ) (n : ℕ) → 0 < run class (drop n bs) → n + run class (drop n bs) ≤ length bs
run_some class bs n h = omega (arith, run_within class (drop n bs), length-drop n bs)

octal_integer_within : (bs : List ℕ) → octal_integer bs ≤ length bs
unfolding octal_integer
octal_integer_within bs = grind (arith, nat_tests, byte_inside bs 0, run_behind octal bs 1)

hexadecimal_integer_within : (bs : List ℕ) → hexadecimal_integer bs ≤ length bs
unfolding hexadecimal_integer
hexadecimal_integer_within bs = grind (arith, nat_tests, run_some hexadecimal bs 2)

integer_within : (bs : List ℕ) → integer bs ≤ length bs
unfolding integer decimal_integer
integer_within bs = grind (arith, nat_tests, run_within digit bs, octal_integer_within bs, hexadecimal_integer_within bs)

pointed_within : (bs : List ℕ) → pointed bs ≤ length bs
unfolding pointed
pointed_within bs = grind (arith, nat_tests, byte_inside bs (run digit bs), run_behind digit bs (run digit bs + 1))

pub mantissa_within : (bs : List ℕ) → mantissa bs ≤ length bs
unfolding mantissa
mantissa_within bs = omega (arith, pointed_within bs, run_within digit bs)

pub sign_within : (bs : List ℕ) → sign bs ≤ length bs
unfolding sign
sign_within bs = grind (arith, nat_tests, byte_inside bs 0)

exponent_within : (bs : List ℕ) → exponent bs ≤ length bs
unfolding exponent
exponent_within bs = grind (arith, nat_tests, run_some digit bs (1 + sign (drop 1 bs)))

-- an exponent that starts after the mantissa
pub power_within : (bs : List ℕ) → mantissa bs + exponent (drop (mantissa bs) bs) ≤ length bs
power_within bs =
    omega (arith, exponent_within (drop (mantissa bs) bs), length-drop (mantissa bs) bs, mantissa_within bs)

floating_within : (bs : List ℕ) → floating bs ≤ length bs
unfolding floating
floating_within bs = grind (arith, nat_tests, power_within bs)

fixed_within : (bs : List ℕ) → fixed bs ≤ length bs
unfolding fixed
fixed_within bs = grind (arith, nat_tests, byte_inside bs (mantissa bs))

followed_sized : (bs : List ℕ) (kind n : ℕ) → 0 < n → n ≤ length bs → Sized (length bs) (followed bs kind n)
unfolding followed
followed_sized bs kind n h k = choose (Sized (length bs)) (wordly (at bs n)) (λ e. tt) (h, k)

pub number_sized : (bs : List ℕ) → Sized (length bs) (number bs)
unfolding number longest
number_sized bs =
    let P = Sized (length bs) in
    let i = integer bs in
    let f = floating bs in
    let x = fixed bs in
    choose P (ltb (max i f) x) (λ e. followed_sized bs kinds.fixed x (omega (arith, ltb-true (max i f) x e)) (fixed_within bs))
    (choose P (ltb i f) (λ e. followed_sized bs kinds.floating f (omega (arith, ltb-true i f e)) (floating_within bs))
    (choose P (ltb 0 i) (λ e. followed_sized bs kinds.integer i (ltb-true 0 i e) (integer_within bs)) tt))
