-- The parts of a number: the mantissa by its digits and its point, and the exponent.
-- Each is what the definition gives once the tests on the bytes are known. Assumes nothing.
use mathlib.Core.Path.{◌≡◌, refl}
use mathlib.Core.Bool.{false}
use mathlib.Core.List.{List}
use Prim.Native.Char.{code}
use Prim.Native.Nat.{ℕ, ◌<◌, max}
use native.Mathlib.Omega.{arith}
use lib.Dec.{eqb}
use lib.ListN.{drop}
use lib.Seq.{get_or-drop}
use Rattle.std.proofs.lemmas.Bool.Decides.{nat_tests}
use Rattle.text.specs.Bytes.{at, end, run, digit}
use Rattle.text.specs.Numbers.{either, pointed, mantissa, exponent}

pub mantissa_is : (bs : List ℕ) → mantissa bs ≡ max (pointed bs) (run digit bs)
unfolding mantissa
mantissa_is bs = refl

-- a point makes a number longer than its digits before it
pub pointed_long : (bs : List ℕ) → 0 < pointed bs → run digit bs < pointed bs
unfolding pointed
pointed_long bs h = grind (arith, nat_tests)

pub mantissa_whole : (bs : List ℕ) → eqb (at bs (run digit bs)) (code ".") ≡ false → run digit bs ≡ mantissa bs
unfolding mantissa pointed
mantissa_whole bs t = grind (arith, nat_tests)

pub power_none : (bs : List ℕ) (n : ℕ) → either (code "e") (code "E") (at bs n) ≡ false → exponent (drop n bs) ≡ 0
unfolding exponent
power_none bs n e = grind (arith, nat_tests, get_or-drop n bs 0 end)
