-- Integers: which of the three kinds of integer is the longest, and how long it is beside the digits at the front.
-- A decimal or octal integer is no longer than those digits; one that starts 0x or 0X has one digit before its letter. Assumes nothing.
use mathlib.Core.Path.{◌≡◌, refl}
use mathlib.Core.Bool.{Bool, true, false}
use mathlib.Core.List.{List, [], ◌∷◌}
use Prim.Native.Char.{code}
use Prim.Native.Nat.{ℕ, ◌+◌, ◌≤◌, ◌<◌}
use native.Mathlib.Omega.{arith}
use lib.Dec.{eqb}
use lib.ListN.{drop}
use Rattle.std.specs.Option.{unwrap_or, option_or}
use Rattle.std.proofs.lemmas.Bool.Decides.{nat_tests}
use Rattle.text.specs.Bytes.{from, end, at, run, digit, octal}
use Rattle.text.specs.Found.{found}
use Rattle.text.specs.Numbers.{either, decimal_integer, octal_integer, hexadecimal_integer, integer}
use Rattle.text.proofs.Runs.{run_none_at}

run_first : (class : ℕ → Bool) (bs : List ℕ) →
    class end ≡ false → class (at bs 0) ≡ true → run class bs ≡ 1 + run class (drop 1 bs)
unfolding run
run_first class [] s e = grind arith
run_first class (b ∷ bs) s e = rw e (omega arith)

-- a class within another has no longer runs
run_less : (class wider : ℕ → Bool) →
    ((b : ℕ) → class b ≡ true → wider b ≡ true) → (bs : List ℕ) → run class bs ≤ run wider bs
unfolding run
run_less class wider h [] = omega arith
run_less class wider h (b ∷ bs) = let less = run_less class wider h bs in grind (arith, h b)

octal_digit : (b : ℕ) → octal b ≡ true → digit b ≡ true
unfolding octal digit
octal_digit b e = grind (arith, nat_tests)

-- a digit is 0, or from 1 to 9
no_digit : (b : ℕ) → eqb b (code "0") ≡ false → from (code "1") (code "9") b ≡ false → digit b ≡ false
unfolding digit
no_digit b e f = grind (arith, nat_tests)

-- a decimal integer, or none
integer_decimal : (bs : List ℕ) → eqb (at bs 0) (code "0") ≡ false → integer bs ≡ run digit bs
unfolding integer decimal_integer octal_integer hexadecimal_integer
integer_decimal bs e = grind (arith, nat_tests, no_digit (at bs 0), run_none_at digit bs 0)

-- the text goes on with 0x or 0X, and n is the length of such an integer
pub record Prefixed (bs : List ℕ) (n : ℕ) : Type 0 where
  zero_digit : eqb (at bs 0) (code "0") ≡ true
  letter : either (code "x") (code "X") (at bs 1) ≡ true
  long : 2 ≤ n

pub prefixed : (bs : List ℕ) → 0 < hexadecimal_integer bs → Prefixed bs (hexadecimal_integer bs)
unfolding hexadecimal_integer
prefixed bs h = record {
  zero_digit = grind (arith, nat_tests);
  letter = grind (arith, nat_tests);
  long = grind (arith, nat_tests);
}

module _ (bs : List ℕ) (p : Prefixed bs (hexadecimal_integer bs)) (class : ℕ → Bool)
    (x : class (code "x") ≡ false) (y : class (code "X") ≡ false) where
  pub past_zero : class (at bs 1) ≡ false
  past_zero = grind (arith, nat_tests)

  pub zero_alone : class (code "0") ≡ true → class end ≡ false → run class bs ≡ 1
  zero_alone z e = grind (arith, nat_tests, run_first class bs e, run_none_at class bs 1 past_zero)

octal_short : (bs : List ℕ) → octal_integer bs ≤ run digit bs
unfolding octal_integer digit
octal_short bs =
    let less = run_less octal digit octal_digit (drop 1 bs) in
    grind (arith, nat_tests, run_first digit bs refl)

pub integer_short : (bs : List ℕ) → hexadecimal_integer bs ≡ 0 → integer bs ≤ run digit bs
unfolding integer decimal_integer
integer_short bs e = grind (arith, nat_tests, octal_short bs)

integer_hexadecimal : (bs : List ℕ) → 0 < hexadecimal_integer bs → integer bs ≡ hexadecimal_integer bs
unfolding integer decimal_integer digit
integer_hexadecimal bs h =
    let p = prefixed bs h in
    let one = zero_alone bs p digit refl refl refl refl in
    grind (arith, nat_tests, octal_short bs)

integer_octal : (bs : List ℕ) →
    eqb (at bs 0) (code "0") ≡ true → hexadecimal_integer bs ≡ 0 → integer bs ≡ octal_integer bs
unfolding integer decimal_integer
integer_octal bs e h = grind (arith, nat_tests)

-- the first that stands there of hex digits after 0x, octal digits after 0, and digits
pub integer_first : (bs : List ℕ) →
    integer bs ≡ unwrap_or (option_or (found (hexadecimal_integer bs)) (found (octal_integer bs))) (run digit bs)
unfolding octal_integer
integer_first bs = grind (arith, nat_tests, integer_decimal bs, integer_octal bs, integer_hexadecimal bs)

-- an integer stands where a digit does
pub integer_some : (bs : List ℕ) → 0 < run digit bs → 0 < integer bs
unfolding integer octal_integer
integer_some bs h = grind (arith, nat_tests, integer_decimal bs)

pub integer_none : (bs : List ℕ) → run digit bs ≡ 0 → integer bs ≡ 0
unfolding digit
integer_none bs e =
    let alone = λ (h : 0 < hexadecimal_integer bs). zero_alone bs (prefixed bs h) digit refl refl refl refl in
    grind (arith, integer_short bs)
