-- Which form of number is the longest, told by what follows the digits and the point.
-- Fixed and floating numbers go on after the digits; an integer does so after 0x or 0X alone, where no other form stands. Assumes nothing.
use mathlib.Core.Path.{◌≡◌, refl, sym}
use mathlib.Core.Bool.{Bool, true, false}
use mathlib.Core.Logic.{◌⊎◌, inl, inr}
use mathlib.Core.List.{List}
use Prim.Native.Char.{code}
use Prim.Native.Nat.{ℕ, ◌+◌, ◌≤◌, ◌<◌}
use native.Mathlib.Omega.{arith}
use lib.Dec.{eqb}
use lib.ListN.{drop}
use Rattle.std.specs.Prelude.{Err}
use Rattle.std.proofs.lemmas.Bool.Decides.{nat_tests}
use Rattle.kinds.specs.Kinds as kinds
use Rattle.text.specs.Bytes.{at, run, digit}
use Rattle.text.specs.Numbers.{either, hexadecimal_integer, integer, mantissa, exponent}
use Rattle.text.specs.Numbers.{floating, fixed, followed, longest, number}
use Rattle.text.specs.declared.Fault.TheVariants.{NoLexeme}
use Rattle.text.proofs.Rests.{rest, past_end}
use Rattle.text.proofs.Runs.{at_inside}
use Rattle.numbers.proofs.Within.{mantissa_within, power_within}
use Rattle.numbers.proofs.Integers.{Prefixed, prefixed, past_zero, zero_alone, integer_short, integer_some, integer_none}
use Rattle.numbers.proofs.Parts.{mantissa_is, mantissa_whole, pointed_long, power_none}

-- what stands after the mantissa: an exponent, or d or D
abbrev pub power : List ℕ → ℕ
power bs = exponent (drop (mantissa bs) bs)

abbrev fixed_letter : List ℕ → Bool
fixed_letter bs = either (code "d") (code "D") (at bs (mantissa bs))

-- after 0x or 0X stand no other form's bytes
record Bare (bs : List ℕ) : Type 0 where
  whole : mantissa bs ≡ run digit bs
  no_power : power bs ≡ 0
  no_letter : fixed_letter bs ≡ false

bare : (bs : List ℕ) → Prefixed bs (hexadecimal_integer bs) → Bare bs
unfolding digit
bare bs p =
    let one = zero_alone bs p digit refl refl refl refl in
    let whole = sym (mantissa_whole bs (rw one (past_zero bs p (λ b. eqb b (code ".")) refl refl))) in
    record {
      whole = whole;
      no_power = power_none bs (mantissa bs) (rw (whole, one) (past_zero bs p (either (code "e") (code "E")) refl refl));
      no_letter = rw (whole, one) (past_zero bs p (either (code "d") (code "D")) refl refl);
    }

-- a number of another form goes on after its digits, and so is longer than any integer
integer_shorter : (bs : List ℕ) →
    (fixed_letter bs ≡ true) ⊎ (run digit bs < mantissa bs + power bs) → integer bs ≤ run digit bs
integer_shorter bs other =
    let alone = λ (h : 0 < hexadecimal_integer bs). bare bs (prefixed bs h) in
    grind (arith, integer_short bs)

module _ (bs : List ℕ) where
  floating_some : 0 < mantissa bs → run digit bs < mantissa bs + power bs → floating bs ≡ mantissa bs + power bs
  unfolding floating
  floating_some h l = grind (arith, nat_tests, mantissa_is bs)

  -- without a point or an exponent there is no floating number
  floating_none : mantissa bs + power bs ≤ run digit bs → floating bs ≡ 0
  unfolding floating
  floating_none h = grind (arith, nat_tests, mantissa_is bs, pointed_long bs)

  floating_most : floating bs ≤ mantissa bs + power bs
  unfolding floating
  floating_most = grind (arith, nat_tests)

  fixed_no_power : fixed_letter bs ≡ true → power bs ≡ 0
  fixed_no_power e = grind (arith, nat_tests, power_none bs (mantissa bs))

  pub number_fixed : 0 < mantissa bs → fixed_letter bs ≡ true → number bs ≡ followed bs kinds.fixed (mantissa bs + 1)
  unfolding number longest fixed
  number_fixed h e =
      let shorter = integer_shorter bs (inl e) in
      grind (arith, nat_tests, mantissa_is bs, floating_most, fixed_no_power e)

  pub number_floating : 0 < mantissa bs → fixed_letter bs ≡ false → run digit bs < mantissa bs + power bs →
      number bs ≡ followed bs kinds.floating (mantissa bs + power bs)
  unfolding number longest fixed
  number_floating h e l =
      let shorter = integer_shorter bs (inr l) in
      grind (arith, nat_tests, floating_some)

  pub number_integer : 0 < mantissa bs → fixed_letter bs ≡ false → mantissa bs + power bs ≤ run digit bs →
      number bs ≡ followed bs kinds.integer (integer bs)
  unfolding number longest fixed
  number_integer h e l = grind (arith, nat_tests, floating_none, integer_some bs)

  pub number_none : mantissa bs ≡ 0 → number bs ≡ Err NoLexeme
  unfolding number longest floating fixed
  number_none e = grind (arith, nat_tests, mantissa_is bs, integer_none bs)

-- the form that stands there, by what follows its digits and its point; and what the code reads there
pub ruleset forms = (
  number_fixed,
  number_floating,
  number_integer,
  number_none,
  mantissa_within,
  power_within,
  at_inside,
  past_end,
  rest,
  nat_tests,
)
