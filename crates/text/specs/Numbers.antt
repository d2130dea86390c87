-- Numbers: paper 01, "Integer", "Floating", "Fixed" and the sentence after them.
-- Each form is the length of the longest number of that form at the front, 0 where there is none.
use Rattle.std.specs.Prelude.{Bool, ◌&&◌, ◌||◌, cond, List, ℕ, ◌+◌, max, eqb, ltb, drop, Result, Ok, Err}
use Prim.Native.Char.{code}
use Rattle.kinds.specs.Kinds as kinds
use Rattle.text.specs.Bytes.{from, at, run, digit, octal, hexadecimal, wordly}
use Rattle.text.specs.declared.Lexeme.{Lexeme}
use Rattle.text.specs.declared.Lexeme.TheVariants.{Token}
use Rattle.text.specs.declared.Fault.{Fault}
use Rattle.text.specs.declared.Fault.TheVariants.{NoLexeme, BadLiteral}

-- a byte that is one of two
abbrev pub either : ℕ → ℕ → ℕ → Bool
either x y b = eqb b x || eqb b y

-- n where the test holds
abbrev pub only : Bool → ℕ → ℕ
only test n = cond test n 0

-- a digit 1 to 9 and digits
unfoldable pub decimal_integer : List ℕ → ℕ
unfolding run digit
decimal_integer bs = only (from (code "1") (code "9") (at bs 0)) (run digit bs)

-- 0 and octal digits
unfoldable pub octal_integer : List ℕ → ℕ
unfolding run octal
octal_integer bs = only (eqb (at bs 0) (code "0")) (1 + run octal (drop 1 bs))

-- 0x or 0X and one or more hex digits
unfoldable pub hexadecimal_integer : List ℕ → ℕ
unfolding run hexadecimal
hexadecimal_integer bs =
    let digits = run hexadecimal (drop 2 bs) in
    only (eqb (at bs 0) (code "0") && (either (code "x") (code "X") (at bs 1) && ltb 0 digits)) (2 + digits)

unfoldable pub integer : List ℕ → ℕ
unfolding decimal_integer octal_integer hexadecimal_integer
integer bs = max (decimal_integer bs) (max (octal_integer bs) (hexadecimal_integer bs))

-- decimal digits, point, digits: one side of the point may be empty, not both
unfoldable pub pointed : List ℕ → ℕ
unfolding run digit
pointed bs =
    let before = run digit bs in
    let after = run digit (drop (before + 1) bs) in
    only (eqb (at bs before) (code ".") && ltb 0 (before + after)) (before + 1 + after)

-- the part before an exponent, point optional
unfoldable pub mantissa : List ℕ → ℕ
unfolding pointed run digit
mantissa bs = max (pointed bs) (run digit bs)

-- an optional sign
unfoldable pub sign : List ℕ → ℕ
sign bs = only (either (code "+") (code "-") (at bs 0)) 1

-- e or E with an optional sign and digits
unfoldable pub exponent : List ℕ → ℕ
unfolding sign run digit
exponent bs =
    let signs = sign (drop 1 bs) in
    let digits = run digit (drop (1 + signs) bs) in
    only (either (code "e") (code "E") (at bs 0) && ltb 0 digits) (1 + signs + digits)

-- the part before an exponent, then the exponent: point or exponent may be absent, not both
unfoldable pub floating : List ℕ → ℕ
unfolding pointed mantissa exponent
floating bs =
    let power = exponent (drop (mantissa bs) bs) in
    only (ltb 0 (mantissa bs) && (ltb 0 (pointed bs) || ltb 0 power)) (mantissa bs + power)

-- as the part before an exponent, then d or D
unfoldable pub fixed : List ℕ → ℕ
unfolding mantissa
fixed bs = only (ltb 0 (mantissa bs) && either (code "d") (code "D") (at bs (mantissa bs))) (mantissa bs + 1)

-- a number of a kind and length; directly followed by a letter, digit or underscore it is a bad literal
unfoldable pub followed : List ℕ → ℕ → ℕ → Result Lexeme Fault
unfolding wordly
followed bs kind n = cond (wordly (at bs n)) (Err BadLiteral) (Ok (Token kind n))

-- the longest of the three forms, by their lengths
unfoldable pub longest : List ℕ → ℕ → ℕ → ℕ → Result Lexeme Fault
unfolding followed
longest bs integer_size floating_size fixed_size =
    cond (ltb (max integer_size floating_size) fixed_size) (followed bs kinds.fixed fixed_size)
    (cond (ltb integer_size floating_size) (followed bs kinds.floating floating_size)
    (cond (ltb 0 integer_size) (followed bs kinds.integer integer_size) (Err NoLexeme)))

-- a point with no digit on either side is of no form
unfoldable pub number : List ℕ → Result Lexeme Fault
unfolding integer floating fixed longest
number bs = longest bs (integer bs) (floating bs) (fixed bs)
