-- The bytes of a text by class, and the bytes of one class in a row: paper 01, "From bytes to tokens".
-- A text is the list of its bytes. Assumes nothing: these are definitions.
use Rattle.std.specs.Prelude.{Bool, not, ◌&&◌, ◌||◌, cond, List, [], ◌∷◌, ℕ, suc, eqb, leb, get_or}
use Prim.Native.Char.{code}

-- a number from lo to hi
abbrev pub from : ℕ → ℕ → ℕ → Bool
from lo hi b = leb lo b && leb b hi

-- white space is bytes 9 to 13 and 32
unfoldable pub space : ℕ → Bool
space b = from 9 13 b || eqb b 32

-- an ASCII letter
unfoldable pub letter : ℕ → Bool
letter b = from (code "A") (code "Z") b || from (code "a") (code "z") b

unfoldable pub digit : ℕ → Bool
digit b = from (code "0") (code "9") b

unfoldable pub octal : ℕ → Bool
octal b = from (code "0") (code "7") b

unfoldable pub hexadecimal : ℕ → Bool
hexadecimal b = from (code "0") (code "9") b || (from (code "A") (code "F") b || from (code "a") (code "f") b)

-- letters, digits, underscores: what a word goes on with, and what may not follow a number directly
unfoldable pub wordly : ℕ → Bool
unfolding letter digit
wordly b = letter b || (digit b || eqb b (code "_"))

-- a line ends at byte 10 and at byte 13
unfoldable pub line_end : ℕ → Bool
line_end b = eqb b 10 || eqb b 13

-- what stands past the last byte of a text: no byte
abbrev pub end : ℕ
end = 256

-- the text has ended
unfoldable pub ended : ℕ → Bool
ended b = eqb b end

-- the byte n places on, or the end
abbrev pub at : List ℕ → ℕ → ℕ
at bs n = get_or bs n end

-- how many bytes of the class stand in a row at the front
unfoldable pub run : (ℕ → Bool) → List ℕ → ℕ
run class [] = 0
run class (b ∷ bs) = cond (class b) (suc (run class bs)) 0

-- a byte that does not end a line
unfoldable pub in_line : ℕ → Bool
unfolding line_end
in_line b = not (line_end b)
