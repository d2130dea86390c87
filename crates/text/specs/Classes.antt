-- The classes of bytes that the code alone names, and the sizes of its steps.
-- Definitions for the code's own use: no contract of an exported function names them.
use Rattle.std.specs.Prelude.{Bool, not, ◌&&◌, ℕ, eqb}
use Prim.Native.Char.{code}
use Rattle.text.specs.Literals.{plain}

-- a byte with which no */ begins
unfoldable pub starless : ℕ → Bool
starless b = not (eqb b (code "*"))

-- a byte that stands for itself, but for the backslash and the closing quote of a string
unfoldable pub ordinary : ℕ → Bool
unfolding plain
ordinary b = not (eqb b (code "\\")) && (not (eqb b (code "\"")) && plain b)

-- the bytes that are passed whole or not at all
abbrev pub block : ℕ
block = 8

-- the bytes among which the end of a word or of a string is looked for
abbrev pub window : ℕ
window = 32
