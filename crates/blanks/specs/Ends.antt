-- The end of a comment, as the code looks for it.
-- A definition for the code's own use: no contract of an exported function names it.
use Rattle.std.specs.Prelude.{Bool, List, ℕ}
use Prim.Native.Char.{code}
use Rattle.text.specs.Lexemes.{starts}

-- the text goes on with */
abbrev pub closes : List ℕ → Bool
closes bs = starts (code "*") (code "/") bs
