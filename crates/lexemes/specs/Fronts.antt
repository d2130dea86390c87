-- First bytes that leave a choice to the second.
-- Assumes nothing: these are definitions.
use Prim.Native.Char.{code}
use Rattle.std.specs.Prelude.{ℕ}

-- a comment or a mark
abbrev pub slash : ℕ
slash = code "/"

-- a wide literal or a word
abbrev pub wide : ℕ
wide = code "L"

-- an identifier or nothing
abbrev pub underscore : ℕ
underscore = code "_"
