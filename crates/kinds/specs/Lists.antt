-- Kinds by their spelling, several at once, as plans, proofs and the constants of the code name them.
-- Definitions; no promise rests on them.
use Rattle.std.specs.Prelude.{ℕ, List, [], ◌∷◌, ◌++◌}
use Prim.Native.String.{String}
use Rattle.kinds.specs.Kinds.{identifier, integer, floating, fixed, character, wide_character, string, wide_string}
use Rattle.kinds.specs.Kinds.{keywords, marks, kind_of}

-- the kinds of several keywords and marks; that of one
abbrev pub kinds_of : List String → List ℕ
kinds_of [] = []
kinds_of (w ∷ ws) = kind_of w ∷ kinds_of ws

abbrev pub only : String → List ℕ
only w = kind_of w ∷ []

-- every kind of the first edition in its order: those of identifiers and literals, keywords, marks
abbrev pub all_kinds : List ℕ
all_kinds =
    identifier ∷ integer ∷ floating ∷ fixed ∷ character ∷ wide_character ∷ string ∷ wide_string ∷
    kinds_of (keywords ++ marks)
