-- The kind of a mark, and which bytes start one.
-- Assumes nothing: these are definitions.
use Rattle.std.specs.Prelude.{Bool, [], ◌∷◌, List, ℕ, cond, ltb, Option, Some, None}
use Rattle.kinds.specs.Kinds as kinds

-- the kind of a spelling that is a mark
abbrev pub kind_of : List ℕ → Option ℕ
kind_of w = cond (ltb 0 (kinds.mark w)) (Some (kinds.mark w)) None

-- a byte that is a mark alone: the marks of two bytes start with such a byte too
abbrev pub starts_mark : ℕ → Bool
starts_mark b = ltb 0 (kinds.mark (b ∷ []))
