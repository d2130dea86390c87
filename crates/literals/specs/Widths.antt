-- The width of a literal as the code has it. Assumes nothing: this is a definition.
use Rattle.std.specs.Prelude.{Bool, true, false}
use Rattle.literals.specs.declared.Width.{Width}
use Rattle.literals.specs.declared.Width.TheVariants.{Narrow, Wide}

-- an L stands directly before the literal
abbrev pub is_wide : Width → Bool
is_wide Narrow = false
is_wide Wide = true
