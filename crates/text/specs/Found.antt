-- A length as the code has it. Assumes nothing: this is a definition.
use Rattle.std.specs.Prelude.{ℕ, Option, ltb}
use Rattle.std.specs.Bool.{then_some}

-- a length of 0, where the definitions find none, is none
abbrev pub found : ℕ → Option ℕ
found n = then_some (ltb 0 n) n
