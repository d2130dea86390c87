-- The limitless meaning of a list of tokens: its one derivation, or its one place of blame.
-- A definition. That it is always one of the two, and never both, is a theorem for each edition that passes its test.
use Rattle.std.specs.Prelude.{ℕ, List}
use Rattle.grammar.specs.Forest.{Forest}
use Rattle.grammar.specs.Rule.{Edition}
use Rattle.grammar.specs.Derivation.{Derivation}
use Rattle.grammar.specs.Blame.{Blame}

pub data Meaning (E : Edition) (ks : List ℕ) : Type 0 where
  derived : (g : Forest) → Derivation E ks g → Meaning E ks
  blamed : (q : ℕ) → Blame E ks q → Meaning E ks
