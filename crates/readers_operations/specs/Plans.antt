-- The parts of plans that readers of operations, attributes and initializers follow, in the notation of the rules.
-- Assumes nothing: these are definitions.
use Rattle.std.specs.Prelude.{ℕ, List, [], ◌∷◌}
use Rattle.kinds.specs.Kinds.{string}
use Rattle.kinds.specs.Lists.{kinds_of}
use Rattle.grammar.specs.Names.{rule}
use Rattle.prediction.specs.plans.Plan.{Plan}
use Rattle.readers_core.specs.Notation.{`◌, <◌>, ◌▸◌, ⟦◌⟧, ◌*, list_of}
use Rattle.readers_names.specs.Plans.{string_literal}

-- the words before a parameter
abbrev pub directions : List ℕ
directions = kinds_of ("in" ∷ "out" ∷ "inout" ∷ [])

-- string literals behind commas
abbrev pub further_strings : Plan
further_strings = (` "," ▸ string_literal string) *

-- parts that may be left out
abbrev pub optional_parameters : Plan
optional_parameters = ⟦ list_of (rule "param_dcl") ⟧

abbrev pub optional_raises : Plan
optional_raises = ⟦ < "raises_expr" > ⟧

abbrev pub optional_context : Plan
optional_context = ⟦ < "context_expr" > ⟧

abbrev pub optional_oneway : Plan
optional_oneway = ⟦ < "op_attribute" > ⟧

abbrev pub optional_readonly : Plan
optional_readonly = ⟦ ` "readonly" ⟧
