-- The parts of plans that readers of whole texts follow, in the notation of the rules.
-- Assumes nothing: these are definitions.
use Rattle.std.specs.Prelude.{ℕ, List, [], ◌∷◌}
use Rattle.kinds.specs.Lists.{kinds_of}
use Rattle.prediction.specs.plans.Plan.{Plan}
use Rattle.readers_core.specs.Notation.{`◌, <◌>, ◌▸◌, ◌∣◌, ◌*}
use Rattle.readers_interfaces.specs.Plans.{interface_rest}
use Rattle.readers_values.specs.Plans.{value_rest, custom_rest, abstract_rest}

-- what begins with "abstract": an interface or a value
abbrev pub abstract_definition : Plan
abstract_definition = ` "abstract" ▸ (interface_rest ∣ abstract_rest)

-- (2) what is defined, before its ";"
abbrev pub defined : Plan
defined =
    < "type_dcl" >
    ∣ < "const_dcl" >
    ∣ < "except_dcl" >
    ∣ < "module" >
    ∣ abstract_definition
    ∣ ` "local" ▸ interface_rest
    ∣ interface_rest
    ∣ ` "custom" ▸ custom_rest
    ∣ value_rest

-- one or more definitions
abbrev pub definitions : Plan
definitions = < "definition" > ▸ (< "definition" > *)

-- the kinds that (2) definition may start with
abbrev pub definition_starts : List ℕ
definition_starts =
    kinds_of
    ("abstract" ∷ "const" ∷ "custom" ∷ "enum" ∷ "exception" ∷ "interface" ∷ "local" ∷ "module" ∷ "native" ∷ "struct" ∷
    "typedef" ∷ "union" ∷ "valuetype" ∷ [])
