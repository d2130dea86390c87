-- The parts of plans that readers of values follow, in the notation of the rules.
-- Assumes nothing: these are definitions.
use Rattle.std.specs.Prelude.{ℕ, List, [], ◌∷◌, ◌++◌}
use Rattle.kinds.specs.Lists.{kinds_of}
use Rattle.grammar.specs.Names.{rule}
use Rattle.prediction.specs.plans.Plan.{Plan}
use Rattle.readers_core.specs.Notation.{`◌, <◌>, make, ◌▸◌, ◌∣◌, ⟦◌⟧, ◌*, ◌⟨◌⟩◌, further, list_of}
use Rattle.readers_interfaces.specs.Plans.{export_starts}

-- (19) the interfaces that a value supports; and those, if any
abbrev pub supports : Plan
supports = ` "supports" ▸ list_of (rule "interface_name")

abbrev pub optional_supports : Plan
optional_supports = ⟦ supports ⟧

-- (19) the values that a value inherits from, and what it supports besides
abbrev pub optional_truncatable : Plan
optional_truncatable = ⟦ ` "truncatable" ⟧

abbrev pub inherits : Plan
inherits =
    ` ":" ▸ optional_truncatable ▸ < "value_name" > ▸ further (rule "value_name") ▸ optional_supports

-- bases, if any
abbrev pub optional_bases : Plan
optional_bases = ⟦ < "value_inheritance_spec" > ⟧

-- (22) "public" or "private"
abbrev pub visibility : Plan
visibility = ` "public" ∣ ` "private"

-- (23) parameters, if any
abbrev pub optional_parameters : Plan
optional_parameters = ⟦ < "init_param_decls" > ⟧

-- the kinds that (21) value_element may start with
abbrev pub element_starts : List ℕ
element_starts = kinds_of ("factory" ∷ "private" ∷ "public" ∷ []) ++ export_starts

-- behind the name of a value, of a value with a body, and of an abstract value with a body
abbrev pub value_body : Plan
value_body = optional_bases ▸ make "value_header" ▸ "{" ⟨ < "value_element" > * ⟩ "}" ▸ make "value_dcl"

abbrev pub abstract_body : Plan
abstract_body = optional_bases ▸ "{" ⟨ < "export" > * ⟩ "}" ▸ make "value_abs_dcl"

abbrev pub behind_name : Plan
behind_name = value_body ∣ < "type_spec" > ▸ make "value_box_dcl" ∣ make "value_forward_dcl"

-- a value, a custom one and an abstract one, from "valuetype" on, where a frame may have begun before it
abbrev pub value_rest : Plan
value_rest = ` "valuetype" ▸ < "identifier" > ▸ behind_name ▸ make "value"

abbrev pub custom_rest : Plan
custom_rest =
    ` "valuetype" ▸ < "identifier" > ▸ optional_bases ▸ make "value_header" ▸ "{" ⟨ < "value_element" > * ⟩ "}" ▸
    make "value_dcl" ▸ make "value"

abbrev pub abstract_rest : Plan
abstract_rest = ` "valuetype" ▸ < "identifier" > ▸ (abstract_body ∣ make "value_forward_dcl") ▸ make "value"
