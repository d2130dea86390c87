-- The plans of edition 2: twelve sketches are those of edition 1 and five its own; the rest come from the rules.
-- Data. That they derive what the rules derive, and choose by one token, is the test in proofs/Checked.
use Prim.Native.String.{String}
use Rattle.std.specs.Prelude.{List, [], ◌∷◌, ◌++◌}
use Rattle.kinds.specs.Kinds.{component_kind_of}
use Rattle.components.specs.Components.{published, components}
use Rattle.grammar.specs.Notation.{names}
use Rattle.prediction.specs.plans.Prediction.{Prediction}
use Rattle.prediction.specs.plans.Planning.{predict}
use Rattle.prediction.specs.plans.PlanNotation.{`◌, <◌>, ◌▸◌, ◌∣◌, ⟦◌⟧, ◌*, Drawn, make, Draft, draft, sketch_each}
use Rattle.prediction.specs.plans.IdlPlans.{interface_rest, abstract_body, body, abstract_value_rest, custom_value_rest}
use Rattle.prediction.specs.plans.IdlPlans.{value_rest, interface_rules, value_rules, common, kept}

-- behind "abstract" "eventtype": an abstract event, or a forward one
abbrev pub abstract_event_rest : Drawn
abstract_event_rest = < "identifier" > ▸ (abstract_body "event_abs_dcl" ∣ make "event_forward_dcl") ▸ make "event"

abbrev pub event_body : Drawn
event_body = body "event_header" "event_dcl"

-- behind "custom" "eventtype"
abbrev pub custom_event_rest : Drawn
custom_event_rest = < "identifier" > ▸ event_body ▸ make "event"

-- behind "eventtype": an event, or a forward one
abbrev pub event_rest : Drawn
event_rest = < "identifier" > ▸ (event_body ∣ make "event_forward_dcl") ▸ make "event"

abbrev pub event_rules : List String
event_rules = "event_forward_dcl" ∷ "event_abs_dcl" ∷ "event_dcl" ∷ "event_header" ∷ []

-- (2)
abbrev pub definition_plan : Drawn
definition_plan =
    (< "type_dcl" >
    ∣ < "const_dcl" >
    ∣ < "except_dcl" >
    ∣ < "module" >
    ∣ ` "abstract" ▸
    (` "interface" ▸ interface_rest
    ∣ ` "valuetype" ▸ abstract_value_rest
    ∣ ` "eventtype" ▸ abstract_event_rest)
    ∣ ` "local" ▸ ` "interface" ▸ interface_rest
    ∣ ` "interface" ▸ interface_rest
    ∣ ` "custom" ▸ (` "valuetype" ▸ custom_value_rest ∣ ` "eventtype" ▸ custom_event_rest)
    ∣ ` "valuetype" ▸ value_rest
    ∣ ` "eventtype" ▸ event_rest
    ∣ < "type_id_dcl" >
    ∣ < "type_prefix_dcl" >
    ∣ < "component" >
    ∣ < "home_dcl" >) ▸ ` ";" ▸ make "definition"

-- the name of an attribute: with what it raises, or with further names
abbrev pub names_or : (raises : String) → Drawn
names_or raises = < "simple_declarator" > ▸ (< raises > ∣ (` "," ▸ < "simple_declarator" >) *)

-- (105)
abbrev pub readonly_plan : Drawn
readonly_plan = names_or "raises_expr" ▸ make "readonly_attr_declarator"

-- (107)
abbrev pub attribute_plan : Drawn
attribute_plan = names_or "attr_raises_expr" ▸ make "attr_declarator"

-- the base of a component and what it supports, if any, and its body
abbrev pub component_body : Drawn
component_body =
    ⟦ < "component_inheritance_spec" > ⟧ ▸ ⟦ < "supported_interface_spec" > ⟧ ▸ make "component_header" ▸
    ` "{" ▸ < "component_body" > ▸ ` "}" ▸ make "component_dcl"

-- (112)
abbrev pub component_plan : Drawn
component_plan =
    ` "component" ▸ < "identifier" > ▸ (component_body ∣ make "component_forward_dcl") ▸ make "component"

-- (134)
abbrev pub event_plan : Drawn
event_plan =
    ` "abstract" ▸ ` "eventtype" ▸ abstract_event_rest
    ∣ ` "custom" ▸ ` "eventtype" ▸ custom_event_rest
    ∣ ` "eventtype" ▸ event_rest

-- each rule with the rules that its plan opens
abbrev pub drafts : List Draft
drafts =
    draft "definition" ("interface" ∷ "value" ∷ "event" ∷ interface_rules ++ value_rules ++ event_rules)
    definition_plan ∷
    draft "readonly_attr_declarator" [] readonly_plan ∷
    draft "attr_declarator" [] attribute_plan ∷
    draft "component" ("component_dcl" ∷ "component_header" ∷ "component_forward_dcl" ∷ []) component_plan ∷
    draft "event" event_rules event_plan ∷
    common ++ kept

unfoldable pub components_prediction : Prediction
unfolding predict sketch_each component_kind_of names published components
components_prediction = predict (sketch_each component_kind_of (names published) drafts) components
