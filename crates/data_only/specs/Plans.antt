-- The plans of edition 3: five sketches are those of edition 1 and six its own; the rest come from the rules.
-- Data. That they derive what the rules derive, and choose by one token, is the test in proofs/Checked.
use Rattle.std.specs.Prelude.{List, [], ◌∷◌}
use Rattle.kinds.specs.Kinds.{kind_of}
use Rattle.data_only.specs.DataOnly.{rule_names, data_only}
use Rattle.prediction.specs.plans.Prediction.{Prediction}
use Rattle.prediction.specs.plans.Planning.{predict}
use Rattle.prediction.specs.plans.PlanNotation.{`◌, <◌>, ◌▸◌, ◌∣◌, ◌*, Drawn, make, Draft, draft, sketch_each}
use Rattle.prediction.specs.plans.IdlPlans.{number_type, number_rules, union_body, sequence_plan, common}

-- (217), its choices in the order of rule 39, so that the two have one plan
abbrev pub literal_plan : Drawn
literal_plan =
    (< "integer_literal" >
    ∣ < "string_literal" > ▸ < "string_literal" > *
    ∣ < "wide_string_literal" > ▸ < "wide_string_literal" > *
    ∣ < "character_literal" >
    ∣ < "wide_character_literal" >
    ∣ < "fixed_pt_literal" >
    ∣ < "floating_pt_literal" >
    ∣ < "boolean_literal" >) ▸ make "literal"

-- (223)
abbrev pub base_type_plan : Drawn
base_type_plan =
    (number_type
    ∣ < "char_type" >
    ∣ < "wide_char_type" >
    ∣ < "boolean_type" >
    ∣ < "octet_type" >) ▸ make "base_type_spec"

-- (245) behind the name its body, or whatever follows a forward declaration
abbrev pub struct_plan : Drawn
struct_plan =
    ` "struct" ▸ < "identifier" > ▸
    (` "{" ▸ < "member" > ▸ < "member" > * ▸ ` "}" ▸ make "struct_def" ∣ make "struct_forward_dcl") ▸ make "struct_dcl"

-- (249)
abbrev pub union_plan : Drawn
union_plan = ` "union" ▸ < "identifier" > ▸ (union_body "union_def" ∣ make "union_forward_dcl") ▸ make "union_dcl"

-- (266)
abbrev pub any_declarator_plan : Drawn
any_declarator_plan =
    < "identifier" > ▸
    (< "fixed_array_size" > ▸ < "fixed_array_size" > * ▸ make "array_declarator" ∣ make "simple_declarator") ▸
    make "any_declarator"

-- each rule with the rules that its plan opens
abbrev pub drafts : List Draft
drafts =
    draft "literal" [] literal_plan ∷
    draft "base_type_spec" number_rules base_type_plan ∷
    draft "sequence_type" [] (sequence_plan "type_spec") ∷
    draft "struct_dcl" ("struct_def" ∷ "struct_forward_dcl" ∷ []) struct_plan ∷
    draft "union_dcl" ("union_def" ∷ "union_forward_dcl" ∷ []) union_plan ∷
    draft "any_declarator" ("simple_declarator" ∷ "array_declarator" ∷ []) any_declarator_plan ∷
    common

unfoldable pub data_only_prediction : Prediction
unfolding predict sketch_each rule_names data_only
data_only_prediction = predict (sketch_each kind_of rule_names drafts) data_only
