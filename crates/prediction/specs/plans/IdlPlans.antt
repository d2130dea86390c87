-- The plans of edition 1: thirteen rules whose choices share a beginning are sketched; the rest come from the rules.
-- Data. That they derive what the rules derive, and choose by one token, is the test in IdlChecked.
use Prim.Native.String.{String}
use Rattle.std.specs.Prelude.{List, [], ◌∷◌, ◌++◌}
use Rattle.kinds.specs.Kinds.{kind_of}
use Rattle.grammar.specs.Idl.{published, idl}
use Rattle.grammar.specs.Notation.{names}
use Rattle.prediction.specs.plans.Prediction.{Prediction}
use Rattle.prediction.specs.plans.Planning.{predict}
use Rattle.prediction.specs.plans.PlanNotation.{`◌, <◌>, ◌▸◌, ◌∣◌, ⟦◌⟧, ◌*, Drawn, make, Draft, draft}
use Rattle.prediction.specs.plans.PlanNotation.{sketch_each}

-- the bases of an interface, if any, and its body
abbrev pub interface_body : Drawn
interface_body =
    ⟦ < "interface_inheritance_spec" > ⟧ ▸ make "interface_header" ▸
    ` "{" ▸ < "interface_body" > ▸ ` "}" ▸ make "interface_dcl"

-- behind "interface": a declaration, with or without bases, or a forward one
abbrev pub interface_rest : Drawn
interface_rest =
    < "identifier" > ▸ (interface_body ∣ make "forward_dcl") ▸ make "interface"

-- the bases of an abstract value, if any, and its body; in edition 2 those of an event too
abbrev pub abstract_body : (whole : String) → Drawn
abstract_body whole = ⟦ < "value_inheritance_spec" > ⟧ ▸ ` "{" ▸ < "export" > * ▸ ` "}" ▸ make whole

-- the same of any other value
abbrev pub body : (header whole : String) → Drawn
body header whole =
    ⟦ < "value_inheritance_spec" > ⟧ ▸ make header ▸ ` "{" ▸ < "value_element" > * ▸ ` "}" ▸ make whole

-- behind "abstract" "valuetype": an abstract value, or a forward one
abbrev pub abstract_value_rest : Drawn
abstract_value_rest = < "identifier" > ▸ (abstract_body "value_abs_dcl" ∣ make "value_forward_dcl") ▸ make "value"

abbrev pub value_body : Drawn
value_body = body "value_header" "value_dcl"

-- behind "custom" "valuetype"
abbrev pub custom_value_rest : Drawn
custom_value_rest = < "identifier" > ▸ value_body ▸ make "value"

-- behind "valuetype": a value, a boxed one, or a forward one
abbrev pub value_rest : Drawn
value_rest =
    < "identifier" > ▸ (value_body ∣ < "type_spec" > ▸ make "value_box_dcl" ∣ make "value_forward_dcl") ▸ make "value"

-- behind "struct" and "union": the type, or a forward one
abbrev pub struct_rest : Drawn
struct_rest =
    < "identifier" > ▸ (` "{" ▸ < "member_list" > ▸ ` "}" ▸ make "struct_type" ∣ make "constr_forward_decl")

abbrev pub union_body : (whole : String) → Drawn
union_body whole =
    ` "switch" ▸ ` "(" ▸ < "switch_type_spec" > ▸ ` ")" ▸ ` "{" ▸ < "switch_body" > ▸ ` "}" ▸ make whole

abbrev pub union_rest : Drawn
union_rest = < "identifier" > ▸ (union_body "union_type" ∣ make "constr_forward_decl")

-- behind "long": a second "long", or none
abbrev pub long_rest : Drawn
long_rest = ` "long" ▸ make "signed_longlong_int" ∣ make "signed_long_int"

-- integer and floating types, of which three begin with "long"
abbrev pub number_type : Drawn
number_type =
    ` "long" ▸ (` "double" ▸ make "floating_pt_type" ∣ (long_rest) ▸ make "signed_int" ▸ make "integer_type")
    ∣ ` "float" ▸ make "floating_pt_type"
    ∣ ` "double" ▸ make "floating_pt_type"
    ∣ ` "short" ▸ make "signed_short_int" ▸ make "signed_int" ▸ make "integer_type"
    ∣ < "unsigned_int" > ▸ make "integer_type"

-- the rules that a number type opens
abbrev pub number_rules : List String
number_rules =
    "floating_pt_type" ∷ "integer_type" ∷ "signed_int" ∷ "signed_short_int" ∷ "signed_long_int" ∷
    "signed_longlong_int" ∷ []

abbrev pub interface_rules : List String
interface_rules = "interface_dcl" ∷ "forward_dcl" ∷ "interface_header" ∷ []

abbrev pub value_rules : List String
value_rules = "value_forward_dcl" ∷ "value_box_dcl" ∷ "value_abs_dcl" ∷ "value_dcl" ∷ "value_header" ∷ []

-- (2)
abbrev pub definition_plan : Drawn
definition_plan =
    (< "type_dcl" >
    ∣ < "const_dcl" >
    ∣ < "except_dcl" >
    ∣ < "module" >
    ∣ ` "abstract" ▸ (` "interface" ▸ interface_rest ∣ ` "valuetype" ▸ abstract_value_rest)
    ∣ ` "local" ▸ ` "interface" ▸ interface_rest
    ∣ ` "interface" ▸ interface_rest
    ∣ ` "custom" ▸ ` "valuetype" ▸ custom_value_rest
    ∣ ` "valuetype" ▸ value_rest) ▸ ` ";" ▸ make "definition"

-- (4)
abbrev pub interface_plan : Drawn
interface_plan =
    ` "abstract" ▸ ` "interface" ▸ interface_rest
    ∣ ` "local" ▸ ` "interface" ▸ interface_rest
    ∣ ` "interface" ▸ interface_rest

-- (13)
abbrev pub value_plan : Drawn
value_plan =
    ` "abstract" ▸ ` "valuetype" ▸ abstract_value_rest
    ∣ ` "custom" ▸ ` "valuetype" ▸ custom_value_rest
    ∣ ` "valuetype" ▸ value_rest

-- (28)
abbrev pub const_type_plan : Drawn
const_type_plan =
    (number_type
    ∣ < "char_type" >
    ∣ < "wide_char_type" >
    ∣ < "boolean_type" >
    ∣ < "string_type" >
    ∣ < "wide_string_type" >
    ∣ < "fixed_pt_const_type" >
    ∣ < "scoped_name" >
    ∣ < "octet_type" >) ▸ make "const_type"

-- (42)
abbrev pub type_plan : Drawn
type_plan =
    (` "typedef" ▸ < "type_declarator" >
    ∣ ` "struct" ▸ struct_rest
    ∣ ` "union" ▸ union_rest
    ∣ < "enum_type" >
    ∣ ` "native" ▸ < "simple_declarator" >) ▸ make "type_dcl"

-- (46)
abbrev pub base_type_plan : Drawn
base_type_plan =
    (number_type
    ∣ < "char_type" >
    ∣ < "wide_char_type" >
    ∣ < "boolean_type" >
    ∣ < "octet_type" >
    ∣ < "any_type" >
    ∣ < "object_type" >
    ∣ < "value_base_type" >) ▸ make "base_type_spec"

-- (50)
abbrev pub declarator_plan : Drawn
declarator_plan =
    < "identifier" > ▸
    (< "fixed_array_size" > ▸ < "fixed_array_size" > * ▸ make "array_declarator" ▸ make "complex_declarator"
    ∣ make "simple_declarator") ▸ make "declarator"

-- (55)
abbrev pub signed_plan : Drawn
signed_plan = (` "short" ▸ make "signed_short_int" ∣ ` "long" ▸ (long_rest)) ▸ make "signed_int"

-- (59)
abbrev pub unsigned_plan : Drawn
unsigned_plan =
    ` "unsigned" ▸
    (` "short" ▸ make "unsigned_short_int"
    ∣ ` "long" ▸ (` "long" ▸ make "unsigned_longlong_int" ∣ make "unsigned_long_int")) ▸ make "unsigned_int"

-- (80), by the rule of its elements
abbrev pub sequence_plan : (element : String) → Drawn
sequence_plan element =
    ` "sequence" ▸ ` "<" ▸ < element > ▸ ⟦ ` "," ▸ < "positive_int_const" > ⟧ ▸ ` ">" ▸ make "sequence_type"

-- (81)
abbrev pub string_plan : Drawn
string_plan = ` "string" ▸ ⟦ ` "<" ▸ < "positive_int_const" > ▸ ` ">" ⟧ ▸ make "string_type"

-- (82)
abbrev pub wide_string_plan : Drawn
wide_string_plan = ` "wstring" ▸ ⟦ ` "<" ▸ < "positive_int_const" > ▸ ` ">" ⟧ ▸ make "wide_string_type"

-- (90)
abbrev pub parameters_plan : Drawn
parameters_plan =
    ` "(" ▸ ⟦ < "param_dcl" > ▸ (` "," ▸ < "param_dcl" >) * ⟧ ▸ ` ")" ▸ make "parameter_dcls"

-- each rule with the rules that its plan opens: those that all three editions have,
abbrev pub common : List Draft
common =
    draft "const_type" number_rules const_type_plan ∷
    draft "signed_int" ("signed_short_int" ∷ "signed_long_int" ∷ "signed_longlong_int" ∷ []) signed_plan ∷
    draft "unsigned_int" ("unsigned_short_int" ∷ "unsigned_long_int" ∷ "unsigned_longlong_int" ∷ []) unsigned_plan ∷
    draft "string_type" [] string_plan ∷
    draft "wide_string_type" [] wide_string_plan ∷
    []

-- those that edition 2 has too,
abbrev pub kept : List Draft
kept =
    draft "interface" interface_rules interface_plan ∷
    draft "value" value_rules value_plan ∷
    draft "type_dcl" ("struct_type" ∷ "union_type" ∷ "constr_forward_decl" ∷ []) type_plan ∷
    draft "base_type_spec" number_rules base_type_plan ∷
    draft "declarator" ("simple_declarator" ∷ "complex_declarator" ∷ "array_declarator" ∷ []) declarator_plan ∷
    draft "sequence_type" [] (sequence_plan "simple_type_spec") ∷
    draft "parameter_dcls" [] parameters_plan ∷
    []

-- and its own
abbrev pub drafts : List Draft
drafts = draft "definition" ("interface" ∷ "value" ∷ interface_rules ++ value_rules) definition_plan ∷ common ++ kept

unfoldable pub idl_prediction : Prediction
unfolding predict sketch_each names published idl
idl_prediction = predict (sketch_each kind_of (names published) drafts) idl
