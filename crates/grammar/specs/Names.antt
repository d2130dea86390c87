-- The rules of edition 1 by name, in their order: a rule's number is the place of its name.
-- Assumes nothing: these are definitions. That they are the names of the published rules is shown in proofs/Facts.antt.
use Rattle.std.specs.Prelude.{ℕ, List, [], ◌∷◌}
use Prim.Native.String.{String}
use Rattle.grammar.specs.Notation.{place, places}

abbrev pub rule_names : List String
rule_names =
    "specification" ∷ "definition" ∷ "module" ∷ "interface" ∷ "interface_dcl" ∷ "forward_dcl" ∷ "interface_header" ∷
    "interface_body" ∷ "export" ∷ "interface_inheritance_spec" ∷ "interface_name" ∷ "scoped_name" ∷ "value" ∷
    "value_forward_dcl" ∷ "value_box_dcl" ∷ "value_abs_dcl" ∷ "value_dcl" ∷ "value_header" ∷
    "value_inheritance_spec" ∷ "value_name" ∷ "value_element" ∷ "state_member" ∷ "init_dcl" ∷ "init_param_decls" ∷
    "init_param_decl" ∷ "init_param_attribute" ∷ "const_dcl" ∷ "const_type" ∷ "const_exp" ∷ "or_expr" ∷ "xor_expr" ∷
    "and_expr" ∷ "shift_expr" ∷ "add_expr" ∷ "mult_expr" ∷ "unary_expr" ∷ "unary_operator" ∷ "primary_expr" ∷
    "literal" ∷ "boolean_literal" ∷ "positive_int_const" ∷ "type_dcl" ∷ "type_declarator" ∷ "type_spec" ∷
    "simple_type_spec" ∷ "base_type_spec" ∷ "template_type_spec" ∷ "constr_type_spec" ∷ "declarators" ∷
    "declarator" ∷ "simple_declarator" ∷ "complex_declarator" ∷ "floating_pt_type" ∷ "integer_type" ∷ "signed_int" ∷
    "signed_short_int" ∷ "signed_long_int" ∷ "signed_longlong_int" ∷ "unsigned_int" ∷ "unsigned_short_int" ∷
    "unsigned_long_int" ∷ "unsigned_longlong_int" ∷ "char_type" ∷ "wide_char_type" ∷ "boolean_type" ∷ "octet_type" ∷
    "any_type" ∷ "object_type" ∷ "struct_type" ∷ "member_list" ∷ "member" ∷ "union_type" ∷ "switch_type_spec" ∷
    "switch_body" ∷ "case" ∷ "case_label" ∷ "element_spec" ∷ "enum_type" ∷ "enumerator" ∷ "sequence_type" ∷
    "string_type" ∷ "wide_string_type" ∷ "array_declarator" ∷ "fixed_array_size" ∷ "attr_dcl" ∷ "except_dcl" ∷
    "op_dcl" ∷ "op_attribute" ∷ "op_type_spec" ∷ "parameter_dcls" ∷ "param_dcl" ∷ "param_attribute" ∷
    "raises_expr" ∷ "context_expr" ∷ "param_type_spec" ∷ "fixed_pt_type" ∷ "fixed_pt_const_type" ∷
    "value_base_type" ∷ "constr_forward_decl" ∷ []

-- the number of the rule
abbrev pub rule : String → ℕ
rule w = place w rule_names

-- every number, in their order
abbrev pub all_rules : List ℕ
all_rules = places rule_names rule_names
