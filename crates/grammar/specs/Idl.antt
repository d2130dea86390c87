-- Source document 000, rules 1 to 99, in its order and form. What paper 01 repairs and paper 02 amends is marked where it stands.
-- Assumes nothing: this is the grammar that is believed, edition 1.
use Rattle.std.specs.Prelude.{List, [], ◌∷◌}
use Rattle.kinds.specs.Kinds.{kind_of}
use Rattle.grammar.specs.Rule.{Edition}
use Rattle.grammar.specs.Notation.{`◌, <◌>, ◌▸◌, ◌∣◌, ⟦◌⟧, ◌*, ◌+, Rule, ◌::=◌, edition}

unfoldable pub published : List Rule
published =
    -- (1)
    ("specification" ::= < "definition" > +) ∷
    -- (2)
    ("definition" ::= < "type_dcl" > ▸ ` ";"
    ∣ < "const_dcl" > ▸ ` ";"
    ∣ < "except_dcl" > ▸ ` ";"
    ∣ < "interface" > ▸ ` ";"
    ∣ < "module" > ▸ ` ";"
    ∣ < "value" > ▸ ` ";") ∷
    -- (3)
    ("module" ::= ` "module" ▸ < "identifier" > ▸ ` "{" ▸ < "definition" > + ▸ ` "}") ∷
    -- (4)
    ("interface" ::= < "interface_dcl" > ∣ < "forward_dcl" >) ∷
    -- (5)
    ("interface_dcl" ::= < "interface_header" > ▸ ` "{" ▸ < "interface_body" > ▸ ` "}") ∷
    -- (6)
    ("forward_dcl" ::= ⟦ ` "abstract" ∣ ` "local" ⟧ ▸ ` "interface" ▸ < "identifier" >) ∷
    -- (7)
    ("interface_header" ::= ⟦ ` "abstract" ∣ ` "local" ⟧ ▸ ` "interface" ▸ < "identifier" > ▸
    ⟦ < "interface_inheritance_spec" > ⟧) ∷
    -- (8)
    ("interface_body" ::= < "export" > *) ∷
    -- (9) repaired: the spaces inside quotes
    ("export" ::= < "type_dcl" > ▸ ` ";"
    ∣ < "const_dcl" > ▸ ` ";"
    ∣ < "except_dcl" > ▸ ` ";"
    ∣ < "attr_dcl" > ▸ ` ";"
    ∣ < "op_dcl" > ▸ ` ";") ∷
    -- (10)
    ("interface_inheritance_spec" ::= ` ":" ▸ < "interface_name" > ▸ (` "," ▸ < "interface_name" >) *) ∷
    -- (11)
    ("interface_name" ::= < "scoped_name" >) ∷
    -- (12)
    ("scoped_name" ::= < "identifier" >
    ∣ ` "::" ▸ < "identifier" >
    ∣ < "scoped_name" > ▸ ` "::" ▸ < "identifier" >) ∷
    -- (13) repaired: the stray ")"
    ("value" ::= < "value_dcl" >
    ∣ < "value_abs_dcl" >
    ∣ < "value_box_dcl" >
    ∣ < "value_forward_dcl" >) ∷
    -- (14)
    ("value_forward_dcl" ::= ⟦ ` "abstract" ⟧ ▸ ` "valuetype" ▸ < "identifier" >) ∷
    -- (15)
    ("value_box_dcl" ::= ` "valuetype" ▸ < "identifier" > ▸ < "type_spec" >) ∷
    -- (16)
    ("value_abs_dcl" ::= ` "abstract" ▸ ` "valuetype" ▸ < "identifier" > ▸ ⟦ < "value_inheritance_spec" > ⟧ ▸
    ` "{" ▸ < "export" > * ▸ ` "}") ∷
    -- (17)
    ("value_dcl" ::= < "value_header" > ▸ ` "{" ▸ < "value_element" > * ▸ ` "}") ∷
    -- (18) repaired: the space inside quotes
    ("value_header" ::= ⟦ ` "custom" ⟧ ▸ ` "valuetype" ▸ < "identifier" > ▸ ⟦ < "value_inheritance_spec" > ⟧) ∷
    -- (19) read as never empty, as paper 01 says: one of its two parts is there
    ("value_inheritance_spec" ::= ` ":" ▸ ⟦ ` "truncatable" ⟧ ▸ < "value_name" > ▸ (` "," ▸ < "value_name" >) * ▸
    ⟦ ` "supports" ▸ < "interface_name" > ▸ (` "," ▸ < "interface_name" >) * ⟧
    ∣ ` "supports" ▸ < "interface_name" > ▸ (` "," ▸ < "interface_name" >) *) ∷
    -- (20)
    ("value_name" ::= < "scoped_name" >) ∷
    -- (21)
    ("value_element" ::= < "export" >
    ∣ < "state_member" >
    ∣ < "init_dcl" >) ∷
    -- (22)
    ("state_member" ::= (` "public" ∣ ` "private") ▸ < "type_spec" > ▸ < "declarators" > ▸ ` ";") ∷
    -- (23)
    ("init_dcl" ::= ` "factory" ▸ < "identifier" > ▸ ` "(" ▸ ⟦ < "init_param_decls" > ⟧ ▸ ` ")" ▸ ` ";") ∷
    -- (24)
    ("init_param_decls" ::= < "init_param_decl" > ▸ (` "," ▸ < "init_param_decl" >) *) ∷
    -- (25)
    ("init_param_decl" ::= < "init_param_attribute" > ▸ < "param_type_spec" > ▸ < "simple_declarator" >) ∷
    -- (26)
    ("init_param_attribute" ::= ` "in") ∷
    -- (27)
    ("const_dcl" ::= ` "const" ▸ < "const_type" > ▸ < "identifier" > ▸ ` "=" ▸ < "const_exp" >) ∷
    -- (28)
    ("const_type" ::= < "integer_type" >
    ∣ < "char_type" >
    ∣ < "wide_char_type" >
    ∣ < "boolean_type" >
    ∣ < "floating_pt_type" >
    ∣ < "string_type" >
    ∣ < "wide_string_type" >
    ∣ < "fixed_pt_const_type" >
    ∣ < "scoped_name" >
    ∣ < "octet_type" >) ∷
    -- (29)
    ("const_exp" ::= < "or_expr" >) ∷
    -- (30)
    ("or_expr" ::= < "xor_expr" > ∣ < "or_expr" > ▸ ` "|" ▸ < "xor_expr" >) ∷
    -- (31)
    ("xor_expr" ::= < "and_expr" > ∣ < "xor_expr" > ▸ ` "^" ▸ < "and_expr" >) ∷
    -- (32)
    ("and_expr" ::= < "shift_expr" > ∣ < "and_expr" > ▸ ` "&" ▸ < "shift_expr" >) ∷
    -- (33)
    ("shift_expr" ::= < "add_expr" >
    ∣ < "shift_expr" > ▸ ` ">>" ▸ < "add_expr" >
    ∣ < "shift_expr" > ▸ ` "<<" ▸ < "add_expr" >) ∷
    -- (34)
    ("add_expr" ::= < "mult_expr" >
    ∣ < "add_expr" > ▸ ` "+" ▸ < "mult_expr" >
    ∣ < "add_expr" > ▸ ` "-" ▸ < "mult_expr" >) ∷
    -- (35)
    ("mult_expr" ::= < "unary_expr" >
    ∣ < "mult_expr" > ▸ ` "*" ▸ < "unary_expr" >
    ∣ < "mult_expr" > ▸ ` "/" ▸ < "unary_expr" >
    ∣ < "mult_expr" > ▸ ` "%" ▸ < "unary_expr" >) ∷
    -- (36)
    ("unary_expr" ::= < "unary_operator" > ▸ < "primary_expr" > ∣ < "primary_expr" >) ∷
    -- (37)
    ("unary_operator" ::= ` "-"
    ∣ ` "+"
    ∣ ` "~") ∷
    -- (38)
    ("primary_expr" ::= < "scoped_name" >
    ∣ < "literal" >
    ∣ ` "(" ▸ < "const_exp" > ▸ ` ")") ∷
    -- (39) repaired: the stray page number; amended by A1: neighbouring strings join
    ("literal" ::= < "integer_literal" >
    ∣ < "string_literal" > +
    ∣ < "wide_string_literal" > +
    ∣ < "character_literal" >
    ∣ < "wide_character_literal" >
    ∣ < "fixed_pt_literal" >
    ∣ < "floating_pt_literal" >
    ∣ < "boolean_literal" >) ∷
    -- (40) repaired: the space inside quotes
    ("boolean_literal" ::= ` "TRUE" ∣ ` "FALSE") ∷
    -- (41)
    ("positive_int_const" ::= < "const_exp" >) ∷
    -- (42)
    ("type_dcl" ::= ` "typedef" ▸ < "type_declarator" >
    ∣ < "struct_type" >
    ∣ < "union_type" >
    ∣ < "enum_type" >
    ∣ ` "native" ▸ < "simple_declarator" >
    ∣ < "constr_forward_decl" >) ∷
    -- (43)
    ("type_declarator" ::= < "type_spec" > ▸ < "declarators" >) ∷
    -- (44)
    ("type_spec" ::= < "simple_type_spec" > ∣ < "constr_type_spec" >) ∷
    -- (45)
    ("simple_type_spec" ::= < "base_type_spec" >
    ∣ < "template_type_spec" >
    ∣ < "scoped_name" >) ∷
    -- (46)
    ("base_type_spec" ::= < "floating_pt_type" >
    ∣ < "integer_type" >
    ∣ < "char_type" >
    ∣ < "wide_char_type" >
    ∣ < "boolean_type" >
    ∣ < "octet_type" >
    ∣ < "any_type" >
    ∣ < "object_type" >
    ∣ < "value_base_type" >) ∷
    -- (47)
    ("template_type_spec" ::= < "sequence_type" >
    ∣ < "string_type" >
    ∣ < "wide_string_type" >
    ∣ < "fixed_pt_type" >) ∷
    -- (48)
    ("constr_type_spec" ::= < "struct_type" >
    ∣ < "union_type" >
    ∣ < "enum_type" >) ∷
    -- (49) repaired: the missing "zero or more"
    ("declarators" ::= < "declarator" > ▸ (` "," ▸ < "declarator" >) *) ∷
    -- (50)
    ("declarator" ::= < "simple_declarator" > ∣ < "complex_declarator" >) ∷
    -- (51)
    ("simple_declarator" ::= < "identifier" >) ∷
    -- (52)
    ("complex_declarator" ::= < "array_declarator" >) ∷
    -- (53)
    ("floating_pt_type" ::= ` "float"
    ∣ ` "double"
    ∣ ` "long" ▸ ` "double") ∷
    -- (54)
    ("integer_type" ::= < "signed_int" > ∣ < "unsigned_int" >) ∷
    -- (55)
    ("signed_int" ::= < "signed_short_int" >
    ∣ < "signed_long_int" >
    ∣ < "signed_longlong_int" >) ∷
    -- (56) repaired: the stray page number
    ("signed_short_int" ::= ` "short") ∷
    -- (57)
    ("signed_long_int" ::= ` "long") ∷
    -- (58)
    ("signed_longlong_int" ::= ` "long" ▸ ` "long") ∷
    -- (59)
    ("unsigned_int" ::= < "unsigned_short_int" >
    ∣ < "unsigned_long_int" >
    ∣ < "unsigned_longlong_int" >) ∷
    -- (60)
    ("unsigned_short_int" ::= ` "unsigned" ▸ ` "short") ∷
    -- (61)
    ("unsigned_long_int" ::= ` "unsigned" ▸ ` "long") ∷
    -- (62)
    ("unsigned_longlong_int" ::= ` "unsigned" ▸ ` "long" ▸ ` "long") ∷
    -- (63)
    ("char_type" ::= ` "char") ∷
    -- (64)
    ("wide_char_type" ::= ` "wchar") ∷
    -- (65)
    ("boolean_type" ::= ` "boolean") ∷
    -- (66)
    ("octet_type" ::= ` "octet") ∷
    -- (67)
    ("any_type" ::= ` "any") ∷
    -- (68)
    ("object_type" ::= ` "Object") ∷
    -- (69)
    ("struct_type" ::= ` "struct" ▸ < "identifier" > ▸ ` "{" ▸ < "member_list" > ▸ ` "}") ∷
    -- (70)
    ("member_list" ::= < "member" > +) ∷
    -- (71)
    ("member" ::= < "type_spec" > ▸ < "declarators" > ▸ ` ";") ∷
    -- (72)
    ("union_type" ::= ` "union" ▸ < "identifier" > ▸ ` "switch" ▸ ` "(" ▸ < "switch_type_spec" > ▸ ` ")" ▸
    ` "{" ▸ < "switch_body" > ▸ ` "}") ∷
    -- (73)
    ("switch_type_spec" ::= < "integer_type" >
    ∣ < "char_type" >
    ∣ < "boolean_type" >
    ∣ < "enum_type" >
    ∣ < "scoped_name" >) ∷
    -- (74)
    ("switch_body" ::= < "case" > +) ∷
    -- (75)
    ("case" ::= < "case_label" > + ▸ < "element_spec" > ▸ ` ";") ∷
    -- (76)
    ("case_label" ::= ` "case" ▸ < "const_exp" > ▸ ` ":" ∣ ` "default" ▸ ` ":") ∷
    -- (77)
    ("element_spec" ::= < "type_spec" > ▸ < "declarator" >) ∷
    -- (78) repaired: the missing "zero or more"
    ("enum_type" ::= ` "enum" ▸ < "identifier" > ▸ ` "{" ▸ < "enumerator" > ▸ (` "," ▸ < "enumerator" >) * ▸
    ` "}") ∷
    -- (79)
    ("enumerator" ::= < "identifier" >) ∷
    -- (80)
    ("sequence_type" ::= ` "sequence" ▸ ` "<" ▸ < "simple_type_spec" > ▸ ` "," ▸ < "positive_int_const" > ▸ ` ">"
    ∣ ` "sequence" ▸ ` "<" ▸ < "simple_type_spec" > ▸ ` ">") ∷
    -- (81) repaired: the space inside quotes
    ("string_type" ::= ` "string" ▸ ` "<" ▸ < "positive_int_const" > ▸ ` ">" ∣ ` "string") ∷
    -- (82) repaired: the space inside quotes
    ("wide_string_type" ::= ` "wstring" ▸ ` "<" ▸ < "positive_int_const" > ▸ ` ">" ∣ ` "wstring") ∷
    -- (83)
    ("array_declarator" ::= < "identifier" > ▸ < "fixed_array_size" > +) ∷
    -- (84)
    ("fixed_array_size" ::= ` "[" ▸ < "positive_int_const" > ▸ ` "]") ∷
    -- (85)
    ("attr_dcl" ::= ⟦ ` "readonly" ⟧ ▸ ` "attribute" ▸ < "param_type_spec" > ▸ < "simple_declarator" > ▸
    (` "," ▸ < "simple_declarator" >) *) ∷
    -- (86)
    ("except_dcl" ::= ` "exception" ▸ < "identifier" > ▸ ` "{" ▸ < "member" > * ▸ ` "}") ∷
    -- (87)
    ("op_dcl" ::= ⟦ < "op_attribute" > ⟧ ▸ < "op_type_spec" > ▸ < "identifier" > ▸ < "parameter_dcls" > ▸
    ⟦ < "raises_expr" > ⟧ ▸ ⟦ < "context_expr" > ⟧) ∷
    -- (88)
    ("op_attribute" ::= ` "oneway") ∷
    -- (89) repaired: the space inside quotes
    ("op_type_spec" ::= < "param_type_spec" > ∣ ` "void") ∷
    -- (90) repaired: the missing "zero or more" and the space inside quotes
    ("parameter_dcls" ::= ` "(" ▸ < "param_dcl" > ▸ (` "," ▸ < "param_dcl" >) * ▸ ` ")"
    ∣ ` "(" ▸ ` ")") ∷
    -- (91)
    ("param_dcl" ::= < "param_attribute" > ▸ < "param_type_spec" > ▸ < "simple_declarator" >) ∷
    -- (92) repaired: the spaces inside quotes
    ("param_attribute" ::= ` "in"
    ∣ ` "out"
    ∣ ` "inout") ∷
    -- (93) repaired: the missing "zero or more"
    ("raises_expr" ::= ` "raises" ▸ ` "(" ▸ < "scoped_name" > ▸ (` "," ▸ < "scoped_name" >) * ▸ ` ")") ∷
    -- (94) repaired: the missing "zero or more" and the link text; amended by A1: neighbouring strings join
    ("context_expr" ::= ` "context" ▸ ` "(" ▸ < "string_literal" > + ▸ (` "," ▸ < "string_literal" > +) * ▸ ` ")") ∷
    -- (95)
    ("param_type_spec" ::= < "base_type_spec" >
    ∣ < "string_type" >
    ∣ < "wide_string_type" >
    ∣ < "scoped_name" >) ∷
    -- (96)
    ("fixed_pt_type" ::= ` "fixed" ▸ ` "<" ▸ < "positive_int_const" > ▸ ` "," ▸ < "positive_int_const" > ▸ ` ">") ∷
    -- (97)
    ("fixed_pt_const_type" ::= ` "fixed") ∷
    -- (98)
    ("value_base_type" ::= ` "ValueBase") ∷
    -- (99)
    ("constr_forward_decl" ::= ` "struct" ▸ < "identifier" > ∣ ` "union" ▸ < "identifier" >) ∷
    []

-- rules 1 and 8 are recorded always
unfoldable pub idl : Edition
unfolding edition published
idl = edition kind_of "specification" ("specification" ∷ "interface_body" ∷ []) published
