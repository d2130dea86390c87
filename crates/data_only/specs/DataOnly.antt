-- Source document 001, its rules counted from the top starting at 201, in its order and form. What paper 02 says of a rule is marked where it stands.
-- Assumes nothing: data, to be believed once edition 3 is offered.
use Rattle.std.specs.Prelude.{ℕ, List, [], ◌∷◌, ◌++◌, replicate}
use Prim.Native.String.{String}
use Rattle.kinds.specs.Kinds.{kind_of}
use Rattle.grammar.specs.Rule.{nothing, Edition}
use Rattle.grammar.specs.Notation.{`◌, <◌>, ◌▸◌, ◌∣◌, ◌*, ◌+, Rule, ◌::=◌, names, place, places, resolve_all}

-- numbers 1 to 200 are no rules
abbrev pub skipped : ℕ
skipped = 200

unfoldable pub published : List Rule
published =
    -- (201)
    ("specification" ::= < "definition" > +) ∷
    -- (202)
    ("definition" ::= < "module_dcl" > ▸ ` ";"
    ∣ < "const_dcl" > ▸ ` ";"
    ∣ < "type_dcl" > ▸ ` ";") ∷
    -- (203)
    ("module_dcl" ::= ` "module" ▸ < "identifier" > ▸ ` "{" ▸ < "definition" > + ▸ ` "}") ∷
    -- (204)
    ("scoped_name" ::= < "identifier" >
    ∣ ` "::" ▸ < "identifier" >
    ∣ < "scoped_name" > ▸ ` "::" ▸ < "identifier" >) ∷
    -- (205)
    ("const_dcl" ::= ` "const" ▸ < "const_type" > ▸ < "identifier" > ▸ ` "=" ▸ < "const_expr" >) ∷
    -- (206)
    ("const_type" ::= < "integer_type" >
    ∣ < "floating_pt_type" >
    ∣ < "fixed_pt_const_type" >
    ∣ < "char_type" >
    ∣ < "wide_char_type" >
    ∣ < "boolean_type" >
    ∣ < "octet_type" >
    ∣ < "string_type" >
    ∣ < "wide_string_type" >
    ∣ < "scoped_name" >) ∷
    -- (207)
    ("const_expr" ::= < "or_expr" >) ∷
    -- (208)
    ("or_expr" ::= < "xor_expr" > ∣ < "or_expr" > ▸ ` "|" ▸ < "xor_expr" >) ∷
    -- (209)
    ("xor_expr" ::= < "and_expr" > ∣ < "xor_expr" > ▸ ` "^" ▸ < "and_expr" >) ∷
    -- (210)
    ("and_expr" ::= < "shift_expr" > ∣ < "and_expr" > ▸ ` "&" ▸ < "shift_expr" >) ∷
    -- (211)
    ("shift_expr" ::= < "add_expr" >
    ∣ < "shift_expr" > ▸ ` ">>" ▸ < "add_expr" >
    ∣ < "shift_expr" > ▸ ` "<<" ▸ < "add_expr" >) ∷
    -- (212)
    ("add_expr" ::= < "mult_expr" >
    ∣ < "add_expr" > ▸ ` "+" ▸ < "mult_expr" >
    ∣ < "add_expr" > ▸ ` "-" ▸ < "mult_expr" >) ∷
    -- (213)
    ("mult_expr" ::= < "unary_expr" >
    ∣ < "mult_expr" > ▸ ` "*" ▸ < "unary_expr" >
    ∣ < "mult_expr" > ▸ ` "/" ▸ < "unary_expr" >
    ∣ < "mult_expr" > ▸ ` "%" ▸ < "unary_expr" >) ∷
    -- (214)
    ("unary_expr" ::= < "unary_operator" > ▸ < "primary_expr" > ∣ < "primary_expr" >) ∷
    -- (215)
    ("unary_operator" ::= ` "-"
    ∣ ` "+"
    ∣ ` "~") ∷
    -- (216)
    ("primary_expr" ::= < "scoped_name" >
    ∣ < "literal" >
    ∣ ` "(" ▸ < "const_expr" > ▸ ` ")") ∷
    -- (217) amended by A13: neighbouring strings join
    ("literal" ::= < "integer_literal" >
    ∣ < "floating_pt_literal" >
    ∣ < "fixed_pt_literal" >
    ∣ < "character_literal" >
    ∣ < "wide_character_literal" >
    ∣ < "boolean_literal" >
    ∣ < "string_literal" > +
    ∣ < "wide_string_literal" > +) ∷
    -- (218)
    ("boolean_literal" ::= ` "TRUE" ∣ ` "FALSE") ∷
    -- (219)
    ("positive_int_const" ::= < "const_expr" >) ∷
    -- (220)
    ("type_dcl" ::= < "constr_type_dcl" >
    ∣ < "native_dcl" >
    ∣ < "typedef_dcl" >) ∷
    -- (221)
    ("type_spec" ::= < "simple_type_spec" >) ∷
    -- (222)
    ("simple_type_spec" ::= < "base_type_spec" > ∣ < "scoped_name" >) ∷
    -- (223)
    ("base_type_spec" ::= < "integer_type" >
    ∣ < "floating_pt_type" >
    ∣ < "char_type" >
    ∣ < "wide_char_type" >
    ∣ < "boolean_type" >
    ∣ < "octet_type" >) ∷
    -- (224)
    ("floating_pt_type" ::= ` "float"
    ∣ ` "double"
    ∣ ` "long" ▸ ` "double") ∷
    -- (225)
    ("integer_type" ::= < "signed_int" > ∣ < "unsigned_int" >) ∷
    -- (226)
    ("signed_int" ::= < "signed_short_int" >
    ∣ < "signed_long_int" >
    ∣ < "signed_longlong_int" >) ∷
    -- (227)
    ("signed_short_int" ::= ` "short") ∷
    -- (228)
    ("signed_long_int" ::= ` "long") ∷
    -- (229)
    ("signed_longlong_int" ::= ` "long" ▸ ` "long") ∷
    -- (230)
    ("unsigned_int" ::= < "unsigned_short_int" >
    ∣ < "unsigned_long_int" >
    ∣ < "unsigned_longlong_int" >) ∷
    -- (231)
    ("unsigned_short_int" ::= ` "unsigned" ▸ ` "short") ∷
    -- (232)
    ("unsigned_long_int" ::= ` "unsigned" ▸ ` "long") ∷
    -- (233)
    ("unsigned_longlong_int" ::= ` "unsigned" ▸ ` "long" ▸ ` "long") ∷
    -- (234)
    ("char_type" ::= ` "char") ∷
    -- (235)
    ("wide_char_type" ::= ` "wchar") ∷
    -- (236)
    ("boolean_type" ::= ` "boolean") ∷
    -- (237)
    ("octet_type" ::= ` "octet") ∷
    -- (238)
    ("template_type_spec" ::= < "sequence_type" >
    ∣ < "string_type" >
    ∣ < "wide_string_type" >
    ∣ < "fixed_pt_type" >) ∷
    -- (239)
    ("sequence_type" ::= ` "sequence" ▸ ` "<" ▸ < "type_spec" > ▸ ` "," ▸ < "positive_int_const" > ▸ ` ">"
    ∣ ` "sequence" ▸ ` "<" ▸ < "type_spec" > ▸ ` ">") ∷
    -- (240)
    ("string_type" ::= ` "string" ▸ ` "<" ▸ < "positive_int_const" > ▸ ` ">" ∣ ` "string") ∷
    -- (241)
    ("wide_string_type" ::= ` "wstring" ▸ ` "<" ▸ < "positive_int_const" > ▸ ` ">" ∣ ` "wstring") ∷
    -- (242)
    ("fixed_pt_type" ::= ` "fixed" ▸ ` "<" ▸ < "positive_int_const" > ▸ ` "," ▸ < "positive_int_const" > ▸ ` ">") ∷
    -- (243)
    ("fixed_pt_const_type" ::= ` "fixed") ∷
    -- (244)
    ("constr_type_dcl" ::= < "struct_dcl" >
    ∣ < "union_dcl" >
    ∣ < "enum_dcl" >) ∷
    -- (245)
    ("struct_dcl" ::= < "struct_def" > ∣ < "struct_forward_dcl" >) ∷
    -- (246)
    ("struct_def" ::= ` "struct" ▸ < "identifier" > ▸ ` "{" ▸ < "member" > + ▸ ` "}") ∷
    -- (247)
    ("member" ::= < "type_spec" > ▸ < "declarators" > ▸ ` ";") ∷
    -- (248)
    ("struct_forward_dcl" ::= ` "struct" ▸ < "identifier" >) ∷
    -- (249)
    ("union_dcl" ::= < "union_def" > ∣ < "union_forward_dcl" >) ∷
    -- (250)
    ("union_def" ::= ` "union" ▸ < "identifier" > ▸ ` "switch" ▸ ` "(" ▸ < "switch_type_spec" > ▸ ` ")" ▸ ` "{" ▸
    < "switch_body" > ▸ ` "}") ∷
    -- (251)
    ("switch_type_spec" ::= < "integer_type" >
    ∣ < "char_type" >
    ∣ < "boolean_type" >
    ∣ < "scoped_name" >) ∷
    -- (252)
    ("switch_body" ::= < "case" > +) ∷
    -- (253)
    ("case" ::= < "case_label" > + ▸ < "element_spec" > ▸ ` ";") ∷
    -- (254)
    ("case_label" ::= ` "case" ▸ < "const_expr" > ▸ ` ":" ∣ ` "default" ▸ ` ":") ∷
    -- (255)
    ("element_spec" ::= < "type_spec" > ▸ < "declarator" >) ∷
    -- (256)
    ("union_forward_dcl" ::= ` "union" ▸ < "identifier" >) ∷
    -- (257)
    ("enum_dcl" ::= ` "enum" ▸ < "identifier" > ▸ ` "{" ▸ < "enumerator" > ▸ (` "," ▸ < "enumerator" >) * ▸ ` "}") ∷
    -- (258)
    ("enumerator" ::= < "identifier" >) ∷
    -- (259)
    ("array_declarator" ::= < "identifier" > ▸ < "fixed_array_size" > +) ∷
    -- (260)
    ("fixed_array_size" ::= ` "[" ▸ < "positive_int_const" > ▸ ` "]") ∷
    -- (261)
    ("native_dcl" ::= ` "native" ▸ < "simple_declarator" >) ∷
    -- (262)
    ("simple_declarator" ::= < "identifier" >) ∷
    -- (263)
    ("typedef_dcl" ::= ` "typedef" ▸ < "type_declarator" >) ∷
    -- (264) as A13 says, the starless braces mean a choice; `struct A` is a type here through rule 248
    ("type_declarator" ::= (< "simple_type_spec" > ∣ < "template_type_spec" > ∣ < "constr_type_dcl" >) ▸
    < "any_declarators" >) ∷
    -- (265)
    ("any_declarators" ::= < "any_declarator" > ▸ (` "," ▸ < "any_declarator" >) *) ∷
    -- (266)
    ("any_declarator" ::= < "simple_declarator" > ∣ < "array_declarator" >) ∷
    -- (267)
    ("declarators" ::= < "declarator" > ▸ (` "," ▸ < "declarator" >) *) ∷
    -- (268)
    ("declarator" ::= < "simple_declarator" >) ∷
    []

-- the names by rule number
unfoldable pub rule_names : List String
unfolding names published
rule_names = replicate skipped "" ++ names published

-- rule 201 is recorded always, and no other
unfoldable pub data_only : Edition
unfolding resolve_all rule_names published
data_only = record {
  rules = nothing ∷ replicate skipped nothing ++ resolve_all kind_of rule_names published;
  start = place "specification" rule_names;
  always = places ("specification" ∷ []) rule_names;
}
