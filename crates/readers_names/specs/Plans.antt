-- The parts of plans that readers of names, literals and basic types follow, in the notation of the rules.
-- Assumes nothing: these are definitions.
use Rattle.std.specs.Prelude.{ℕ, cond, List, [], ◌∷◌, eqb}
use Prim.Native.String.{String}
use Rattle.kinds.specs.Kinds.{kind_of}
use Rattle.grammar.specs.Names.{rule}
use Rattle.prediction.specs.plans.Plan.{Plan, token, wrap, seq, alt, many}
use Rattle.readers_core.specs.Notation.{`◌, <◌>, make, ◌▸◌, ◌∣◌}

-- a name, which "::" may precede; and each further step behind it
abbrev pub first_name : Plan
first_name = < "identifier" > ∣ ` "::" ▸ < "identifier" >

abbrev pub further_name : Plan
further_name = (` "::" ▸ < "identifier" >) ▸ make "scoped_name"

-- behind "long": a second "long" or nothing
abbrev pub behind_long : Plan
behind_long = ` "long" ▸ make "signed_longlong_int" ∣ make "signed_long_int"

-- behind "unsigned"
abbrev pub behind_unsigned : Plan
behind_unsigned =
    ` "short" ▸ make "unsigned_short_int"
    ∣ ` "long" ▸ (` "long" ▸ make "unsigned_longlong_int" ∣ make "unsigned_long_int")

-- integer and floating types, where a frame begins
abbrev pub long_number : Plan
long_number = ` "double" ▸ make "floating_pt_type" ∣ behind_long ▸ make "signed_int" ▸ make "integer_type"

abbrev pub short_number : Plan
short_number = ` "short" ▸ make "signed_short_int" ▸ make "signed_int" ▸ make "integer_type"

abbrev pub number_type : Plan
number_type =
    ` "long" ▸ long_number
    ∣ ` "float" ▸ make "floating_pt_type"
    ∣ ` "double" ▸ make "floating_pt_type"
    ∣ short_number
    ∣ < "unsigned_int" > ▸ make "integer_type"

-- a string literal of kind k, which is narrow or wide: one string or more, side by side
abbrev pub string_literal : (k : ℕ) → Plan
string_literal k = seq (token k) (many (token k))

-- the types that are one word, and their rules; of any other kind the rule is that of "ValueBase"
abbrev pub words : List (String × String)
words =
    ("fixed", "fixed_pt_const_type") ∷ ("Object", "object_type") ∷ ("any", "any_type") ∷ ("octet", "octet_type") ∷ ("boolean", "boolean_type") ∷
    ("wchar", "wide_char_type") ∷ ("char", "char_type") ∷ []

unfoldable pub rule_in : List (String × String) → ℕ → ℕ
rule_in [] k = rule "value_base_type"
rule_in ((word, name) ∷ rest) k = cond (eqb k (kind_of word)) (rule name) (rule_in rest k)

abbrev pub word_rule : ℕ → ℕ
word_rule = rule_in words

-- a rule n that is one of three tokens
abbrev pub one_of_three : (first second third n : ℕ) → Plan
one_of_three first second third n = seq (alt (token first) (alt (token second) (token third))) (wrap n)
