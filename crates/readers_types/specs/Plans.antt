-- The parts of plans that readers of types follow, in the notation of the rules.
-- Assumes nothing: these are definitions.
use Rattle.std.specs.Prelude.{ℕ, cond, List, [], ◌∷◌, eqb, ◌⊎◌, ◌≡◌}
use Rattle.kinds.specs.Kinds.{kind_of}
use Rattle.kinds.specs.Lists.{kinds_of}
use Rattle.grammar.specs.Names.{rule}
use Rattle.prediction.specs.plans.Plan.{Plan, token, wrap}
use Rattle.readers_core.specs.Notation.{`◌, <◌>, make, ◌▸◌, ◌∣◌, ⟦◌⟧, ◌*, ◌⟨◌⟩◌, list_of}

-- the words of string types, in order of their kinds
abbrev pub strings : List ℕ
strings = kinds_of ("string" ∷ "wstring" ∷ [])

abbrev pub IsString : ℕ → Type 0
IsString k = (k ≡ kind_of "string") ⊎ (k ≡ kind_of "wstring")

-- the rule of such a type; its plan, where its word is k and its rule r: with a bound or without one
abbrev pub string_rule : ℕ → ℕ
string_rule k = cond (eqb k (kind_of "string")) (rule "string_type") (rule "wide_string_type")

abbrev pub string_plan : (k r : ℕ) → Plan
string_plan k r = token k ▸ ⟦ "<" ⟨ < "positive_int_const" > ⟩ ">" ⟧ ▸ wrap r

-- the two bounds of a fixed-point type
abbrev pub fixed_bounds : Plan
fixed_bounds = "<" ⟨ < "positive_int_const" > ▸ ` "," ▸ < "positive_int_const" > ⟩ ">"

-- behind the name of a declarator: array sizes or nothing
abbrev pub behind_name : Plan
behind_name =
    < "fixed_array_size" > ▸ (< "fixed_array_size" > *) ▸ make "array_declarator" ▸ make "complex_declarator"
    ∣ make "simple_declarator"

-- the enumerators of an enum
abbrev pub enumerators : Plan
enumerators = "{" ⟨ list_of (rule "enumerator") ⟩ "}"

-- the bound of a sequence, behind a comma, or none
abbrev pub sequence_bound : Plan
sequence_bound = ⟦ ` "," ▸ < "positive_int_const" > ⟧

-- what a sequence holds
abbrev pub sequence_body : Plan
sequence_body = "<" ⟨ < "simple_type_spec" > ▸ sequence_bound ⟩ ">"
