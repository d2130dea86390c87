-- The parts of plans that readers of structs, unions and their declarations follow, in the notation of the rules.
-- Assumes nothing: these are definitions.
use Rattle.std.specs.Prelude.{ℕ, List, [], ◌∷◌, ◌++◌}
use Rattle.kinds.specs.Kinds.{identifier}
use Rattle.kinds.specs.Lists.{kinds_of, only}
use Rattle.prediction.specs.plans.Plan.{Plan}
use Rattle.readers_core.specs.Notation.{`◌, <◌>, make, ◌▸◌, ◌∣◌, ◌*, ◌⟨◌⟩◌}

-- the kinds that begin a type, those of identifiers and words before the rest, and those that begin a case
abbrev pub low_type_starts : List ℕ
low_type_starts =
    identifier ∷ kinds_of
    ("Object" ∷ "ValueBase" ∷ "any" ∷ "boolean" ∷ "char" ∷ "double" ∷ "enum" ∷ "fixed" ∷ "float" ∷ "long" ∷ "octet" ∷
    "sequence" ∷ "short" ∷ "string" ∷ "struct" ∷ "union" ∷ "unsigned" ∷ "wchar" ∷ "wstring" ∷ [])

abbrev pub type_starts : List ℕ
type_starts = low_type_starts ++ only "::"

abbrev pub case_starts : List ℕ
case_starts = kinds_of ("case" ∷ "default" ∷ [])

-- what stands between the braces of a struct, of a union, of an exception; the type of a switch between its parentheses
abbrev pub struct_body : Plan
struct_body = "{" ⟨ < "member_list" > ⟩ "}"

abbrev pub switch_block : Plan
switch_block = "{" ⟨ < "switch_body" > ⟩ "}"

abbrev pub exception_body : Plan
exception_body = "{" ⟨ < "member" > * ⟩ "}"

abbrev pub switch_head : Plan
switch_head = "(" ⟨ < "switch_type_spec" > ⟩ ")"

-- behind the name of a union
abbrev pub union_rest : Plan
union_rest = ` "switch" ▸ switch_head ▸ switch_block ▸ make "union_type"

-- a struct or a union, declared or only named
abbrev pub struct_dcl : Plan
struct_dcl = ` "struct" ▸ < "identifier" > ▸ (struct_body ▸ make "struct_type" ∣ make "constr_forward_decl")

abbrev pub union_dcl : Plan
union_dcl = ` "union" ▸ < "identifier" > ▸ (union_rest ∣ make "constr_forward_decl")
